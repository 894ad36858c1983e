use Rattle.std.proofs.Common.{◌≡◌, ℕ, List, length, map, Result, Ok, Err, IfOk, OnOk, Bor, subst, ap}
use Rattle.std.specs.Io.KnownBytes.{Appends}
use Rattle.dq_tables.specs.declared.row.Row.{Row}
use Rattle.dq_app.specs.Copies.{copied_line}
use Rattle.dq_app.proofs.copying.copy.Goals as goal

-- what follows from a success is so of it
on-ok : {T E : Type 0} (r : Result T E) (P Q : Type 0) → (P → Q) → OnOk r P → OnOk r Q
on-ok (Ok x) P Q follows holds = follows holds
on-ok (Err e) P Q follows holds = tt

-- a store was closed with the rows that are copied, and their number was printed
told : {E : Type 0} (closed : List Row → Type 0) (copied : List (List ℕ) → List Row → Type 0) (lent given : List (List ℕ))
    (r : Result ℕ E) (count : ℕ) (Printed : ℕ → Type 0) → lent ≡ given → r ≡ Ok count
    → IfOk r (λ n. (kept : List Row) × closed kept × copied lent kept × (length kept ≡ n)) → Printed count
    → (kept : List Row) × closed kept × copied given kept × Printed (length kept)
told closed copied lent given (Err e) count Printed same is made printed = absurd (cc)
told closed copied lent given (Ok n) count Printed same is made printed =
    let number : length made.0 ≡ count = cc in
    let rows = subst (λ (names : List (List ℕ)). copied names made.0) same made.2 in
    (made.0, made.1, rows, rw number printed)

pub returns-clause-done : goal.returns-clause-done
returns-clause-done g c =
    on-ok c.put_count.result _ _
    (λ printed. told (g.Rt.Stores.closed c.args.rt.now) (g.Rt.Stores.copied c.args.rt.now c.args.copying.now.from.now) _ _ c.in_ok-copy.field-0
    c.in_ok-count.count (λ (n : ℕ). Appends (g.W.Sink.written c.args.output.now) (g.W.Sink.written c.put_count.new.output) (copied_line n))
    (ap (λ (names : List (Bor (List ℕ))). map (λ (name : Bor (List ℕ)). name.now) names) c.as_slice-only.ensures.value) c.in_ok-count.was
    c.in_ok-copy.ensures printed)
    c.put_count.ensures.line
