use Rattle.std.proofs.Common.{◌≡◌, ℕ, true, List, inr, sym, ap, ◌∙◌}
use Rattle.std.specs.List.{list_any}
use Rattle.slab.specs.Slab.{entries}
use Rattle.dq_core.specs.declared.slot.Slot.{Slot}
use Rattle.dq_core.specs.Slots.{is_searching}
use Rattle.dq_core.proofs.Turning.{none-searches, searches-none}
use Rattle.dq_core.proofs.connections.take_log.Goals as goal

pub returns-clause-taken : goal.returns-clause-taken
returns-clause-taken c =
    let slots = c.args.slots.now in
    inr (rw c.in-Some.is (none-searches c.in-Some.institution.now.name slots
    (ap (λ (name : List ℕ). list_any (λ (e : ℕ × Slot). is_searching name e.1) (entries slots)) (sym c.as_slice.ensures) ∙ sym c.if-is_searched.ensures)))

pub returns-then-is_searched-clause-begun_anew : goal.returns-then-is_searched-clause-begun_anew
returns-then-is_searched-clause-begun_anew c =
    let slots = c.args.slots.now in
    let searched : list_any (λ (e : ℕ × Slot). is_searching c.in-Some.institution.now.name e.1) (entries slots) ≡ true =
    ap (λ (name : List ℕ). list_any (λ (e : ℕ × Slot). is_searching name e.1) (entries slots)) (sym c.as_slice.ensures) ∙ sym c.is_searched.ensures
    ∙ c.if-is_searched.true in
    rw c.in-Some.is (λ none. absurd (cc (sym searched ∙ searches-none c.in-Some.institution.now.name slots none)))
