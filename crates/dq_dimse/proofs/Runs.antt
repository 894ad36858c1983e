-- Runs of fragments.
use Rattle.std.proofs.Common.{◌≡◌, ℕ, ◌<◌, Bool, true, false, List, [], ◌∷◌, ◌++◌, length, refl, sym, ap, subst, ◌∙◌, append_assoc, arith, length-append}
use Rattle.std.specs.Prelude.{All}
use Rattle.std.specs.List.{AllByRecursion}
use Rattle.std.proofs.lemmas.Bool.{false≢true}
use Rattle.std.proofs.lemmas.List.{append-nil}
use Rattle.std.proofs.lemmas.List.Concat.{flat_map-append}
use Rattle.std.proofs.lemmas.List.Elements.{All-append, All-from_recursion, recursion_from_All}
use Rattle.dq_pdu.specs.declared.pdu.Pdv.{Pdv}
use Rattle.dq_dimse.specs.declared.command.Command.{Command}
use Rattle.dq_dimse.specs.Messages.{fragment, fragment_octets, AreFragments, AreAllFragments, AwaitsData, IsExpected}

pub joined-append : (xs ys : List Pdv) → fragment_octets (xs ++ ys) ≡ fragment_octets xs ++ fragment_octets ys
joined-append xs ys = flat_map-append fragment xs ys

pub joined-push : (front : List Pdv) (pdv : Pdv) → fragment_octets (front ++ pdv ∷ []) ≡ fragment_octets front ++ pdv.octets
joined-push front pdv = joined-append front (pdv ∷ []) ∙ ap (λ (xs : List ℕ). fragment_octets front ++ xs) (append-nil pdv.octets)

abbrev pub IsOf : ℕ → Pdv → Type 0
IsOf context pdv = pdv.context ≡ context

pub all_push : (P : Pdv → Type 0) (run : List Pdv) (pdv : Pdv) → All P run → P pdv → All P (run ++ pdv ∷ [])
all_push P run pdv h p = All-append P run (pdv ∷ []) h (All-from_recursion P (pdv ∷ []) (p, tt))

pub no_fragments : (context : ℕ) (command : Bool) → AreFragments context command []
no_fragments context command = record {
  context_is = All-from_recursion (IsOf context) [] tt;
  kind_is = All-from_recursion (λ (x : Pdv). x.command ≡ command) [] tt;
  unfinished = All-from_recursion (λ (x : Pdv). x.last ≡ false) [] tt;
}

pub one_more_fragment : (context : ℕ) (command : Bool) (run : List Pdv) (pdv : Pdv) → AreFragments context command run → pdv.context ≡ context
    → pdv.command ≡ command → pdv.last ≡ false
    → AreFragments context command (run ++ pdv ∷ [])
one_more_fragment context command run pdv f c k l = record {
  context_is = all_push (IsOf context) run pdv f.context_is c;
  kind_is = all_push (λ (x : Pdv). x.command ≡ command) run pdv f.kind_is k;
  unfinished = all_push (λ (x : Pdv). x.last ≡ false) run pdv f.unfinished l;
}

pub last_fragment : (context : ℕ) (command : Bool) (run : List Pdv) (pdv : Pdv) → AreFragments context command run → pdv.context ≡ context
    → pdv.command ≡ command → pdv.last ≡ true
    → AreAllFragments context command (run ++ pdv ∷ [])
last_fragment context command run pdv f c k l = record { front = run; final = pdv; parts = refl; fragments = f; context_is = c; kind_is = k; finished = l }

-- a fragment of a run, as a record
pub record IsFragment (context : ℕ) (command : Bool) (pdv : Pdv) : Type 0 where
  pub context_is : pdv.context ≡ context
  pub kind_is : pdv.command ≡ command
  pub unfinished : pdv.last ≡ false

by_parts : (context : ℕ) (command : Bool) (run : List Pdv) → AllByRecursion (IsOf context) run → AllByRecursion (λ (x : Pdv). x.command ≡ command) run
    → AllByRecursion (λ (x : Pdv). x.last ≡ false) run
    → AllByRecursion (IsFragment context command) run
by_parts context command [] a b c = tt
by_parts context command (x ∷ xs) a b c = (record { context_is = a.0; kind_is = b.0; unfinished = c.0 }, by_parts context command xs a.1 b.1 c.1)

pub each_fragment : (context : ℕ) (command : Bool) (run : List Pdv) → AreFragments context command run → AllByRecursion (IsFragment context command) run
each_fragment context command run f = grind (arith, by_parts, recursion_from_All)

-- ---- the context of a run

pub all_of : (context : ℕ) (command : Bool) (run : List Pdv) → AreAllFragments context command run → All (IsOf context) run
all_of context command run f = subst (All (IsOf context)) (sym f.parts) (all_push (IsOf context) f.front f.final f.fragments.context_is f.context_is)

pub some_fragments : (context : ℕ) (command : Bool) (run : List Pdv) → AreAllFragments context command run → 0 < length run
some_fragments context command run f = let n = ap length f.parts in omega (arith, length-append f.front (f.final ∷ []))

pub data_context : (ids : List ℕ) (context : ℕ) (command : Command) (run : List Pdv) → AwaitsData ids context command run → All (IsOf context) run
data_context ids context command run a =
    subst (All (IsOf context)) (sym a.parts) (All-append (IsOf context) a.commands a.data_part
    (all_of context true a.commands a.command_is.fragments) a.fragments.context_is)

pub data_some : (ids : List ℕ) (context : ℕ) (command : Command) (run : List Pdv) → AwaitsData ids context command run → 0 < length run
data_some ids context command run a = grind (arith, some_fragments, length-append)

-- the context of a run is that of its first PDV
pub expected_is : (ids : List ℕ) (context : ℕ) (front : List Pdv) (pdv : Pdv) → All (IsOf context) front → 0 < length front → IsExpected ids front pdv
    → pdv.context ≡ context
expected_is ids context [] pdv f some h = absurd (omega arith)
expected_is ids context (x ∷ xs) pdv f some h = h ∙ f 0 x (omega arith)

pub is_expected : (ids : List ℕ) (context : ℕ) (front : List Pdv) (pdv : Pdv) → All (IsOf context) front → 0 < length front → pdv.context ≡ context
    → IsExpected ids front pdv
is_expected ids context [] pdv f some e = absurd (omega arith)
is_expected ids context (x ∷ xs) pdv f some e = e ∙ sym (f 0 x (omega arith))

-- ---- the end of a run

heads : (x y : Pdv) (xs ys : List Pdv) → x ∷ xs ≡ y ∷ ys → (x ≡ y) × (xs ≡ ys)
heads x y xs ys e = (cc, cc)

unfinished_parts : (context : ℕ) (command : Bool) (run : List Pdv) → AreFragments context command run → AllByRecursion (λ (p : Pdv). p.last ≡ false) run
unfinished_parts context command run f = recursion_from_All (λ (p : Pdv). p.last ≡ false) run f.unfinished

-- two runs that begin alike end alike: at the first PDV that is a last one
same_end : (xs ys : List Pdv) (x y : Pdv) (us vs : List Pdv) → AllByRecursion (λ (p : Pdv). p.last ≡ false) xs
    → AllByRecursion (λ (p : Pdv). p.last ≡ false) ys → x.last ≡ true → y.last ≡ true
    → xs ++ x ∷ us ≡ ys ++ y ∷ vs → us ≡ vs
same_end [] [] x y us vs p q a b e = (heads x y us vs e).1
same_end [] (z ∷ ys) x y us vs p q a b e = absurd (false≢true (sym q.0 ∙ ap (λ (v : Pdv). v.last) (sym (heads x z us (ys ++ y ∷ vs) e).0) ∙ a))
same_end (z ∷ xs) [] x y us vs p q a b e = absurd (false≢true (sym p.0 ∙ ap (λ (v : Pdv). v.last) (heads z y (xs ++ x ∷ us) vs e).0 ∙ b))
same_end (z ∷ xs) (w ∷ ys) x y us vs p q a b e = same_end xs ys x y us vs p.1 q.1 a b (heads z w (xs ++ x ∷ us) (ys ++ y ∷ vs) e).1

regrouped : (run front : List Pdv) (final : Pdv) (others : List Pdv) → run ≡ front ++ final ∷ [] → run ++ others ≡ front ++ final ∷ others
regrouped run front final others e = ap (λ (xs : List Pdv). xs ++ others) e ∙ append_assoc front (final ∷ []) others

pub same_others : (context other_context : ℕ) (command : Bool) (xs ys us vs : List Pdv) → AreAllFragments context command xs
    → AreAllFragments other_context command ys → xs ++ us ≡ ys ++ vs → us ≡ vs
same_others context other_context command xs ys us vs f g e =
    same_end f.front g.front f.final g.final us vs (unfinished_parts context command f.front f.fragments)
    (unfinished_parts other_context command g.front g.fragments) f.finished g.finished
    (sym (regrouped xs f.front f.final us f.parts) ∙ e ∙ regrouped ys g.front g.final vs g.parts)
