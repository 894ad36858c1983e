-- What is kept, beside its limit.
use Rattle.std.proofs.Common.{◌≡◌, ℕ, min, ◌+◌, ◌<◌, ◌≤◌, Bool, true, false, cond, ltb, not, ◌||◌, ◌&&◌, List, [], ◌∷◌, ◌++◌, length, refl, sym, ap, ◌∙◌, arith}
use Rattle.std.proofs.Math.Bool.{or-false}
use Rattle.std.proofs.lemmas.Bool.{ltb-false}
use Rattle.std.proofs.lemmas.Bool.Decides.{nat_tests}
use Rattle.std.proofs.lemmas.List.{length-append, append-nil}
use Rattle.dq_dataset.proofs.Types.{Tag, Vr, Syntax, Explicit, ReadFault, Content, Element, Value, Octets, ElementList}
use Rattle.dq_dataset.specs.declared.sieve.Outer.{Outer}
use Rattle.dq_dataset.specs.declared.sieve.Sifted.TheVariants.{Kept, Large, Fault}
use Rattle.dq_dataset.specs.View.{as_elements}
use Rattle.dq_dataset.specs.Canonical.{canonical, HasLengths}
use Rattle.dq_dataset.specs.Grammar.{SpellsValue}
use Rattle.dq_dataset.specs.Sieve.{kept_limit, is_over_limit, sifted_of}
use Rattle.dq_dataset.specs.Sieving.{sifted_or_too_long, kept_unless_over, is_length_over_limit, KeepsWithinLimit, IsWithinLimit}
use Rattle.dq_dataset.proofs.Counted.{value_length, short_elements}

-- ---- lengths

joined_length : (s : Syntax) (xs ys : List Element)
    → length (canonical s (as_elements (xs ++ ys))) ≡ length (canonical s (as_elements xs)) + length (canonical s (as_elements ys))
joined_length s [] ys = omega arith
joined_length s (e ∷ xs) ys = omega (
  arith,
  value_length s e.tag e.vr e.value (as_elements xs),
  value_length s e.tag e.vr e.value (as_elements (xs ++ ys)),
  joined_length s xs ys,
)

over_limit : (d : ElementList) → is_over_limit d ≡ true → kept_limit < length (canonical Explicit d)
unfolding is_over_limit
over_limit d large = grind (arith, nat_tests)

pub limit_passed : (d : ElementList) → kept_limit < length (canonical Explicit d) → is_over_limit d ≡ true
unfolding is_over_limit
limit_passed d over = grind (arith, nat_tests)

-- as it is counted, up to FFFFFFFFH
pub counted_large : (d : ElementList) (n : ℕ) → n ≡ min (length (canonical Explicit d)) 0xFFFFFFFF → ltb kept_limit n ≡ is_over_limit d
unfolding is_over_limit
counted_large d n counted = grind (arith, nat_tests)

none_large : is_over_limit (as_elements []) ≡ false
unfolding is_over_limit
none_large = refl

-- what is over the limit stays so, whatever joins it
more_large : (xs ys : List Element) → is_over_limit (as_elements xs) ≡ true → is_over_limit (as_elements (xs ++ ys)) ≡ true
more_large xs ys large = grind (arith, nat_tests, over_limit, limit_passed, joined_length)

-- one value over the limit is enough
one_large : (xs ys : List Element) (e : Element) (octets : List ℕ) → e.value ≡ Octets octets → kept_limit < length octets
    → is_over_limit (as_elements (xs ++ e ∷ ys)) ≡ true
one_large xs ys e octets is over = grind (arith, nat_tests, limit_passed, joined_length, value_length)

-- ---- what is answered

kept_on : (large next b : Bool) (ks held more : List Element) (other : Bool) → is_over_limit (as_elements ks) ≡ b → next ≡ (large || b)
    → held ≡ kept_unless_over next ks → sifted_or_too_long next (held ++ more) other ≡ sifted_or_too_long large (ks ++ more) other
kept_on large next b ks held more other is next_is state_is = grind (arith, nat_tests, more_large)

pub judged_on : (large next : Bool) (ks held more : List Element) (other : Bool) → next ≡ (large || is_over_limit (as_elements ks))
    → held ≡ kept_unless_over next ks → sifted_or_too_long next (held ++ more) other ≡ sifted_or_too_long large (ks ++ more) other
judged_on large next ks held more other = kept_on large next (is_over_limit (as_elements ks)) ks held more other refl

neither : (a b : Bool) → false ≡ (a || b) → b ≡ false
neither true b none = absurd cc
neither false b none = sym none

pub within_on : (large next : Bool) (ks held : List Element) → next ≡ (large || is_over_limit (as_elements ks)) → held ≡ kept_unless_over next ks → KeepsWithinLimit next held
within_on large true ks held is state_is = state_is
within_on large false ks held is state_is = ap (λ (h : List Element). is_over_limit (as_elements h)) state_is ∙ neither large (is_over_limit (as_elements ks)) is

pub starts_within : (outer : Outer) → outer.large ≡ false → outer.kept.items ≡ [] → IsWithinLimit outer
starts_within outer small none = rw (small, none) none_large

pub within_by : (outer : Outer) → outer.large ≡ true → outer.kept.items ≡ [] → IsWithinLimit outer
within_by outer large none = rw large none

pub judged_kept : (large : Bool) (kept : List Element) (other : Bool) → large ≡ false → is_over_limit (as_elements kept) ≡ false
    → Kept (as_elements kept) other ≡ sifted_or_too_long large (kept ++ []) (other || false)
judged_kept large kept other small within = rw (small, append-nil kept, or-false other, within) refl

sifted_kept_by : (b : Bool) (k d : ElementList) (other others : Bool) → is_over_limit d ≡ b → Kept k other ≡ sifted_of d others → (k ≡ d) × (other ≡ others)
sifted_kept_by true k d other others is e = (let no = rw is at e in absurd cc)
sifted_kept_by false k d other others is e = (let same = rw is at e in (cc, cc))

pub sifted_kept : (k d : ElementList) (other others : Bool) → Kept k other ≡ sifted_of d others → (k ≡ d) × (other ≡ others)
sifted_kept k d other others = sifted_kept_by (is_over_limit d) k d other others refl

sifted_small_by : (b : Bool) (k d : ElementList) (other others : Bool) → is_over_limit d ≡ b → Kept k other ≡ sifted_of d others → b ≡ false
sifted_small_by true k d other others is e = (let no = rw is at e in absurd cc)
sifted_small_by false k d other others is e = refl

pub sifted_small : (k d : ElementList) (other others : Bool) → Kept k other ≡ sifted_of d others → is_over_limit d ≡ false
sifted_small k d other others = sifted_small_by (is_over_limit d) k d other others refl

sifted_large_by : (b : Bool) (d : ElementList) (other : Bool) → is_over_limit d ≡ b → Large ≡ sifted_of d other → b ≡ true
sifted_large_by true d other is e = refl
sifted_large_by false d other is e = (let no = rw is at e in absurd cc)

pub sifted_large : (d : ElementList) (other : Bool) → Large ≡ sifted_of d other → is_over_limit d ≡ true
sifted_large d other = sifted_large_by (is_over_limit d) d other refl

no_fault_by : (b : Bool) (d : ElementList) (other : Bool) (fault : ReadFault) → is_over_limit d ≡ b → Fault fault ≡ sifted_of d other → ⊥
no_fault_by true d other fault is e = (let no = rw is at e in cc)
no_fault_by false d other fault is e = (let no = rw is at e in cc)

pub no_fault : (d : ElementList) (other : Bool) (fault : ReadFault) → Fault fault ≡ sifted_of d other → ⊥
no_fault d other fault = no_fault_by (is_over_limit d) d other fault refl

-- what is not too large can be written
pub small_has_lengths : (d : ElementList) → is_over_limit d ≡ false → HasLengths Explicit d
unfolding is_over_limit
small_has_lengths d small = short_elements Explicit d (omega (arith, ltb-false kept_limit (length (canonical Explicit d)) small))

-- ---- a header that says more than the limit

length-padded_by : (b : Bool) (octets : List ℕ) (pad : ℕ) → length octets ≤ length (cond b octets (octets ++ pad ∷ []))
length-padded_by true octets pad = omega arith
length-padded_by false octets pad = omega (arith, length-append octets (pad ∷ []))

pub long_value : (levels : ℕ) (vr : Vr) (content : Content) (octets : List ℕ) (held : Value) → SpellsValue levels vr content octets held
    → is_length_over_limit content ≡ true → (o : List ℕ) × (held ≡ Octets o) × (kept_limit < length o)
long_value levels vr content octets held h5 long = grind (arith, nat_tests, length-padded_by)

both : (a b : Bool) → (not a && b) ≡ true → (a ≡ false) × (b ≡ true)
both a b e = grind (arith, nat_tests)

-- what is too long by its header is answered as too large
module _ (levels : ℕ) (tag : Tag) (vr : Vr) (content : Content) (octets : List ℕ) (held : Value) (spells : SpellsValue levels vr content octets held) where
  abbrev held_as : Element
  held_as = record { tag = tag; vr = vr; value = held }

  judged_over : (dropped : Bool) (kept es : List Element) (other : Bool) → (not dropped && is_length_over_limit content) ≡ true
      → sifted_or_too_long false (kept ++ cond dropped es (held_as ∷ es)) other ≡ Large
  judged_over dropped kept es other long = grind (arith, nat_tests, both, long_value, one_large)

  pub judged_long : (large dropped : Bool) (kept es : List Element) (other : Bool) → (large || (not dropped && is_length_over_limit content)) ≡ true
      → sifted_or_too_long large (kept ++ cond dropped es (held_as ∷ es)) other ≡ Large
  judged_long true dropped kept es other long = refl
  judged_long false dropped kept es other long = judged_over dropped kept es other long
