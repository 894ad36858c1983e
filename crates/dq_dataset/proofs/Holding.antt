-- What a search by the tag finds.
use Rattle.std.proofs.Common.{◌≡◌, ℕ, zero, suc, ◌<◌, ◌≤◌, Bool, true, false, ◌||◌, List, [], ◌∷◌, length, Option, Some, None, refl, sym, ◌∙◌, ap, subst, arith, nat_lt, slice_get}
use Rattle.std.specs.List.{list_any, slice_index_or}
use Rattle.std.specs.List.Sorted.{IsPartitionedBy, IsPartitionPoint}
use Rattle.std.proofs.lemmas.Bool.Decides.{nat_tests}
use Rattle.dq_vr.specs.declared.Tag.{Tag}
use Rattle.dq_vr.specs.Tag.{is_below}
use Rattle.dq_dataset.specs.declared.data_set.Element.{Element}
use Rattle.dq_dataset.specs.Tree.{ElementList}
use Rattle.dq_dataset.specs.View.{as_elements, elements_of}
use Rattle.dq_dataset.specs.Facts.{AreElements, IsDataSet}
use Rattle.dq_dataset.proofs.Edits.{facts-parts}
use Rattle.dq_dataset.proofs.Views.{as_elements-elements_of}
use Rattle.dq_dataset.specs.Same.{same_element, has_element}
use Rattle.dq_dataset.proofs.Same.{element_is}
pub use Rattle.dq_dataset.proofs.SpelledIsSound.{below_then}

-- ---- tags

not_below_then : (a b c : Tag) → is_below a b ≡ true → is_below a c ≡ false → is_below b c ≡ false
unfolding is_below
not_below_then a b c h k = grind (arith, nat_tests)

pub below_itself : (t : Tag) → is_below t t ≡ false
unfolding is_below
below_itself t = grind (arith, nat_tests)

apart : true ≡ false → ⊥
apart h = cc

no_truth : {A : Type 0} (b : Bool) → b ≡ true → b ≡ false → A
no_truth b h k = absurd (apart (sym h ∙ k))

false_unless : (b : Bool) → (b ≡ true → false ≡ true) → b ≡ false
false_unless true h = sym (h refl)
false_unless false h = refl

module _ (e : Element) where
  abbrev pub same : Element → Bool
  same k = same_element k e

  differs_below : (k : Element) → is_below k.tag e.tag ≡ true → same k ≡ false
  differs_below k low = false_unless (same k) (λ h.
      no_truth (is_below e.tag e.tag) (subst (λ (x : Element). is_below x.tag e.tag ≡ true) (element_is k e h) low) (below_itself e.tag))

  none_same_above : (levels : ℕ) (t : Tag) (ks : List Element) → AreElements levels (Some t) (as_elements ks)
      → is_below t e.tag ≡ false → list_any same ks ≡ false
  none_same_above levels t [] are high = refl
  none_same_above levels t (k ∷ ks) are high =
      let parts = facts-parts levels (Some t) k ks are in
      let differs : same k ≡ false = false_unless (same k) (λ h.
      no_truth (is_below t e.tag) (subst (λ (x : Element). is_below t x.tag ≡ true) (element_is k e h) parts.0.rises) high) in
      rw differs (none_same_above levels k.tag ks parts.2 (not_below_then t k.tag e.tag parts.0.rises high))

  or_none : (b : Bool) → (b || false) ≡ b
  or_none true = refl
  or_none false = refl

  abbrev pub same_if : Option Element → Bool
  same_if None = false
  same_if (Some k) = same k

  -- the only one that may be the same is the first that is not below
  pub found_at : (levels : ℕ) (last : Option Tag) (ks : List Element) (at : ℕ) → AreElements levels last (as_elements ks)
      → ((i : ℕ) (d : Element) → 0 ≤ i → i < at → is_below (slice_index_or ks i d).tag e.tag ≡ true)
      → ((i : ℕ) (d : Element) → at ≤ i → i < length ks → is_below (slice_index_or ks i d).tag e.tag ≡ false)
      → list_any same ks ≡ same_if (slice_get ks at)
  found_at levels last [] at are low high = refl
  found_at levels last (k ∷ ks) zero are low high =
      let first : is_below k.tag e.tag ≡ false = high 0 k (omega arith) (omega arith) in
      rw (none_same_above levels k.tag ks (facts-parts levels last k ks are).2 first) (or_none (same k))
  found_at levels last (k ∷ ks) (suc at) are low high =
      let first : is_below k.tag e.tag ≡ true = low 0 k (omega arith) (omega arith) in
      rw (differs_below k first) (found_at levels (Some k.tag) ks at (facts-parts levels last k ks are).2
      (λ i d l h. low (suc i) d (omega arith) (omega arith)) (λ i d l h. high (suc i) d (omega arith) (omega arith)))

-- those below a tag stand before the others
later_above : (levels : ℕ) (t : Tag) (ks : List Element) (j : ℕ) (d : Element) → AreElements levels (Some t) (as_elements ks) → j < length ks
    → is_below t (slice_index_or ks j d).tag ≡ true
later_above levels t [] j d are h = absurd (omega (arith, h))
later_above levels t (k ∷ ks) zero d are h = (facts-parts levels (Some t) k ks are).0.rises
later_above levels t (k ∷ ks) (suc j) d are h =
    let parts = facts-parts levels (Some t) k ks are in
    below_then t k.tag (slice_index_or ks j d).tag parts.0.rises (later_above levels k.tag ks j d parts.2 (omega arith))

pub parted_by : (tag : Tag) (levels : ℕ) (last : Option Tag) (ks : List Element) → AreElements levels last (as_elements ks)
    → IsPartitionedBy (λ (k : Element). is_below k.tag tag) ks
parted_by tag levels last [] are i j d l h low = absurd (omega (arith, h))
parted_by tag levels last (k ∷ ks) are zero zero d l h low = low
parted_by tag levels last (k ∷ ks) are zero (suc j) d l h low =
    below_then k.tag (slice_index_or ks j d).tag tag (later_above levels k.tag ks j d (facts-parts levels last k ks are).2 (omega arith)) low
parted_by tag levels last (k ∷ ks) are (suc i) zero d l h low = absurd (omega (arith, l))
parted_by tag levels last (k ∷ ks) are (suc i) (suc j) d l h low =
    parted_by tag levels (Some k.tag) ks (facts-parts levels last k ks are).2 i j d (omega arith) (omega arith) low

-- ---- in a data set

are_listed : (d : ElementList) (es : List Element) → es ≡ elements_of d → IsDataSet d → AreElements 16 None (as_elements es)
are_listed d es listed is = subst IsDataSet (sym (ap as_elements listed ∙ as_elements-elements_of d)) is

pub is_parted : (tag : Tag) (d : ElementList) (es : List Element) → es ≡ elements_of d → IsDataSet d → IsPartitionedBy (λ (k : Element). is_below k.tag tag) es
is_parted tag d es listed is = parted_by tag 16 None es (are_listed d es listed is)

pub stands_at : (e : Element) (d : ElementList) (es : List Element) (at : ℕ) → es ≡ elements_of d → IsDataSet d
    → IsPartitionPoint (λ (k : Element). is_below k.tag e.tag ≡ true) (λ (k : Element). is_below k.tag e.tag ≡ false) es at
    → has_element d e ≡ same_if e (slice_get es at)
stands_at e d es at listed is point =
    ap (list_any (same e)) (sym listed)
    ∙ found_at e 16 None es at (are_listed d es listed is) (λ i k l h. point.0 i k l h) (λ i k l h. point.1 i k l h)

get_in : (es : List Element) (at : ℕ) (x : Element) → true ≡ nat_lt at (length es) → x ≡ slice_index_or es at x → slice_get es at ≡ Some x
get_in [] at x h is = (let low : at < 0 = grind (arith, nat_tests) in absurd (omega (arith, low)))
get_in (e ∷ es) zero x h is = ap (λ (y : Element). Some y) (sym is)
get_in (e ∷ es) (suc at) x h is = get_in es at x (grind (arith, nat_tests)) is

get_out : (es : List Element) (at : ℕ) → false ≡ nat_lt at (length es) → slice_get es at ≡ None
get_out [] at h = refl
get_out (e ∷ es) zero h = (let low : length (e ∷ es) ≤ 0 = grind (arith, nat_tests) in absurd (omega (arith, low)))
get_out (e ∷ es) (suc at) h = get_out es at (grind (arith, nat_tests))

pub same_in : (e x : Element) (es : List Element) (at : ℕ) → true ≡ nat_lt at (length es) → x ≡ slice_index_or es at x
    → same_element x e ≡ same_if e (slice_get es at)
same_in e x es at h is = sym (ap (same_if e) (get_in es at x h is))

pub none_in : (e : Element) (es : List Element) (at : ℕ) → false ≡ nat_lt at (length es) → false ≡ same_if e (slice_get es at)
none_in e es at h = sym (ap (same_if e) (get_out es at h))
