-- What stands in a step after a change.
use Rattle.std.proofs.Common.{◌≡◌, ℕ, Bool, true, false, ◌&&◌, ◌||◌, not, List, [], ◌∷◌, Option, Some, None, find, refl, sym, ◌∙◌, ap, subst, if◌then◌else◌, arith}
use Rattle.std.specs.List.{list_any}
use Rattle.std.proofs.lemmas.Bool.Decides.{nat_tests}
use Rattle.dq_vr.specs.declared.Tag.{Tag}
use Rattle.dq_vr.specs.Tag.{is_below}
use Rattle.dq_dataset.specs.declared.data_set.Element.{Element}
use Rattle.dq_vr.specs.declared.Vr.TheVariants.{UN}
use Rattle.dq_dataset.specs.declared.data_set.Value.TheVariants.{Octets}
use Rattle.dq_dataset.specs.Tree.{ElementList}
use Rattle.dq_dataset.specs.View.{as_elements, elements_of, has_tag}
use Rattle.dq_dataset.specs.Facts.{AreElements, IsDataSet}
use Rattle.dq_dataset.specs.Editing.{elements_below, elements_above, merged_elements, merged_data_set}
use Rattle.dq_dataset.proofs.Edits.{facts-parts}
use Rattle.dq_dataset.proofs.Views.{as_elements-elements_of, elements_of-as_elements}
use Rattle.dq_mpps.specs.Attributes.{is_fixed}
use Rattle.dq_dataset.specs.Same.{same_element, has_element}
use Rattle.dq_dataset.specs.Values.{element_at}
use Rattle.dq_mpps.specs.NSet.{changes_fixed}
use Rattle.std.specs.Option.{option_or}
use Rattle.std.proofs.lemmas.List.Folds.{find-append}
use Rattle.dq_list.proofs.Finding.{found_filtered, none_filtered}
use Rattle.dq_dataset.proofs.Same.{element_is}
use Rattle.dq_dataset.proofs.Holding.{below_then, below_itself}

-- ---- tags

below_asym : (a b : Tag) → is_below a b ≡ true → is_below b a ≡ false
unfolding is_below
below_asym a b h = grind (arith, nat_tests)

below_differs : (t : Tag) (e : Element) → is_below t e.tag ≡ true → has_tag t e ≡ false
unfolding is_below
below_differs t e h = grind (arith, nat_tests)

above_other : (t : Tag) (e : Element) → has_tag t e ≡ false → is_below t e.tag ≡ false → is_below e.tag t ≡ true
unfolding is_below
above_other t e h k = grind (arith, nat_tests)

tag_is : (t : Tag) (e : Element) → has_tag t e ≡ true → e.tag ≡ t
tag_is t e h =
    let group : e.tag.group ≡ t.group = grind (arith, nat_tests) in
    let number : e.tag.element ≡ t.element = grind (arith, nat_tests) in
    λ i. record { group = group i; element = number i }

has_its_tag : (e : Element) → has_tag e.tag e ≡ true
has_its_tag e = grind (arith, nat_tests)

-- ---- the element with a tag, after a change

none_below : (levels : ℕ) (t last : Tag) (es : List Element) → is_below t last ≡ true → AreElements levels (Some last) (as_elements es)
    → find (has_tag t) es ≡ None
none_below levels t last [] low are = refl
none_below levels t last (e ∷ es) low are =
    let parts = facts-parts levels (Some last) e es are in
    let lower = below_then t last e.tag low parts.0.rises in
    rw (below_differs t e lower) (none_below levels t e.tag es lower parts.2)

module _ (t : Tag) (e : Element) where
  below_is : (x : Element) → has_tag t x ≡ true → is_below x.tag e.tag ≡ is_below t e.tag
  below_is x here = ap (λ (u : Tag). is_below u e.tag) (tag_is t x here)

  above_is : (x : Element) → has_tag t x ≡ true → is_below e.tag x.tag ≡ is_below e.tag t
  above_is x here = ap (λ (u : Tag). is_below e.tag u) (tag_is t x here)

or_none : {X : Type 0} (o : Option X) → option_or o None ≡ o
or_none None = refl
or_none (Some x) = refl

module _ (t : Tag) where
  merged_step : (levels : ℕ) (last : Option Tag) (kept : List Element) (e : Element) (sent : List Element) → AreElements levels last (as_elements (e ∷ sent))
      → ((some : List Element) → find (has_tag t) (merged_elements some sent) ≡ option_or (find (has_tag t) sent) (find (has_tag t) some))
      → (b c : Bool) → has_tag t e ≡ b → is_below t e.tag ≡ c
      → find (has_tag t) (merged_elements kept (e ∷ sent)) ≡ option_or (if b then Some e else find (has_tag t) sent) (find (has_tag t) kept)
  merged_step levels last kept e sent are rest true c here low =
      let same = tag_is t e here in
      let none = none_filtered (has_tag t) (λ (x : Element). is_below x.tag e.tag)
      (λ x has. below_is t e x has ∙ ap (is_below t) same ∙ below_itself t) kept in
      find-append (has_tag t) (elements_below e.tag kept) (e ∷ merged_elements (elements_above e.tag kept) sent)
      ∙ rw (none, here) refl
  merged_step levels last kept e sent are rest false true here low =
      let all = found_filtered (has_tag t) (λ (x : Element). is_below x.tag e.tag) (λ x has. below_is t e x has ∙ low) kept in
      let above = none_filtered (has_tag t) (λ (x : Element). is_below e.tag x.tag) (λ x has. above_is t e x has ∙ below_asym t e.tag low) kept in
      let later = none_below levels t e.tag sent low (facts-parts levels last e sent are).2 in
      find-append (has_tag t) (elements_below e.tag kept) (e ∷ merged_elements (elements_above e.tag kept) sent)
      ∙ rw (all, here, rest (elements_above e.tag kept), above, later) (or_none (find (has_tag t) kept))
  merged_step levels last kept e sent are rest false false here low =
      let high = above_other t e here low in
      let none = none_filtered (has_tag t) (λ (x : Element). is_below x.tag e.tag) (λ x has. below_is t e x has ∙ low) kept in
      let above = found_filtered (has_tag t) (λ (x : Element). is_below e.tag x.tag) (λ x has. above_is t e x has ∙ high) kept in
      find-append (has_tag t) (elements_below e.tag kept) (e ∷ merged_elements (elements_above e.tag kept) sent)
      ∙ rw (none, here, rest (elements_above e.tag kept), above) refl

  found_merged : (levels : ℕ) (last : Option Tag) (sent : List Element) → AreElements levels last (as_elements sent) → (kept : List Element)
      → find (has_tag t) (merged_elements kept sent) ≡ option_or (find (has_tag t) sent) (find (has_tag t) kept)
  found_merged levels last [] are kept = refl
  found_merged levels last (e ∷ sent) are kept =
      merged_step levels last kept e sent are (found_merged levels (Some e.tag) sent (facts-parts levels last e sent are).2)
      (has_tag t e) (is_below t e.tag) refl refl

listed : (d : ElementList) → IsDataSet d → AreElements 16 None (as_elements (elements_of d))
listed d is = subst IsDataSet (sym (as_elements-elements_of d)) is

pub standing_after : (kept sent : ElementList) → IsDataSet sent → (t : Tag) → element_at t (merged_data_set kept sent)
    ≡ option_or (element_at t sent) (element_at t kept)
standing_after kept sent is t =
    ap (find (has_tag t)) (elements_of-as_elements (merged_elements (elements_of kept) (elements_of sent)))
    ∙ found_merged t 16 None (elements_of sent) (listed sent is) (elements_of kept)

-- ---- the fixed attributes

none_at : (levels : ℕ) (t : Tag) (es : List Element) → AreElements levels (Some t) (as_elements es) → find (has_tag t) es ≡ None
none_at levels t [] are = refl
none_at levels t (e ∷ es) are =
    let parts = facts-parts levels (Some t) e es are in
    rw (below_differs t e parts.0.rises) (none_below levels t e.tag es parts.0.rises parts.2)

or_false : (a b : Bool) → (a || b) ≡ false → (a ≡ false) × (b ≡ false)
or_false true b h = cc
or_false false b h = (refl, h)

passes_step : {X : Type 0} (p q : X → Bool) (x y : X) (xs : List X) (b : Bool) → p x ≡ b
    → (find p xs ≡ Some y → list_any q xs ≡ false → (p y ≡ true) × (q y ≡ false))
    → (if b then Some x else find p xs) ≡ Some y → (q x || list_any q xs) ≡ false → (p y ≡ true) × (q y ≡ false)
passes_step p q x y xs true here rest found none =
    (let same : x ≡ y = cc in (subst (λ z. p z ≡ true) same here, subst (λ z. q z ≡ false) same (or_false (q x) (list_any q xs) none).0))
passes_step p q x y xs false here rest found none = rest found (or_false (q x) (list_any q xs) none).1

-- what is found passes one test, and no test that none passes
passes : {X : Type 0} (p q : X → Bool) (y : X) (xs : List X) → find p xs ≡ Some y → list_any q xs ≡ false → (p y ≡ true) × (q y ≡ false)
passes p q y [] found none = cc
passes p q y (x ∷ xs) found none = passes_step p q x y xs (p x) refl (passes p q y xs) found none

module _ (s : Element) where
  stands_step : (levels : ℕ) (last : Option Tag) (k : Element) (ks : List Element) → AreElements levels last (as_elements (k ∷ ks))
      → (list_any (λ (x : Element). same_element x s) ks ≡ true → find (has_tag s.tag) ks ≡ Some s)
      → (b c : Bool) → same_element k s ≡ b → has_tag s.tag k ≡ c → (b || list_any (λ (x : Element). same_element x s) ks) ≡ true
      → (if c then Some k else find (has_tag s.tag) ks) ≡ Some s
  stands_step levels last k ks are rest true true same here any = ap (λ (x : Element). Some x) (element_is k s same)
  stands_step levels last k ks are rest true false same here any =
      (let is_there : has_tag s.tag k ≡ true = subst (λ (x : Element). has_tag s.tag x ≡ true) (sym (element_is k s same)) (has_its_tag s) in
      let no : false ≡ true = sym here ∙ is_there in cc)
  stands_step levels last k ks are rest false true same here any =
      (let none = none_at levels k.tag ks (facts-parts levels last k ks are).2 in
      let none_found : find (has_tag s.tag) ks ≡ None = subst (λ (t : Tag). find (has_tag t) ks ≡ None) (tag_is s.tag k here) none in
      let no : None ≡ Some s = sym none_found ∙ rest any in cc)
  stands_step levels last k ks are rest false false same here any = rest any

  stands_found : (levels : ℕ) (last : Option Tag) (ks : List Element) → AreElements levels last (as_elements ks)
      → list_any (λ (x : Element). same_element x s) ks ≡ true → find (has_tag s.tag) ks ≡ Some s
  stands_found levels last [] are any = cc
  stands_found levels last (k ∷ ks) are any =
      stands_step levels last k ks are (stands_found levels (Some k.tag) ks (facts-parts levels last k ks are).2)
      (same_element k s) (has_tag s.tag k) refl refl any

fixed_by_tag : Tag → Bool
fixed_by_tag t = is_fixed (record { tag = t; vr = UN; value = Octets [] })

is_fixed_by : (e : Element) → is_fixed e ≡ fixed_by_tag e.tag
unfolding fixed_by_tag
is_fixed_by e = refl

unless_false : (a b : Bool) → a ≡ true → (a && not b) ≡ false → b ≡ true
unless_false true true e h = refl
unless_false true false e h = cc
unless_false false b e h = cc

module _ (kept sent : ElementList) (are_kept : IsDataSet kept) (none : changes_fixed kept sent ≡ false) (e : Element) (fixed : is_fixed e ≡ true) where
  as_kept : (o : Option Element) → element_at e.tag sent ≡ o → option_or o (element_at e.tag kept) ≡ element_at e.tag kept
  unfolding changes_fixed
  as_kept None found = refl
  as_kept (Some s) found =
      let both = passes (has_tag e.tag) (λ (x : Element). is_fixed x && not (has_element kept x)) s (elements_of sent) found none in
      let same_tag = tag_is e.tag s both.0 in
      let fixed_too = is_fixed_by s ∙ ap fixed_by_tag same_tag ∙ sym (is_fixed_by e) ∙ fixed in
      let stands = unless_false (is_fixed s) (has_element kept s) fixed_too both.1 in
      let there = stands_found s 16 None (elements_of kept) (listed kept are_kept) stands in
      sym (subst (λ (t : Tag). find (has_tag t) (elements_of kept) ≡ Some s) same_tag there)

  pub fixed_stay : IsDataSet sent → element_at e.tag (merged_data_set kept sent) ≡ element_at e.tag kept
  fixed_stay are_sent = standing_after kept sent are_sent e.tag ∙ as_kept (element_at e.tag sent) refl
