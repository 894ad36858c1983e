-- What the comparison of elements decides.
use Rattle.std.proofs.Common.{◌≡◌, Bool, true, false, ◌↔◌, [], ◌∷◌, refl, sym, ◌∙◌, ap, subst, IsTrue}
use Rattle.std.proofs.lemmas.Bool.{and_parts, and_from, eqb-true, eq-eqb, false_from_ne_true}
use base.Stored.{Gv, gnil, gnum, gcons}
use Rattle.dq_dataset.specs.declared.data_set.Element.{Element}
use Rattle.dq_dataset.specs.Tree.{code, inj}
use Rattle.dq_dataset.specs.View.{as_elements, elements_of}
use Rattle.dq_dataset.proofs.Views.{elements_of-as_elements}
use Rattle.dq_dataset.specs.Same.{same_code, same_element}

codes_are : (a b : Gv) → same_code a b ≡ true → a ≡ b
unfolding same_code
codes_are gnil gnil h = refl
codes_are gnil (gnum n) h = cc
codes_are gnil (gcons c d) h = cc
codes_are (gnum m) gnil h = cc
codes_are (gnum m) (gnum n) h = ap gnum (eqb-true m n h)
codes_are (gnum m) (gcons c d) h = cc
codes_are (gcons a b) gnil h = cc
codes_are (gcons a b) (gnum n) h = cc
codes_are (gcons a b) (gcons c d) h =
    let parts = and_parts (same_code a c) (same_code b d) h in
    let first = codes_are a c parts.0 in
    let second = codes_are b d parts.1 in
    λ i. gcons (first i) (second i)

code_itself : (a : Gv) → same_code a a ≡ true
unfolding same_code
code_itself gnil = refl
code_itself (gnum n) = eq-eqb n n refl
code_itself (gcons a b) = and_from (same_code a a) (same_code b b) (code_itself a) (code_itself b)

first_is : (e f : Element) → e ∷ [] ≡ f ∷ [] → e ≡ f
first_is e f h = cc

pub element_is : (e f : Element) → same_element e f ≡ true → e ≡ f
unfolding same_element
element_is e f h =
    let alone = inj (as_elements (e ∷ [])) (as_elements (f ∷ [])) (codes_are (code (as_elements (e ∷ []))) (code (as_elements (f ∷ []))) h) in
    first_is e f (sym (elements_of-as_elements (e ∷ [])) ∙ ap elements_of alone ∙ elements_of-as_elements (f ∷ []))

element_itself : (e : Element) → same_element e e ≡ true
unfolding same_element
element_itself e = code_itself (code (as_elements (e ∷ [])))

-- The same elements are those that are equal.
pub same_is_equal : (e f : Element) → (same_element e f ≡ true) ↔ (e ≡ f)
same_is_equal e f =
    (element_is e f, λ h. subst (λ (x : Element). same_element e x ≡ true) h (element_itself e))

pub same_from_iff : (b : Bool) (e f : Element) → (IsTrue b ↔ (e ≡ f)) → b ≡ same_element e f
same_from_iff true e f h = sym (subst (λ (x : Element). same_element e x ≡ true) (h.0 refl) (element_itself e))
same_from_iff false e f h = sym (false_from_ne_true (same_element e f) (λ same. (let no_truth : false ≡ true = h.1 (element_is e f same) in cc)))
