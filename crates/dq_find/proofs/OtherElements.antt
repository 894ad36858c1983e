-- What is computed of a record changes none of its other elements.
use Rattle.std.proofs.Common.{◌≡◌, Bool, true, false, cond, List, [], ◌∷◌, ◌++◌, Option, Some, None, find, filter, refl, ap, ◌∙◌, arith}
use Rattle.std.specs.List.{list_any}
use Rattle.std.proofs.lemmas.Bool.{or_parts}
use Rattle.std.proofs.lemmas.Bool.Decides.{nat_tests}
use Rattle.dq_vr.specs.declared.Tag.{Tag}
use Rattle.dq_vr.specs.Tag.{is_below}
use Rattle.dq_dataset.specs.declared.data_set.Element.{Element}
use Rattle.dq_dataset.specs.Tree.{ElementList}
use Rattle.dq_dataset.specs.View.{elements_of, as_elements, has_tag}
use Rattle.dq_dataset.specs.Editing.{elements_below, elements_above, merged_elements, merged_data_set}
use Rattle.dq_dataset.specs.Values.{element_at}
use Rattle.dq_dataset.proofs.Views.{elements_of-as_elements}
use Rattle.dq_match.specs.Keys.{is_tag}
use Rattle.dq_match.proofs.OneValue.{same_tag}

abbrev or_else : Option Element → Option Element → Option Element
or_else None other = other
or_else (Some e) other = Some e

find_append : (test : Element → Bool) (xs ys : List Element) → find test (xs ++ ys) ≡ or_else (find test xs) (find test ys)
find_append test [] ys = refl
find_append test (x ∷ xs) ys = grind (arith, find_append test xs ys)

-- where a test passes those that are found, it may be made first
find_kept : (test keep : Element → Bool) (xs : List Element) → ((x : Element) → test x ≡ true → keep x ≡ true) → find test (filter keep xs) ≡ find test xs
find_kept test keep [] h = refl
find_kept test keep (x ∷ xs) h = grind (arith, h x, find_kept test keep xs h)

find_dropped : (test keep : Element → Bool) (xs : List Element) → ((x : Element) → test x ≡ true → keep x ≡ false) → find test (filter keep xs) ≡ None
find_dropped test keep [] h = refl
find_dropped test keep (x ∷ xs) h = grind (arith, h x, find_dropped test keep xs h)

-- two tags that differ are in order
above_unless : (a b : Tag) → is_tag b a ≡ false → is_below a b ≡ false → is_below b a ≡ true
unfolding is_below
above_unless a b differ h = grind (arith, nat_tests)

not_below : (a b : Tag) → is_below b a ≡ true → is_below a b ≡ false
unfolding is_below
not_below a b h = grind (arith, nat_tests)

-- no element of those that are sent has the tag
abbrev has_none : Tag → List Element → Bool
has_none tag es = list_any (has_tag tag) es

or_none : (o : Option Element) → or_else o None ≡ o
or_none None = refl
or_none (Some e) = refl

merged_step : (b : Bool) (tag : Tag) (e : Element) (kept sent : List Element) → is_below tag e.tag ≡ b → is_tag e.tag tag ≡ false
    → find (has_tag tag) (merged_elements (elements_above e.tag kept) sent) ≡ find (has_tag tag) (elements_above e.tag kept)
    → or_else (find (has_tag tag) (elements_below e.tag kept)) (find (has_tag tag) (merged_elements (elements_above e.tag kept) sent)) ≡ find (has_tag tag) kept
merged_step true tag e kept sent below differ rest =
    grind (arith, nat_tests, find_kept, same_tag, find_dropped, not_below, or_none)
merged_step false tag e kept sent below differ rest =
    let above : is_below e.tag tag ≡ true = above_unless tag e.tag differ below in
    let front : find (has_tag tag) (elements_below e.tag kept) ≡ None =
    find_dropped (has_tag tag) (λ x. is_below x.tag e.tag) kept (λ x same. ap (λ (t : Tag). is_below t e.tag) (same_tag x.tag tag same) ∙ below) in
    let back : find (has_tag tag) (elements_above e.tag kept) ≡ find (has_tag tag) kept =
    find_kept (has_tag tag) (λ x. is_below e.tag x.tag) kept (λ x same. ap (λ (t : Tag). is_below e.tag t) (same_tag x.tag tag same) ∙ above) in
    ap (λ (o : Option Element). or_else o (find (has_tag tag) (merged_elements (elements_above e.tag kept) sent))) front ∙ rest ∙ back

find_merged : (tag : Tag) (kept sent : List Element) → has_none tag sent ≡ false → find (has_tag tag) (merged_elements kept sent) ≡ find (has_tag tag) kept
find_merged tag kept [] h = refl
find_merged tag kept (e ∷ sent) h =
    let parts = or_parts (is_tag e.tag tag) (has_none tag sent) h in
    find_append (has_tag tag) (elements_below e.tag kept) (e ∷ merged_elements (elements_above e.tag kept) sent)
    ∙ ap (λ (b : Bool). or_else (find (has_tag tag) (elements_below e.tag kept))
    (cond b (Some e) (find (has_tag tag) (merged_elements (elements_above e.tag kept) sent)))) parts.0
    ∙ merged_step (is_below tag e.tag) tag e kept sent refl parts.0 (find_merged tag (elements_above e.tag kept) sent parts.1)

-- an element that is not sent stays
pub element_stays : (tag : Tag) (kept sent : ElementList) → list_any (has_tag tag) (elements_of sent) ≡ false
    → element_at tag (merged_data_set kept sent) ≡ element_at tag kept
element_stays tag kept sent h = grind (arith, nat_tests, elements_of-as_elements, find_merged)

-- ---- what is sent is there

merged_at : (tag : Tag) (kept sent : ElementList)
    → element_at tag (merged_data_set kept sent) ≡ find (has_tag tag) (merged_elements (elements_of kept) (elements_of sent))
merged_at tag kept sent = ap (find (has_tag tag)) (elements_of-as_elements (merged_elements (elements_of kept) (elements_of sent)))

not_below_itself : (tag : Tag) → is_below tag tag ≡ false
unfolding is_below
not_below_itself tag = grind (arith, nat_tests)

sent_here : (tag : Tag) (e : Element) (kept sent : List Element) → is_tag e.tag tag ≡ true → find (has_tag tag) (merged_elements kept (e ∷ sent)) ≡ Some e
sent_here tag e kept sent is = grind (arith, nat_tests, find_dropped, same_tag, not_below_itself, find_append)

sent_later : (tag : Tag) (e : Element) (kept sent : List Element) → is_tag e.tag tag ≡ false → is_below e.tag tag ≡ true
    → find (has_tag tag) (merged_elements kept (e ∷ sent)) ≡ find (has_tag tag) (merged_elements (elements_above e.tag kept) sent)
sent_later tag e kept sent differ above = grind (arith, nat_tests, find_dropped, same_tag, not_below, find_append)

-- an element that is sent, at the first, the second and the third place
module _ (kept : ElementList) (e f g : Element) where
  abbrev three : ElementList
  three = as_elements (e ∷ (f ∷ (g ∷ [])))

  sent_three : (tag : Tag) → element_at tag (merged_data_set kept three) ≡ find (has_tag tag) (merged_elements (elements_of kept) (e ∷ (f ∷ (g ∷ []))))
  sent_three tag =
      merged_at tag kept three
      ∙ ap (λ (es : List Element). find (has_tag tag) (merged_elements (elements_of kept) es)) (elements_of-as_elements (e ∷ (f ∷ (g ∷ []))))

  pub first_of_three : (tag : Tag) → is_tag e.tag tag ≡ true → element_at tag (merged_data_set kept three) ≡ Some e
  first_of_three tag is = sent_three tag ∙ sent_here tag e (elements_of kept) (f ∷ (g ∷ [])) is

  pub second_of_three : (tag : Tag) → is_tag e.tag tag ≡ false → is_below e.tag tag ≡ true → is_tag f.tag tag ≡ true
      → element_at tag (merged_data_set kept three) ≡ Some f
  second_of_three tag differ above is =
      sent_three tag ∙ sent_later tag e (elements_of kept) (f ∷ (g ∷ [])) differ above ∙ sent_here tag f (elements_above e.tag (elements_of kept)) (g ∷ []) is

  pub third_of_three : (tag : Tag) → is_tag e.tag tag ≡ false → is_below e.tag tag ≡ true → is_tag f.tag tag ≡ false → is_below f.tag tag ≡ true
      → is_tag g.tag tag ≡ true
      → element_at tag (merged_data_set kept three) ≡ Some g
  third_of_three tag differ above differ_too above_too is =
      sent_three tag ∙ sent_later tag e (elements_of kept) (f ∷ (g ∷ [])) differ above
      ∙ sent_later tag f (elements_above e.tag (elements_of kept)) (g ∷ []) differ_too above_too
      ∙ sent_here tag g (elements_above f.tag (elements_above e.tag (elements_of kept))) [] is
