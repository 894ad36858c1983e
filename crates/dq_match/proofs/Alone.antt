-- Which keys are met alone: those that are left when what tells how a query is answered, and the
-- date and the time of a period, are passed over.
use Rattle.std.proofs.Common.{◌≡◌, Bool, true, false, ◌||◌, ◌&&◌, List, [], ◌∷◌, ◌++◌, inl, inr, is_some, refl, sym, ap, ◌∙◌, arith}
use Rattle.std.specs.List.{list_any, list_all}
use Rattle.std.proofs.lemmas.Bool.{and_parts}
use Rattle.dq_list.specs.Among.{IsAmong}
use Rattle.dq_vr.specs.declared.Tag.{Tag}
use Rattle.dq_vr.specs.Tags.{scheduled_procedure_step_start_date, scheduled_procedure_step_start_time}
use Rattle.dq_dataset.specs.declared.data_set.Element.{Element}
use Rattle.dq_dataset.specs.Tree.{ElementList}
use Rattle.dq_dataset.specs.View.{elements_of}
use Rattle.dq_dataset.specs.Values.{element_at}
use Rattle.dq_match.specs.declared.keys.Nesting.{Nesting}
use Rattle.dq_match.specs.declared.keys.Nesting.TheVariants.{Outer}
use Rattle.dq_match.specs.Keys.{is_key, other_than_keys}
use Rattle.dq_match.specs.AsLent.{is_left, is_met_at_once}
use Rattle.dq_match.specs.StandardMatching.{EachIsMet}
use Rattle.dq_match.specs.Matching.{period, fits, meets, is_matched_elsewhere, is_start}

pub all_pass : {X : Type 0} (p : X → Bool) (xs : List X) → ((x : X) → IsAmong x xs → p x ≡ true) → list_all p xs ≡ true
all_pass p [] each = refl
all_pass p (x ∷ xs) each = (λ i. each x (inl refl) i && list_all p xs) ∙ all_pass p xs (λ y h. each y (inr h))

pub each_of : {X : Type 0} (p : X → Bool) (xs : List X) → list_all p xs ≡ true → (x : X) → IsAmong x xs → p x ≡ true
each_of p (y ∷ ys) h x (inl is) = ap p (sym is) ∙ (and_parts (p y) (list_all p ys) h).0
each_of p (y ∷ ys) h x (inr a) = each_of p ys (and_parts (p y) (list_all p ys) h).1 x a
each_of p [] h x a = absurd a

pub not_passed : (joined : Bool) (place : Nesting) (tag : Tag) → is_key place tag ≡ true → is_start tag ≡ false → is_matched_elsewhere place joined tag ≡ false
not_passed true place tag is none = rw (is, none) refl
not_passed false place tag is none = rw (is) refl

none_of : (p : Tag → Bool) (first others : List Tag) → list_any p (first ++ others) ≡ false → (list_any p first ≡ false) × (list_any p others ≡ false)
none_of p [] others h = (refl, h)
none_of p (x ∷ first) others h = grind (arith, none_of p first others)

abbrev pub starts : List Tag
starts = scheduled_procedure_step_start_date ∷ scheduled_procedure_step_start_time ∷ []

-- a key that is none of those and none of some others
pub stands_alone : (joined : Bool) (others : List Tag) (tag : Tag) → is_left (other_than_keys ++ (others ++ starts)) tag ≡ false
    → (is_left others tag ≡ false) × (is_matched_elsewhere Outer joined tag ≡ false)
stands_alone joined others tag h = grind (arith, none_of, not_passed)

-- what does not hold of one does not hold of the other
pub unless : (a b : Bool) → (a ≡ true → b ≡ true) → b ≡ false → a ≡ false
unless true b h none = sym (h refl) ∙ none
unless false b h none = refl

-- A record that does not meet each key that is met alone does not fit, whatever else is told of it.
module _ (others : List Tag) (keys held whole : ElementList)
    (same : (tag : Tag) → is_left others tag ≡ false → element_at tag whole ≡ element_at tag held)
    (alone : fits keys whole ≡ true → EachIsMet Outer keys whole) where
  abbrev later : List Tag
  later = other_than_keys ++ (others ++ starts)

  met_by : (b : Bool) (asked : Element) → is_left later asked.tag ≡ b → IsAmong asked (elements_of keys) → fits keys whole ≡ true
      → (b || meets asked (element_at asked.tag held)) ≡ true
  met_by true asked left among fit = refl
  met_by false asked left among fit =
      let stands = stands_alone (is_some (period keys whole)) others asked.tag left in
      ap (meets asked) (sym (same asked.tag stands.0)) ∙ alone fit asked among stands.1

  pub unfit : list_all (is_met_at_once later held) (elements_of keys) ≡ false → fits keys whole ≡ false
  unfit =
      unless (fits keys whole) (list_all (is_met_at_once later held) (elements_of keys))
      (λ fit. all_pass (is_met_at_once later held) (elements_of keys) (λ asked among. met_by (is_left later asked.tag) asked refl among fit))
