-- The attributes that keys match are in an identifier.
use Rattle.std.proofs.Common.{◌≡◌, ℕ, ◌<◌, Bool, true, false, cond, List, [], ◌∷◌, ◌++◌, length, get_or, map, filter, Option, Some, None, Contains, refl, sym, ap, subst, ◌∙◌, arith, zero, suc}
use Rattle.std.specs.Prelude.{All}
use Rattle.std.proofs.lemmas.Bool.Decides.{nat_tests}
use Rattle.dq_vr.specs.declared.Tag.{Tag}
use Rattle.dq_vr.specs.Dictionary.{Entry, dictionary}
use Rattle.dq_dataset.specs.Tree.{ElementList}
use Rattle.dq_dataset.specs.View.{elements_of}
use Rattle.dq_dataset.specs.declared.data_set.Element.{Element}
use Rattle.dq_dataset.proofs.Views.{elements_of-as_elements}
use Rattle.dq_request.specs.declared.search.Key.{Key}
use Rattle.dq_request.specs.declared.search.Subject.{Subject}
use Rattle.dq_request.specs.declared.search.Subject.TheVariants.{Studies, Series, Images, StudyImages, Worklist, Steps}
use Rattle.dq_request.specs.Searches.{is_of_tag, is_asked, asked_element, asked_elements, asked_identifier, identifier_of, level_of, value_in, IsMatched, matched_element}

module _ (f : Entry → Element) where
  first_is : (entry : Entry) (others : List Entry) → Contains (map f (entry ∷ others)) (f entry)
  first_is entry others = (0, omega arith, refl)

  later_by : (b : Bool) (entry : Entry) (others : List Entry) (e : Element) → Contains (map f others) e → Contains (map f (cond b (entry ∷ others) others)) e
  later_by true entry others e (k, within, here) = (suc k, omega arith, here)
  later_by false entry others e among = among

  asked_among : (entries : List Entry) (k : ℕ) (entry : Entry) → k < length entries → get_or entries k entry ≡ entry → is_asked entry ≡ true
      → Contains (map f (filter is_asked entries)) (f entry)
  asked_among [] k entry within here is = absurd (omega arith)
  asked_among (next ∷ others) zero entry within here is =
      subst (λ (e : Entry). Contains (map f (cond (is_asked next) (next ∷ filter is_asked others) (filter is_asked others))) (f e)) here
      (rw (ap is_asked here ∙ is) (first_is next (filter is_asked others)))
  asked_among (next ∷ others) (suc k) entry within here is =
      later_by (is_asked next) next (filter is_asked others) (f entry) (asked_among others k entry (omega arith) here is)

matched : (level : List ℕ) (step : Option ElementList) (keys : List Key) (entry : Entry) → IsMatched entry → asked_element level step keys entry ≡ matched_element keys entry
matched level step keys entry (asked, plain, other) = rw (plain, other) refl

in_identifier : (level : List ℕ) (step : Option ElementList) (keys : List Key) (entry : Entry) → Contains dictionary entry → IsMatched entry
    → Contains (elements_of (asked_identifier level step keys)) (matched_element keys entry)
in_identifier level step keys entry (k, within, here) is =
    subst (λ (es : List Element). Contains es (matched_element keys entry)) (sym (elements_of-as_elements (asked_elements level step keys dictionary)))
    (subst (λ (e : Element). Contains (asked_elements level step keys dictionary) e) (matched level step keys entry is)
    (asked_among (asked_element level step keys) dictionary k entry within here is.0))

pub each_in_identifier : (subject : Subject) (keys : List Key) (entry : Entry) → Contains dictionary entry → IsMatched entry
    → Contains (elements_of (identifier_of subject keys)) (matched_element keys entry)
each_in_identifier Studies keys entry known is = in_identifier (level_of Studies) None keys entry known is
each_in_identifier Series keys entry known is = in_identifier (level_of Series) None keys entry known is
each_in_identifier Images keys entry known is = in_identifier (level_of Images) None keys entry known is
each_in_identifier StudyImages keys entry known is = in_identifier (level_of StudyImages) None keys entry known is
each_in_identifier Worklist keys entry known is = in_identifier [] (Some (asked_identifier [] None keys)) keys entry known is
each_in_identifier Steps keys entry known is = in_identifier [] None keys entry known is

-- ---- the value of a key

of_itself : (key : Key) → is_of_tag key.tag key ≡ true
of_itself key = grind (arith, nat_tests)

pub first_counts : (before after : List Key) (key : Key) → All (λ other. is_of_tag key.tag other ≡ false) before
    → value_in (before ++ key ∷ after) key.tag ≡ key.value
first_counts [] after key apart = rw (of_itself key) refl
first_counts (other ∷ before) after key apart =
    rw (apart 0 other (omega arith)) (first_counts before after key (λ k d lt. apart (suc k) d (omega arith)))

pub none_counts : (keys : List Key) (tag : Tag) → All (λ key. is_of_tag tag key ≡ false) keys → value_in keys tag ≡ []
none_counts [] tag apart = refl
none_counts (key ∷ keys) tag apart = rw (apart 0 key (omega arith)) (none_counts keys tag (λ k d lt. apart (suc k) d (omega arith)))
