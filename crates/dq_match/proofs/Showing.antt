-- What is shown of a record is a data set, and is put together key by key.
use Rattle.std.proofs.lemmas.Bool.{cond_both, and_from, and_parts, not-true, or_parts}
use Rattle.std.proofs.Common.{◌≡◌, ℕ, ◌-◌, ◌+◌, ◌<◌, Bool, true, false, cond, List, [], ◌∷◌, ◌++◌, Option, Some, None, option_map, map, filter, length, get_or, take, IfSome, refl, sym, ap, ◌∙◌, subst, arith, is_some}
use Rattle.std.specs.List.{list_all}
use Rattle.dq_vr.specs.declared.Tag.{Tag}
use Rattle.dq_vr.specs.declared.Vr.{Vr}
use Rattle.dq_vr.specs.declared.Vr.TheVariants.{CS}
use Rattle.dq_vr.specs.Tag.{is_below}
use Rattle.dq_vr.specs.Tags.{specific_character_set}
use Rattle.dq_vr.specs.Dictionary.{Entry, dictionary, vr_in, known_vr}
use Rattle.dq_dataset.specs.declared.data_set.Element.{Element}
use Rattle.dq_dataset.specs.declared.data_set.Value.{Value}
use Rattle.dq_dataset.specs.declared.data_set.Value.TheVariants.{Octets, Items}
use Rattle.dq_dataset.specs.Tree.{ElementList, no_elements, element, sequence, ItemList, no_items, item}
use Rattle.dq_dataset.specs.View.{as_elements, elements_of, items_of, list_of, with_value}
use Rattle.dq_dataset.specs.Facts.{IsElementTag, IsPlain, IsSequence, AreElements, AreItems, IsDataSet}
use Rattle.dq_dataset.specs.Values.{element_at, element_octets}
use Rattle.dq_dataset.proofs.Views.{as_elements-elements_of, elements_of-with_value, items_of-list_of}
use Rattle.dq_match.specs.declared.keys.Nesting.{Nesting}
use Rattle.dq_match.specs.declared.keys.Nesting.TheVariants.{Outer, Inner}
use Rattle.dq_list.specs.Lengths.{is_empty}
use Rattle.dq_value.specs.Parts.{element_values}
use Rattle.dq_match.specs.Keys.{is_tag, is_key}
use Rattle.dq_match.specs.Identifiers.{HasKnownTags}
use Rattle.dq_match.specs.Matching.{all_met}
use Rattle.dq_match.specs.Responses.{put, or_empty, has_no_elements, cut_value, with_cut, shown_keys, shown_items, cut_keys, cut_by, shown_element, unless_empty, character_set, put_first, before, shown_elements, shown_data_set}
use Rattle.dq_match.proofs.KnownKeys.{same_tag}
use Rattle.dq_match.proofs.DataSets.{after_earlier}
use Rattle.dq_match.specs.ShownTags.{tags_of}
use Rattle.dq_match.proofs.ShownTags.{keys_shown}
use Rattle.std.proofs.lemmas.List.{map-append}
use Rattle.std.proofs.lemmas.List.Elements.{filter_more}
use Rattle.std.proofs.lemmas.Grind.{common_steps}

-- ---- the facts of one element

abbrev pub ValueFacts : ℕ → Tag → Vr → Value → Type 0
ValueFacts levels tag vr (Octets octets) = IsPlain tag vr octets
ValueFacts levels tag vr (Items items) = IsSequence tag vr × (0 < levels) × AreItems (levels - 1) (items_of items)

abbrev pub FoundFacts : ℕ → Tag → Element → Type 0
FoundFacts levels tag e = (e.tag ≡ tag) × ValueFacts levels e.tag e.vr e.value

abbrev pub IfFound : ℕ → Tag → Option Element → Type 0
IfFound levels tag found = IfSome found (FoundFacts levels tag)

pub found_facts : (levels : ℕ) (last : Option Tag) (tag : Tag) (d : ElementList) → AreElements levels last d
    → IfFound levels tag (element_at tag d)
found_facts levels last tag no_elements h = tt
found_facts levels last tag (element t v o rest) h =
    cond_both (is_tag t tag) (Some (record { tag = t; vr = v; value = Octets o })) (element_at tag rest) (IfFound levels tag)
    (λ is. (same_tag t tag is, h.1)) (λ none. found_facts levels (Some t) tag rest h.2)
found_facts levels last tag (sequence t v items rest) h =
    cond_both (is_tag t tag) (Some (record { tag = t; vr = v; value = Items (list_of items) })) (element_at tag rest) (IfFound levels tag)
    (λ is. (same_tag t tag is, (h.1, h.2, rw items_of-list_of h.3))) (λ none. found_facts levels (Some t) tag rest h.4)

put_value : (levels : ℕ) (last : Option Tag) (t : Tag) (v : Vr) (x : Value) (rest : ElementList) → IsElementTag last t → ValueFacts levels t v x
    → AreElements levels (Some t) rest → AreElements levels last (with_value (record { tag = t; vr = v; value = x }) x rest)
put_value levels last t v (Octets o) rest placed facts h = (placed, facts, h)
put_value levels last t v (Items items) rest placed facts h = (placed, facts.0, facts.1, facts.2, h)

put_facts : (levels : ℕ) (last : Option Tag) (tag : Tag) (e : Element) (rest : ElementList) → IsElementTag last tag → FoundFacts levels tag e
    → AreElements levels (Some tag) rest → AreElements levels last (put e rest)
put_facts levels last tag e rest placed facts h = grind (arith, put_value)

-- ---- what is shown

abbrev KeepsFacts : ℕ → (ElementList → ElementList) → Type 0
KeepsFacts levels f = (d : ElementList) → AreElements levels None d → AreElements levels None (f d)

cut_facts : (levels : ℕ) (f : ElementList → ElementList) (test : ElementList → Bool) (items : List ElementList) → KeepsFacts levels f
    → AreItems levels (items_of items) → AreItems levels (items_of (map f (filter test items)))
cut_facts levels f test [] keeps h = tt
cut_facts levels f test (d ∷ ds) keeps h =
    let others = cut_facts levels f test ds keeps h.1 in
    cond_both (test d) (d ∷ filter test ds) (filter test ds) (λ items. AreItems levels (items_of (map f items)))
    (λ is. (keeps d h.0, others)) (λ none. others)

plain_or_empty : (levels : ℕ) (tag : Tag) (vr : Vr) (octets : List ℕ) (held : Option Element) → IsPlain tag vr octets → IfFound levels tag held
    → FoundFacts levels tag (or_empty tag vr (Octets octets) held)
plain_or_empty levels tag vr octets None plain found =
    (refl, record { by_dictionary = plain.by_dictionary; no_sequence = plain.no_sequence; even = refl })
plain_or_empty levels tag vr octets (Some e) plain found = found

cut_found : (levels : ℕ) (cut : List ElementList → List ElementList) (t : Tag) (v : Vr) (x : Value)
    → ((items : List ElementList) → AreItems (levels - 1) (items_of items) → AreItems (levels - 1) (items_of (cut items)))
    → ValueFacts levels t v x → ValueFacts levels t v (cut_value cut x)
cut_found levels cut t v (Octets o) keeps facts = facts
cut_found levels cut t v (Items items) keeps facts = (facts.0, facts.1, keeps items facts.2)

sequence_or_empty : (levels : ℕ) (tag : Tag) (vr : Vr) (cut : List ElementList → List ElementList) (held : Option Element) → IsSequence tag vr → 0 < levels
    → ((items : List ElementList) → AreItems (levels - 1) (items_of items) → AreItems (levels - 1) (items_of (cut items)))
    → IfFound levels tag held → FoundFacts levels tag (or_empty tag vr (Items []) (option_map (with_cut cut) held))
sequence_or_empty levels tag vr cut None nested deep keeps found = (refl, (nested, deep, tt))
sequence_or_empty levels tag vr cut (Some e) nested deep keeps found = (found.0, cut_found levels cut e.tag e.vr e.value keeps found.1)

mutual
  shown_facts : (keys : ElementList) (levels : ℕ) (last : Option Tag) (place : Nesting) (held : ElementList) → AreElements levels last keys
      → AreElements levels None held → AreElements levels last (shown_keys keys place held)
  shown_facts no_elements levels last place held h k = tt
  shown_facts (element t v o rest) levels last place held h k =
      let others = shown_facts rest levels (Some t) place held h.2 k in
      let e : Element = or_empty t v (Octets o) (element_at t held) in
      cond_both (is_key place t) (put e (shown_keys rest place held)) (shown_keys rest place held) (λ d. AreElements levels last d)
      (λ is. put_facts levels last t e (shown_keys rest place held) h.0
      (plain_or_empty levels t v o (element_at t held) h.1 (found_facts levels None t held k)) others)
      (λ none. after_earlier levels last t (shown_keys rest place held) h.0.rises others)
  shown_facts (sequence t v items rest) levels last place held h k =
      let others = shown_facts rest levels (Some t) place held h.4 k in
      let e : Element = or_empty t v (Items []) (option_map (with_cut (shown_items items)) (element_at t held)) in
      cond_both (is_key place t) (put e (shown_keys rest place held)) (shown_keys rest place held) (λ d. AreElements levels last d)
      (λ is. put_facts levels last t e (shown_keys rest place held) h.0
      (sequence_or_empty levels t v (shown_items items) (element_at t held) h.1 h.2 (λ its. items_shown_facts items (levels - 1) its h.3)
      (found_facts levels None t held k)) others)
      (λ none. after_earlier levels last t (shown_keys rest place held) h.0.rises others)

  items_shown_facts : (items : ItemList) (levels : ℕ) (held : List ElementList) → AreItems levels items
      → AreItems levels (items_of held) → AreItems levels (items_of (shown_items items held))
  items_shown_facts no_items levels held h k = k
  items_shown_facts (item keys others) levels held h k =
      cond_both (has_no_elements keys) held (map (λ d. shown_keys keys Inner d) (filter (λ d. all_met Inner keys d) held))
      (λ its. AreItems levels (items_of its)) (λ none. k)
      (λ some. cut_facts levels (λ d. shown_keys keys Inner d) (λ d. all_met Inner keys d) held
      (λ d. shown_facts keys levels None Inner d h.0) k)

pub shown_is_data_set : (keys : ElementList) (place : Nesting) (held : ElementList) → IsDataSet keys → IsDataSet held → IsDataSet (shown_keys keys place held)
shown_is_data_set keys place held h k = shown_facts keys 16 None place held h k

-- ---- after the character set

abbrev others_of : List Entry → List Entry
others_of [] = []
others_of (entry ∷ others) = others

above_by : (b : Bool) (found tag : Tag) (vr : Vr) (others : Option Vr) → is_tag found tag ≡ b → is_below specific_character_set found ≡ true
    → (is_some others ≡ true → is_below specific_character_set tag ≡ true) → is_some (cond b (Some vr) others) ≡ true
    → is_below specific_character_set tag ≡ true
above_by true found tag vr others same above later known = subst (λ (t : Tag). is_below specific_character_set t ≡ true) (same_tag found tag same) above
above_by false found tag vr others same above later known = later known

above_all : (listed : List Entry) (tag : Tag) → list_all (λ entry. is_below specific_character_set entry.0) listed ≡ true
    → is_some (vr_in listed tag) ≡ true → is_below specific_character_set tag ≡ true
unfolding vr_in
above_all [] tag h k = absurd cc
above_all (entry ∷ others) tag h k =
    let parts = and_parts (is_below specific_character_set entry.0)
    (list_all (λ entry. is_below specific_character_set entry.0) others) h in
    above_by (is_tag entry.0 tag) entry.0 tag entry.1 (vr_in others tag) refl parts.0 (λ known. above_all others tag parts.1 known) k

rest_above : list_all (λ entry. is_below specific_character_set entry.0) (others_of dictionary) ≡ true
unfolding dictionary is_below
rest_above = refl

first_of_dictionary : dictionary ≡ (specific_character_set, CS) ∷ others_of dictionary
unfolding dictionary
first_of_dictionary = refl

-- every other known tag is above that of the character set
known_above : (tag : Tag) → is_some (known_vr tag) ≡ true → is_key Outer tag ≡ true → is_below specific_character_set tag ≡ true
unfolding known_vr vr_in
known_above tag known key = grind (arith, first_of_dictionary, not-true, or_parts, above_all, rest_above)

tag_above : (tag : Tag) (others : List Tag) → is_some (known_vr tag) ≡ true → list_all (is_below specific_character_set) others ≡ true
    → list_all (is_below specific_character_set) (cond (is_key Outer tag) (tag ∷ others) others) ≡ true
tag_above tag others known h =
    cond_both (is_key Outer tag) (tag ∷ others) others (λ tags. list_all (is_below specific_character_set) tags ≡ true)
    (λ is. and_from (is_below specific_character_set tag) _ (known_above tag known is) h) (λ none. h)

placed_above : (last : Option Tag) (tag : Tag) → IsElementTag last tag → is_below specific_character_set tag ≡ true
    → IsElementTag (Some specific_character_set) tag
placed_above last tag placed above = grind arith

keys_above : (keys : ElementList) → HasKnownTags keys
    → list_all (is_below specific_character_set) (filter (is_key Outer) (tags_of keys)) ≡ true
keys_above no_elements known = refl
keys_above (element t v o rest) known = tag_above t (filter (is_key Outer) (tags_of rest)) known.0 (keys_above rest known.1)
keys_above (sequence t v items rest) known = tag_above t (filter (is_key Outer) (tags_of rest)) known.0 (keys_above rest known.2)

-- elements are after a tag where their tags are above it
after_set : (last : Option Tag) (d : ElementList) → AreElements 16 last d → list_all (is_below specific_character_set) (tags_of d) ≡ true
    → AreElements 16 (Some specific_character_set) d
after_set last no_elements h above = tt
after_set last (element t v o rest) h above = (
  placed_above last t h.0
      (and_parts _ (list_all (is_below specific_character_set) (tags_of rest)) above).0,
  h.1,
  h.2,
)
after_set last (sequence t v items rest) h above =
    (placed_above last t h.0 (and_parts _ (list_all (is_below specific_character_set) (tags_of rest)) above).0, h.1, h.2, h.3, h.4)

shown_after_set : (keys held : ElementList) → IsDataSet keys → HasKnownTags keys → IsDataSet held
    → AreElements 16 (Some specific_character_set) (shown_keys keys Outer held)
shown_after_set keys held h known k =
    after_set None (shown_keys keys Outer held) (shown_is_data_set keys Outer held h k)
    (ap (list_all (is_below specific_character_set)) (keys_shown keys Outer held) ∙ keys_above keys known)

set_facts : (found : Option Element) → IfFound 16 specific_character_set found → IfFound 16 specific_character_set (unless_empty found)
set_facts None h = tt
set_facts (Some e) h =
    cond_both (is_empty (element_values e.vr (element_octets (Some e)))) None (Some e) (IfFound 16 specific_character_set) (λ none. tt)
    (λ some. h)

first_facts : (first : Option Element) (rest : ElementList) → IfFound 16 specific_character_set first → IsDataSet rest
    → AreElements 16 (Some specific_character_set) rest → IsDataSet (put_first first rest)
first_facts None rest h k above = k
first_facts (Some e) rest h k above = put_facts 16 None specific_character_set e rest (grind arith) h above

pub shown_is_whole : (identifier held : ElementList) → IsDataSet identifier → HasKnownTags identifier → IsDataSet held
    → IsDataSet (put_first (character_set held) (shown_keys identifier Outer held))
shown_is_whole identifier held h known k = grind (arith, first_facts, set_facts, found_facts, shown_is_data_set, shown_after_set)

-- ---- key by key

shown_items-cut : (items held : List ElementList) → shown_items (items_of items) held ≡ cut_by (cut_keys (Items items)) held
shown_items-cut [] held = refl
shown_items-cut (no_elements ∷ others) held = refl
shown_items-cut (element t v o rest ∷ others) held = refl
shown_items-cut (sequence t v items rest ∷ others) held = refl

with_cut-whole : (t : Tag) (v : Vr) (x : Value) → with_cut (cut_by None) (record { tag = t; vr = v; value = x }) ≡ record { tag = t; vr = v; value = x }
with_cut-whole t v (Octets o) = refl
with_cut-whole t v (Items items) = refl

plain_shown : (t : Tag) (v : Vr) (o : List ℕ) (held : Option Element)
    → or_empty t v (Octets o) held ≡ shown_element (record { tag = t; vr = v; value = Octets o }) held
plain_shown t v o None = refl
plain_shown t v o (Some e) = sym (with_cut-whole e.tag e.vr e.value)

sequence_shown : (t : Tag) (v : Vr) (items : List ElementList) (held : Option Element)
    → or_empty t v (Items []) (option_map (with_cut (shown_items (items_of items))) held) ≡ shown_element (record { tag = t; vr = v; value = Items items }) held
sequence_shown t v items None = refl
sequence_shown t v items (Some e) = λ i. with_cut (λ its. shown_items-cut items its i) e

put_by : (b : Bool) (e : Element) (rest : ElementList) → elements_of (cond b (put e rest) rest) ≡ cond b (e ∷ elements_of rest) (elements_of rest)
put_by true e rest = elements_of-with_value e.tag e.vr e.value rest
put_by false e rest = refl

shown_by : (t : Tag) (v : Vr) (x : Value) (place : Nesting) (rest held : ElementList)
    → elements_of (shown_keys (with_value (record { tag = t; vr = v; value = x }) x rest) place held)
    ≡ cond (is_key place t) (shown_element (record { tag = t; vr = v; value = x }) (element_at t held) ∷ elements_of (shown_keys rest place held))
    (elements_of (shown_keys rest place held))
shown_by t v (Octets o) place rest held = grind (arith, put_by, plain_shown)
shown_by t v (Items items) place rest held =
    put_by (is_key place t) (or_empty t v (Items []) (option_map (with_cut (shown_items (items_of items))) (element_at t held))) (shown_keys rest place held)
    ∙ ap (λ (e : Element). cond (is_key place t) (e ∷ elements_of (shown_keys rest place held)) (elements_of (shown_keys rest place held)))
    (sequence_shown t v items (element_at t held))

map_by : (b : Bool) (f : Element → Element) (e : Element) (es shown : List Element) → shown ≡ map f es → cond b (f e ∷ shown) shown ≡ map f (cond b (e ∷ es) es)
map_by true f e es shown h = ap (λ (xs : List Element). f e ∷ xs) h
map_by false f e es shown h = h

-- each key shows the record's element
pub each_shown : (keys : List Element) (place : Nesting) (held : ElementList) → elements_of (shown_keys (as_elements keys) place held)
    ≡ map (λ key. shown_element key (element_at key.tag held)) (filter (λ key. is_key place key.tag) keys)
each_shown [] place held = refl
each_shown (key ∷ keys) place held =
    shown_by key.tag key.vr key.value place (as_elements keys) held
    ∙ map_by (is_key place key.tag) (λ key. shown_element key (element_at key.tag held)) key (filter (λ key. is_key place key.tag) keys)
    (elements_of (shown_keys (as_elements keys) place held)) (each_shown keys place held)

first_shown : (first : Option Element) (rest : ElementList) → elements_of (put_first first rest) ≡ before first (elements_of rest)
first_shown None rest = refl
first_shown (Some e) rest = elements_of-with_value e.tag e.vr e.value rest

pub keys_show : (identifier held : ElementList) → elements_of (shown_data_set identifier held)
    ≡ before (character_set held) (shown_elements (elements_of identifier) held)
unfolding shown_data_set
keys_show identifier held =
    first_shown (character_set held) (shown_keys identifier Outer held)
    ∙ ap (λ (d : ElementList). before (character_set held) (elements_of (shown_keys d Outer held)))
    (sym (as_elements-elements_of identifier))
    ∙ ap (before (character_set held)) (each_shown (elements_of identifier) Outer held)

pub plain_whole : (key found : Element) → cut_keys key.value ≡ None → shown_element key (Some found) ≡ found
plain_whole key found h = ap (λ (cut : Option ElementList). with_cut (cut_by cut) found) h ∙ with_cut-whole found.tag found.vr found.value

-- one more of those that are shown
pub one_shown : {A B : Type 0} (p : A → Bool) (f : A → B) (xs : List A) (i : ℕ) (x : A) → i < length xs → x ≡ get_or xs i x → p x ≡ true
    → map f (filter p (take (i + 1) xs)) ≡ map f (filter p (take i xs)) ++ f x ∷ []
one_shown p f xs i x lt is test = grind (arith, common_steps, filter_more p xs i x lt, map-append)
