-- Where a query gives its level's own unique key values, no record with another matches.
use Rattle.std.proofs.Common.{◌≡◌, ℕ, Bool, true, false, ◌||◌, ◌&&◌, List, [], ◌∷◌, Option, Some, None, is_some, unwrap_or, inl, inr, refl, sym, ap, ◌∙◌, arith}
use Rattle.std.specs.List.{AllByRecursion, list_any}
use Rattle.std.specs.Str.{bytes_eq}
use Rattle.std.proofs.lemmas.Bool.{not-true}
use Rattle.std.proofs.lemmas.Slice.Eq.{bytes_eq-Decides}
use Rattle.dq_list.specs.Among.{IsAmong}
use Rattle.dq_list.specs.Lengths.{is_empty}
use Rattle.dq_vr.specs.declared.Tag.{Tag}
use Rattle.dq_vr.specs.declared.Vr.{Vr}
use Rattle.dq_vr.specs.declared.Vr.TheVariants.{UI, UN}
use Rattle.dq_vr.specs.Dictionary.{dictionary, vr_in, known_vr}
use Rattle.dq_value.specs.Parts.{element_values}
use Rattle.dq_value.specs.Trimming.{is_padded, ignores_leading_spaces, without_leading, without_trailing, without_padding, trimmed_value}
use Rattle.dq_value.specs.Uid.{is_uid}
use Rattle.dq_dataset.specs.declared.data_set.Element.{Element}
use Rattle.dq_dataset.specs.declared.data_set.Value.{Value}
use Rattle.dq_dataset.specs.declared.data_set.Value.TheVariants.{Octets, Items}
use Rattle.dq_dataset.specs.Tree.{ElementList}
use Rattle.dq_dataset.specs.View.{elements_of, has_tag}
use Rattle.dq_dataset.specs.Values.{element_at, element_octets, sole_at}
use Rattle.dq_dataset.proofs.KnownVrs.{HasKnownVr}
use Rattle.dq_match.specs.declared.keys.Nesting.TheVariants.{Outer}
use Rattle.dq_match.specs.Keys.{is_key}
use Rattle.dq_match.specs.Values.{is_asterisk, is_universal, octets_meet, some_meet, matching_of}
use Rattle.dq_match.specs.Wildcards.{any_run}
use Rattle.dq_match.specs.Matching.{period, is_matched_elsewhere, is_start, meets}
use Rattle.dq_match.specs.StandardMatching.{EachIsMet}
use Rattle.dq_tables.specs.Keys.{uid_at}
use Rattle.dq_archive.proofs.OwnRecords.{passed}
use Rattle.dq_find.specs.declared.level.Level.{Level}
use Rattle.dq_find.specs.declared.level.Level.TheVariants.{Study, Series, Image}
use Rattle.dq_find.specs.Levels.{unique_key}
use Rattle.dq_find.specs.Candidates.{names_records}
use Rattle.dq_match.proofs.Alone.{not_passed}
use Rattle.dq_match.proofs.OneValue.{same_tag, found_has, one_at, is_met_by, meets_octets, one_met}

-- one UID is the only value
pub sole_of_uid : (tag : Tag) (d : ElementList) (uid : List ℕ) → uid_at tag d ≡ Some uid → sole_at tag d ≡ Some uid
unfolding uid_at
sole_of_uid tag d uid h = (passed is_uid (sole_at tag d) uid h).0

-- a tag whose elements have a VR, and are met each for itself
abbrev pub IsKeyOf : Vr → Tag → Type 0
IsKeyOf vr tag = (known_vr tag ≡ Some vr) × (is_key Outer tag ≡ true) × (is_start tag ≡ false)

pub unique_keys_are_uids : (level : Level) → IsKeyOf UI (unique_key level)
unfolding known_vr vr_in dictionary
unique_keys_are_uids Study = (refl, refl, refl)
unique_keys_are_uids Series = (refl, refl, refl)
unique_keys_are_uids Image = (refl, refl, refl)

-- ---- it is met by a value that is it

among_by : (b : Bool) (first other : List ℕ) (others : List (List ℕ)) → bytes_eq first other ≡ b
    → (list_any (λ key. bytes_eq key other) others ≡ true → IsAmong other others)
    → (b || list_any (λ key. bytes_eq key other) others) ≡ true → IsAmong other (first ∷ others)
among_by true first other others is rest h = inl ((bytes_eq-Decides first other).0 is)
among_by false first other others is rest h = inr (rest h)

among_met : (values : List (List ℕ)) (other : List ℕ) → list_any (λ key. bytes_eq key other) values ≡ true → IsAmong other values
among_met [] other h = absurd cc
among_met (first ∷ others) other h = among_by (bytes_eq first other) first other others refl (among_met others other) h

or_none : (b : Bool) → (b || false) ≡ true → b ≡ true
or_none true h = refl
or_none false h = h

no_asterisk : (first : List ℕ) (others : List (List ℕ)) → names_records (first ∷ others) ≡ true → is_asterisk (first ∷ others) ≡ false
no_asterisk first [] h = not-true (bytes_eq first (any_run ∷ [])) h
no_asterisk first (next ∷ others) h = refl

met_among : (key held other : List ℕ) (values : List (List ℕ)) → element_values UI key ≡ values → element_values UI held ≡ other ∷ [] → names_records values ≡ true
    → octets_meet UI key held ≡ true → IsAmong other values
unfolding octets_meet is_universal matching_of is_padded
met_among key held other [] one two named h = absurd cc
met_among key held other (first ∷ others) one two named h =
    let values : List (List ℕ) = first ∷ others in
    let reduced : ((false || (true && is_asterisk values)) || false) || (list_any (λ key. bytes_eq key other) values || false) ≡ true =
    (λ i. ((is_empty (sym one i) || (is_padded UI && is_asterisk (sym one i))) || is_empty (sym two i)) || some_meet (matching_of UI) (sym one i) (sym two i)) ∙ h in
    among_met values other
    (or_none (list_any (λ key. bytes_eq key other) values)
    (ap (λ (b : Bool). ((false || (true && b)) || false) || (list_any (λ key. bytes_eq key other) values || false)) (sym (no_asterisk first others named)) ∙ reduced))

-- the element of a key that names records
pub record HasValues (tag : Tag) (keys : ElementList) (values : List (List ℕ)) : Type 0 where
  pub element : Element
  pub octets : List ℕ
  pub there : element_at tag keys ≡ Some element
  pub holds : element.value ≡ Octets octets
  pub parted : element_values UI octets ≡ values

none_named : (octets : List ℕ) (values : List (List ℕ)) → octets ≡ [] → element_values UI octets ≡ values → names_records values ≡ true → ⊥
unfolding element_values trimmed_value without_padding without_leading without_trailing is_padded ignores_leading_spaces
none_named octets values none is named = grind arith

values_by : (tag : Tag) (keys : ElementList) (values : List (List ℕ)) (e : Element) (v : Value) → element_at tag keys ≡ Some e → e.value ≡ v
    → element_values UI (element_octets (Some e)) ≡ values → names_records values ≡ true → HasValues tag keys values
values_by tag keys values e (Octets octets) there holds is named =
    let same : element_octets (Some e) ≡ octets = rw holds refl in
    record { element = e; octets = octets; there = there; holds = holds; parted = ap (element_values UI) (sym same) ∙ is }
values_by tag keys values e (Items items) there holds is named = grind (arith, none_named)

values_in_element : (tag : Tag) (keys : ElementList) (values : List (List ℕ)) (found : Option Element) → element_at tag keys ≡ found
    → element_values UI (element_octets found) ≡ values → names_records values ≡ true → HasValues tag keys values
values_in_element tag keys values None there is named = absurd (none_named [] values refl is named)
values_in_element tag keys values (Some e) there is named = values_by tag keys values e e.value there refl is named

-- a record that is met has one of the UIDs that are asked for
pub named_among : (tag : Tag) (keys d held : ElementList) (values : List (List ℕ)) (other : List ℕ) → IsKeyOf UI tag
    → AllByRecursion HasKnownVr (elements_of keys) → AllByRecursion HasKnownVr (elements_of d) → element_at tag held ≡ element_at tag d
    → element_values UI (element_octets (element_at tag keys)) ≡ values → names_records values ≡ true → uid_at tag d ≡ Some other
    → EachIsMet Outer keys held → IsAmong other values
named_among tag keys d held values other of_uid known_keys known_held same asked named there each =
    let key = values_in_element tag keys values (element_at tag keys) refl asked named in
    let one = one_at UI tag of_uid.0 d known_held other (sole_of_uid tag d other there) in
    let facts = found_has HasKnownVr (has_tag tag) key.element (elements_of keys) known_keys key.there in
    let key_tag = same_tag key.element.tag tag facts.2 in
    let key_vr : key.element.vr ≡ UI =
    facts.1 key.octets key.holds ∙ ap (λ (t : Tag). unwrap_or (known_vr t) UN) key_tag ∙ ap (λ (v : Option Vr). unwrap_or v UN) of_uid.0 in
    let alone : is_matched_elsewhere Outer (is_some (period keys held)) key.element.tag ≡ false =
    ap (is_matched_elsewhere Outer (is_some (period keys held))) key_tag ∙ not_passed (is_some (period keys held)) Outer tag of_uid.1 of_uid.2 in
    let met = each key.element facts.0 alone in
    let at : element_at key.element.tag held ≡ Some one.element = ap (λ (t : Tag). element_at t held) key_tag ∙ same ∙ one.there in
    let octets : element_octets (Some one.element) ≡ one.octets = rw one.holds refl in
    met_among key.octets one.octets other values key.parted one.one named
    (sym (ap (λ (o : Option Element). meets key.element o) at ∙ meets_octets key.element (Some one.element) key.octets key.holds
    ∙ (λ i. octets_meet (key_vr i) key.octets (octets i))) ∙ met)

-- ---- one value that is asked for, against one value

pub one_alone : (vr : Vr) (tag : Tag) → IsKeyOf vr tag → (keys d held : ElementList)
    → AllByRecursion HasKnownVr (elements_of keys) → AllByRecursion HasKnownVr (elements_of d) → element_at tag held ≡ element_at tag d
    → EachIsMet Outer keys held → (asked said : List ℕ) → sole_at tag keys ≡ Some asked → sole_at tag d ≡ Some said
    → is_met_by vr asked said ≡ true
one_alone vr tag is keys d held known_keys known_held same each =
    one_met vr tag is.0 Outer keys d held known_keys known_held same each (not_passed (is_some (period keys held)) Outer tag is.1 is.2)
