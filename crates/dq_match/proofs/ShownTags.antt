-- The tags of what is shown.
use Rattle.std.proofs.Common.{◌≡◌, Bool, true, false, cond, List, [], ◌∷◌, Option, Some, None, IfSome, option_map, find, filter, refl, ap, ◌∙◌, arith}
use Rattle.std.proofs.lemmas.Bool.{cond_both}
use Rattle.dq_vr.specs.declared.Tag.{Tag}
use Rattle.dq_vr.specs.declared.Vr.{Vr}
use Rattle.dq_dataset.specs.declared.data_set.Element.{Element}
use Rattle.dq_dataset.specs.declared.data_set.Value.{Value}
use Rattle.dq_dataset.specs.declared.data_set.Value.TheVariants.{Octets, Items}
use Rattle.dq_dataset.specs.Tree.{ElementList, no_elements, element, sequence}
use Rattle.dq_dataset.specs.View.{has_tag, with_value}
use Rattle.dq_dataset.specs.Values.{element_octets}
use Rattle.dq_vr.specs.Tags.{specific_character_set}
use Rattle.dq_match.specs.declared.keys.Nesting.{Nesting}
use Rattle.dq_match.specs.declared.keys.Nesting.TheVariants.{Outer}
use Rattle.dq_match.specs.Keys.{is_tag, is_key}
use Rattle.dq_match.specs.Responses.{put, or_empty, with_cut, shown_keys, unless_empty, character_set, put_first, shown_data_set}
use Rattle.dq_match.specs.ShownTags.{tags_of, set_tags}
use Rattle.dq_match.proofs.OneValue.{same_tag}
use Rattle.dq_value.specs.Parts.{element_values}
use Rattle.dq_list.specs.Lengths.{is_empty}

abbrev HasTag : Tag → Option Element → Type 0
HasTag tag found = IfSome found (λ e. e.tag ≡ tag)

found_tag : (tag : Tag) (es : List Element) → HasTag tag (find (has_tag tag) es)
found_tag tag [] = tt
found_tag tag (e ∷ es) = cond_both (is_tag e.tag tag) (Some e) (find (has_tag tag) es) (HasTag tag) (same_tag e.tag tag)
    (λ none. found_tag tag es)

put_tag : (t : Tag) (v : Vr) (x : Value) (rest : ElementList) → tags_of (with_value (record { tag = t; vr = v; value = x }) x rest) ≡ t ∷ tags_of rest
put_tag t v (Octets o) rest = refl
put_tag t v (Items items) rest = refl

empty_tag : (tag : Tag) (vr : Vr) (value : Value) (held : Option Element) → HasTag tag held → (or_empty tag vr value held).tag ≡ tag
empty_tag tag vr value None h = refl
empty_tag tag vr value (Some e) h = h

cut_tag : (tag : Tag) (cut : List ElementList → List ElementList) (held : Option Element) → HasTag tag held → HasTag tag (option_map (with_cut cut) held)
cut_tag tag cut None h = tt
cut_tag tag cut (Some e) h = h

tags_by : (b : Bool) (tag : Tag) (e : Element) (rest : ElementList) (tags : List Tag) → e.tag ≡ tag → tags_of rest ≡ tags
    → tags_of (cond b (put e rest) rest) ≡ cond b (tag ∷ tags) tags
tags_by true tag e rest tags same h = put_tag e.tag e.vr e.value rest ∙ (λ i. same i ∷ h i)
tags_by false tag e rest tags same h = h

pub keys_shown : (keys : ElementList) (place : Nesting) (held : ElementList)
    → tags_of (shown_keys keys place held) ≡ filter (is_key place) (tags_of keys)
keys_shown no_elements place held = refl
keys_shown (element t v o rest) place held = grind (arith, tags_by, empty_tag, found_tag, keys_shown rest place held)
keys_shown (sequence t v items rest) place held =
    grind (arith, tags_by, empty_tag, cut_tag, found_tag, keys_shown rest place held)

set_tag : (found : Option Element) → HasTag specific_character_set found → HasTag specific_character_set (unless_empty found)
set_tag None h = tt
set_tag (Some e) h =
    cond_both (is_empty (element_values e.vr (element_octets (Some e)))) None (Some e) (HasTag specific_character_set) (λ none. tt)
    (λ some. h)

first_tags : (first : Option Element) (rest : ElementList) → HasTag specific_character_set first
    → tags_of (put_first first rest) ≡ set_tags first (tags_of rest)
first_tags None rest h = refl
first_tags (Some e) rest h = put_tag e.tag e.vr e.value rest ∙ ap (λ (t : Tag). t ∷ tags_of rest) h

pub tags_shown : (identifier held : ElementList) → tags_of (shown_data_set identifier held) ≡ set_tags (character_set held) (filter (is_key Outer) (tags_of identifier))
unfolding shown_data_set
tags_shown identifier held = grind (arith, first_tags, set_tag, found_tag, keys_shown)
