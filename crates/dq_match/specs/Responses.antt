-- The part of a record that a response shows (PS3.4 sections C.4.1.1.3.2 and K.4.1.1.3.2).
use Rattle.std.specs.Prelude.{Bool, true, false, List, [], ◌∷◌, Option, Some, None, map, filter, option_map, if◌then◌else◌}
use Rattle.dq_list.specs.Lengths.{is_empty}
use Rattle.dq_vr.specs.declared.Tag.{Tag}
use Rattle.dq_vr.specs.declared.Vr.{Vr}
use Rattle.dq_vr.specs.Tags.{specific_character_set}
use Rattle.dq_value.specs.Parts.{element_values}
use Rattle.dq_dataset.specs.Tree.{ElementList, no_elements, element, sequence, ItemList, no_items, item}
use Rattle.dq_dataset.specs.View.{with_value}
use Rattle.dq_dataset.specs.Values.{element_at, element_octets}
use Rattle.dq_dataset.specs.declared.data_set.Element.{Element}
use Rattle.dq_dataset.specs.declared.data_set.Value.{Value}
use Rattle.dq_dataset.specs.declared.data_set.Value.TheVariants.{Octets, Items}
use Rattle.dq_match.specs.declared.keys.Nesting.{Nesting}
use Rattle.dq_match.specs.declared.keys.Nesting.TheVariants.{Outer, Inner}
use Rattle.dq_match.specs.Keys.{is_key}
use Rattle.dq_match.specs.Matching.{all_met}

-- an element before others
abbrev pub put : Element → ElementList → ElementList
put e others = with_value e e.value others

-- what a record has not is shown without a value
abbrev pub no_value : Value → Value
no_value (Octets octets) = Octets []
no_value (Items items) = Items []

abbrev pub or_empty : Tag → Vr → Value → Option Element → Element
or_empty tag vr value None = record { tag = tag; vr = vr; value = no_value value }
or_empty tag vr value (Some held) = held

abbrev pub has_no_elements : ElementList → Bool
has_no_elements no_elements = true
has_no_elements (element tag vr octets rest) = false
has_no_elements (sequence tag vr items rest) = false

-- a sequence with its items cut
abbrev pub cut_value : (List ElementList → List ElementList) → Value → Value
cut_value cut (Octets octets) = Octets octets
cut_value cut (Items items) = Items (cut items)

abbrev pub with_cut : (List ElementList → List ElementList) → Element → Element
with_cut cut e = record { tag = e.tag; vr = e.vr; value = cut_value cut e.value }

-- For each key the record's element. A sequence key with keys in its item shows the record's items
-- that meet them all, each cut to these keys; else it shows the record's items whole.
abbrev mutual
  pub shown_keys : ElementList → Nesting → ElementList → ElementList
  shown_keys no_elements place held = no_elements
  shown_keys (element tag vr octets rest) place held =
      if is_key place tag
      then put (or_empty tag vr (Octets octets) (element_at tag held)) (shown_keys rest place held)
      else shown_keys rest place held
  shown_keys (sequence tag vr items rest) place held =
      let found = option_map (with_cut (shown_items items)) (element_at tag held) in
      if is_key place tag then put (or_empty tag vr (Items []) found) (shown_keys rest place held)
      else shown_keys rest place held

  pub shown_items : ItemList → List ElementList → List ElementList
  shown_items no_items held = held
  shown_items (item keys others) held =
      if has_no_elements keys then held
      else map (λ d. shown_keys keys Inner d) (filter (λ d. all_met Inner keys d) held)

-- the record's character set, where it has a value
abbrev pub unless_empty : Option Element → Option Element
unless_empty None = None
unless_empty (Some e) = if is_empty (element_values e.vr (element_octets (Some e))) then None else Some e

abbrev pub character_set : ElementList → Option Element
character_set held = unless_empty (element_at specific_character_set held)

abbrev pub put_first : Option Element → ElementList → ElementList
put_first None others = others
put_first (Some e) others = put e others

-- the character set comes first, asked for or not
unfoldable pub shown_data_set : ElementList → ElementList → ElementList
shown_data_set identifier held = put_first (character_set held) (shown_keys identifier Outer held)

-- ---- one key at a time

-- the keys in the item of a sequence key, where there are any
abbrev pub cut_keys : Value → Option ElementList
cut_keys (Octets octets) = None
cut_keys (Items []) = None
cut_keys (Items (keys ∷ others)) = if has_no_elements keys then None else Some keys

abbrev pub cut_by : Option ElementList → List ElementList → List ElementList
cut_by None held = held
cut_by (Some keys) held =
    map (λ d. shown_keys keys Inner d) (filter (λ d. all_met Inner keys d) held)

abbrev pub shown_found : Element → Element → Element
shown_found key found = with_cut (cut_by (cut_keys key.value)) found

abbrev pub shown_element : Element → Option Element → Element
shown_element key held = or_empty key.tag key.vr key.value (option_map (shown_found key) held)

-- what stands before elements, where there is something
abbrev pub before : Option Element → List Element → List Element
before None others = others
before (Some e) others = e ∷ others

-- for each key of an identifier, in order, the record's element as the key shows it
abbrev pub shown_elements : List Element → ElementList → List Element
shown_elements identifier held =
    map (λ key. shown_element key (element_at key.tag held))
    (filter (λ key. is_key Outer key.tag) identifier)
