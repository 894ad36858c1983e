-- Universal keys (PS3.4 section C.2.2.2.3), inside items too.
use Rattle.std.specs.Prelude.{Bool, true, false, not, ◌&&◌, ◌||◌, [], ◌∷◌}
use Rattle.std.specs.List.{list_all}
use Rattle.dq_vr.specs.declared.Vr.{Vr}
use Rattle.dq_dataset.specs.declared.data_set.Element.{Element}
use Rattle.dq_dataset.specs.declared.data_set.Value.{Value}
use Rattle.dq_dataset.specs.declared.data_set.Value.TheVariants.{Octets, Items}
use Rattle.dq_dataset.specs.View.{elements_of}
use Rattle.dq_match.specs.declared.keys.Nesting.TheVariants.{Outer}
use Rattle.dq_match.specs.Keys.{is_key}
use Rattle.dq_dataset.specs.Tree.{ElementList, no_elements, element, sequence, ItemList, no_items, item}
use Rattle.dq_match.specs.Values.{is_universal}

abbrev mutual
  pub all_universal : ElementList → Bool
  all_universal no_elements = true
  all_universal (element tag vr octets rest) = is_universal vr octets && all_universal rest
  all_universal (sequence tag vr items rest) = are_universal items && all_universal rest

  pub are_universal : ItemList → Bool
  are_universal no_items = true
  are_universal (item d rest) = all_universal d && are_universal rest

-- An element of an identifier asks nothing of a record: it is no key, or it has no value to be met.
abbrev pub has_nothing_to_meet : Vr → Value → Bool
has_nothing_to_meet vr (Octets octets) = is_universal vr octets
has_nothing_to_meet vr (Items []) = true
has_nothing_to_meet vr (Items (d ∷ others)) = false

abbrev pub is_open_key : Element → Bool
is_open_key key = not (is_key Outer key.tag) || has_nothing_to_meet key.vr key.value

abbrev pub asks_nothing : ElementList → Bool
asks_nothing identifier = list_all is_open_key (elements_of identifier)
