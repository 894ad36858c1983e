-- The elements of an identifier and of a record, by tag.
use Rattle.std.specs.Prelude.{Bool, true, not, List, [], ◌∷◌, Option, Some, None, ◌==◌, ◌&&◌}
use Rattle.std.specs.List.{list_any}
use Rattle.dq_vr.specs.declared.Tag.{Tag}
use Rattle.dq_vr.specs.Tags.{specific_character_set, query_retrieve_level, retrieve_ae_title, instance_availability}
use Rattle.dq_dataset.specs.Tree.{ElementList}
use Rattle.dq_dataset.specs.declared.data_set.Element.{Element}
use Rattle.dq_dataset.specs.declared.data_set.Value.{Value}
use Rattle.dq_dataset.specs.declared.data_set.Value.TheVariants.{Octets, Items}
use Rattle.dq_match.specs.declared.keys.Nesting.{Nesting}
use Rattle.dq_match.specs.declared.keys.Nesting.TheVariants.{Outer, Inner}

-- an element that is absent, and one that is no sequence, have no items
abbrev pub value_items : Value → List ElementList
value_items (Octets octets) = []
value_items (Items items) = items

abbrev pub items_in : Option Element → List ElementList
items_in None = []
items_in (Some e) = value_items e.value

abbrev pub is_tag : Tag → Tag → Bool
is_tag wanted tag = (wanted.group == tag.group) && (wanted.element == tag.element)

-- the elements of an identifier that tell how it is answered, and are no keys (PS3.4 sections
-- C.4.1.1.3 and K.4.1.1.3)
abbrev pub other_than_keys : List Tag
other_than_keys =
    specific_character_set ∷ query_retrieve_level ∷ retrieve_ae_title ∷ instance_availability ∷ []

-- inside items every element is a key
abbrev pub is_key : Nesting → Tag → Bool
is_key Outer tag = not (list_any (λ wanted. is_tag wanted tag) other_than_keys)
is_key Inner tag = true
