-- The element with a tag, and the values that it holds (PS3.5 section 6.4).
use Rattle.std.specs.Prelude.{ℕ, List, [], find, Option, Some, None}
use Rattle.dq_vr.specs.declared.Tag.{Tag}
use Rattle.dq_vr.specs.declared.Vr.{Vr}
use Rattle.dq_value.specs.Parts.{element_values, sole}
use Rattle.dq_dataset.specs.declared.data_set.Element.{Element}
use Rattle.dq_dataset.specs.declared.data_set.Value.{Value}
use Rattle.dq_dataset.specs.declared.data_set.Value.TheVariants.{Octets, Items}
use Rattle.dq_dataset.specs.Tree.{ElementList}
use Rattle.dq_dataset.specs.View.{elements_of, has_tag}

abbrev pub element_at : Tag → ElementList → Option Element
element_at tag d = find (has_tag tag) (elements_of d)

-- an element that is absent, and a sequence, have no octets
abbrev pub value_octets : Value → List ℕ
value_octets (Octets octets) = octets
value_octets (Items items) = []

abbrev pub element_octets : Option Element → List ℕ
element_octets None = []
element_octets (Some e) = value_octets e.value

-- an element that is absent, and a sequence, have no values; each value is trimmed
abbrev pub values_of : Vr → Value → List (List ℕ)
values_of vr (Octets octets) = element_values vr octets
values_of vr (Items items) = []

abbrev pub values_in : Option Element → List (List ℕ)
values_in None = []
values_in (Some e) = values_of e.vr e.value

-- the only value of an element
unfoldable pub sole_at : Tag → ElementList → Option (List ℕ)
sole_at tag d = sole (values_in (element_at tag d))
