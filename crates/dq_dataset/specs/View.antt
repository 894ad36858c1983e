-- Between the elements of a data set in the code and those of the definitions.
use Rattle.std.specs.Prelude.{List, [], ◌∷◌, Bool, ◌==◌, ◌&&◌}
use Rattle.dq_vr.specs.declared.Tag.{Tag}
use Rattle.dq_dataset.specs.Tree.{ElementList, no_elements, element, sequence, ItemList, no_items, item}
use Rattle.dq_dataset.specs.declared.data_set.Element.{Element}
use Rattle.dq_dataset.specs.declared.data_set.Value.{Value}
use Rattle.dq_dataset.specs.declared.data_set.Value.TheVariants.{Octets, Items}

abbrev pub items_of : List ElementList → ItemList
items_of [] = no_items
items_of (d ∷ ds) = item d (items_of ds)

abbrev pub with_value : Element → Value → ElementList → ElementList
with_value e (Octets o) rest = element e.tag e.vr o rest
with_value e (Items ds) rest = sequence e.tag e.vr (items_of ds) rest

abbrev pub as_elements : List Element → ElementList
as_elements [] = no_elements
as_elements (e ∷ es) = with_value e e.value (as_elements es)

abbrev pub list_of : ItemList → List ElementList
list_of no_items = []
list_of (item d ds) = d ∷ list_of ds

abbrev pub elements_of : ElementList → List Element
elements_of no_elements = []
elements_of (element t v o rest) = record { tag = t; vr = v; value = Octets o } ∷ elements_of rest
elements_of (sequence t v items rest) =
    record { tag = t; vr = v; value = Items (list_of items) } ∷ elements_of rest

abbrev pub has_tag : Tag → Element → Bool
has_tag tag e = (e.tag.group == tag.group) && (e.tag.element == tag.element)
