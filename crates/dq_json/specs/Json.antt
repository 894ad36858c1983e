-- The DICOM JSON Model object of a data set (PS3.18 section F.2).
use Rattle.std.specs.Prelude.{List, [], ◌∷◌, ◌++◌, codes}
use Rattle.json.specs.Token.{Token, begin_object, end_object, begin_array, end_array, key}
use Rattle.dq_vr.specs.declared.Tag.{Tag}
use Rattle.dq_vr.specs.declared.Vr.{Vr}
use Rattle.dq_dataset.specs.declared.data_set.Element.{Element}
use Rattle.dq_dataset.specs.declared.data_set.Value.{Value}
use Rattle.dq_dataset.specs.declared.data_set.Value.TheVariants.{Octets, Items}
use Rattle.dq_dataset.specs.Tree.{ElementList, no_elements, element, sequence, ItemList, no_items, item}
use Rattle.dq_dataset.specs.View.{items_of}
use Rattle.dq_json.specs.declared.text.Repertoire.{Repertoire}
use Rattle.dq_json.specs.declared.text.Repertoire.TheVariants.{Utf8}
use Rattle.dq_json.specs.Text.{octets_told, repertoire_of}
use Rattle.dq_json.specs.Attributes.{attribute, octets_member}

-- the member Value with the tokens of all values, where there are any
abbrev pub array_member : List Token → List Token
array_member [] = []
array_member (t ∷ ts) = key (codes "Value") ∷ begin_array ∷ (t ∷ (ts ++ end_array ∷ []))

-- An attribute for each element, in order. A sequence has its items as an array, where it has any.
abbrev mutual
  pub members : Repertoire → ElementList → List Token
  members repertoire no_elements = []
  members repertoire (element tag vr octets rest) =
      attribute tag vr (octets_member repertoire vr (octets_told tag octets)) ++ members repertoire rest
  members repertoire (sequence tag vr items rest) =
      attribute tag vr (array_member (objects repertoire items)) ++ members repertoire rest

  pub objects : Repertoire → ItemList → List Token
  objects repertoire no_items = []
  objects repertoire (item d rest) =
      begin_object ∷ (members (repertoire_of repertoire d) d ++ end_object ∷ [])
      ++ objects repertoire rest

abbrev pub items_member : Repertoire → ItemList → List Token
items_member repertoire items = array_member (objects repertoire items)

-- A data set, in one that has the repertoire.
abbrev pub object_in : Repertoire → ElementList → List Token
object_in outer d = begin_object ∷ (members (repertoire_of outer d) d ++ end_object ∷ [])

-- The tokens of a data set's JSON.
abbrev pub json_tokens : ElementList → List Token
json_tokens d = object_in Utf8 d

-- The value of one element, and one element.
abbrev pub member_of : Repertoire → Tag → Vr → Value → List Token
member_of repertoire tag vr (Octets octets) = octets_member repertoire vr (octets_told tag octets)
member_of repertoire tag vr (Items items) = items_member repertoire (items_of items)

abbrev pub attribute_of : Repertoire → Element → List Token
attribute_of repertoire e = attribute e.tag e.vr (member_of repertoire e.tag e.vr e.value)
