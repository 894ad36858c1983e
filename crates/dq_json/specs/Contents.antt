-- The facts of an element that is read, which make a data set of several (PS3.5 sections 7.1 and 7.5).
use Rattle.std.specs.Prelude.{◌≡◌, ◌<◌, ◌-◌, ◌%◌, ℕ, length, true, false, List, [], ◌∷◌, Option, Some, None}
use Rattle.dq_vr.specs.declared.Tag.{Tag}
use Rattle.dq_vr.specs.declared.Vr.{Vr}
use Rattle.dq_dataset.specs.declared.data_set.Element.{Element}
use Rattle.dq_dataset.specs.declared.data_set.Value.{Value}
use Rattle.dq_dataset.specs.declared.data_set.Value.TheVariants.{Octets, Items}
use Rattle.dq_dataset.specs.Rules.{is_sequence}
use Rattle.dq_dataset.specs.View.{as_elements, items_of}
use Rattle.dq_dataset.specs.Facts.{AreElements, AreItems}

-- an attribute may have the VR, by what the dictionary says
abbrev pub IsVrFor : Option Vr → Vr → Type 0
IsVrFor None vr = Unit {0}
IsVrFor (Some known) vr = known ≡ vr

-- A sequence has items, with a level for them, and no other attribute has.
abbrev pub IsContent : ℕ → Vr → Value → Type 0
IsContent levels vr (Octets octets) = (is_sequence (Some vr) ≡ false) × (length octets % 2 ≡ 0)
IsContent levels vr (Items items) = (is_sequence (Some vr) ≡ true) × (0 < levels) × AreItems (levels - 1) (items_of items)

-- the element may stand behind the one with the tag `last`
abbrev pub IsNext : ℕ → Option Tag → Element → Type 0
IsNext levels last e = AreElements levels last (as_elements (e ∷ []))

-- the tag of the last element
abbrev pub last_tag : Option Tag → List Element → Option Tag
last_tag last [] = last
last_tag last (e ∷ es) = last_tag (Some e.tag) es
