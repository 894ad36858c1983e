-- The one spelling that is written (PS3.5 sections 7.1, 7.2 and 7.5): defined lengths, and no
-- group lengths.
use Rattle.std.specs.Prelude.{ℕ, ◌<◌, List, [], ◌∷◌, ◌++◌, length, nat_lt, if◌then◌else◌}
use Rattle.std.specs.Int.{w16, w32, to_le_bytes}
use Rattle.dq_vr.specs.declared.Tag.{Tag}
use Rattle.dq_vr.specs.declared.Vr.{Vr}
use Rattle.dq_vr.specs.declared.Vr.TheVariants.{UN}
use Rattle.dq_vr.specs.declared.LengthForm.{LengthForm}
use Rattle.dq_vr.specs.declared.LengthForm.TheVariants.{Two, Four}
use Rattle.dq_vr.specs.Vr.{length_form_of, letters_of}
use Rattle.dq_dataset.specs.declared.header.Syntax.{Syntax}
use Rattle.dq_dataset.specs.declared.header.Syntax.TheVariants.{Implicit, Explicit}
use Rattle.dq_dataset.specs.Tree.{ElementList, no_elements, element, sequence, ItemList, no_items, item}

abbrev pub tag_octets : Tag → List ℕ
tag_octets tag = to_le_bytes w16 tag.group ++ to_le_bytes w16 tag.element

-- two reserved octets and a length of 4
abbrev pub long_length : ℕ → List ℕ
long_length n = 0 ∷ 0 ∷ to_le_bytes w32 n

-- The VR and the length. What does not fit a length of 2 octets is spelled UN
-- (PS3.5 section 6.2.2).
unfoldable pub vr_and_length : LengthForm → Vr → ℕ → List ℕ
vr_and_length Two vr n =
    if nat_lt 65534 n then letters_of UN ++ long_length n else letters_of vr ++ to_le_bytes w16 n
vr_and_length Four vr n = letters_of vr ++ long_length n

unfoldable pub header_octets : Syntax → Tag → Vr → ℕ → List ℕ
header_octets Implicit tag vr n = tag_octets tag ++ to_le_bytes w32 n
header_octets Explicit tag vr n = tag_octets tag ++ vr_and_length (length_form_of vr) vr n

unfoldable pub item_header_of : ℕ → List ℕ
item_header_of n = tag_octets (record { group = 0xFFFE; element = 0xE000 }) ++ to_le_bytes w32 n

abbrev mutual
  pub canonical : Syntax → ElementList → List ℕ
  canonical syntax no_elements = []
  canonical syntax (element tag vr octets rest) =
      header_octets syntax tag vr (length octets) ++ octets ++ canonical syntax rest
  canonical syntax (sequence tag vr items rest) =
      header_octets syntax tag vr (length (canonical_items syntax items))
      ++ canonical_items syntax items ++ canonical syntax rest

  pub canonical_items : Syntax → ItemList → List ℕ
  canonical_items syntax no_items = []
  canonical_items syntax (item d rest) =
      item_header_of (length (canonical syntax d)) ++ canonical syntax d
      ++ canonical_items syntax rest

-- Each value has a defined length, which is below FFFFFFFFH.
abbrev mutual
  pub HasLengths : Syntax → ElementList → Type 0
  HasLengths syntax no_elements = Unit {0}
  HasLengths syntax (element tag vr octets rest) =
      (length octets < 0xFFFFFFFF) × HasLengths syntax rest
  HasLengths syntax (sequence tag vr items rest) =
      (length (canonical_items syntax items) < 0xFFFFFFFF) × ItemsHaveLengths syntax items
      × HasLengths syntax rest

  pub ItemsHaveLengths : Syntax → ItemList → Type 0
  ItemsHaveLengths syntax no_items = Unit {0}
  ItemsHaveLengths syntax (item d rest) =
      (length (canonical syntax d) < 0xFFFFFFFF) × HasLengths syntax d
      × ItemsHaveLengths syntax rest
