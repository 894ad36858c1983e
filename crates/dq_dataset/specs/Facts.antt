-- The facts of every data set (PS3.5 sections 6.2, 7.1 and 7.5): tags rise, none is that of an
-- item, an end or a group length, VRs are the dictionary's, values are even, and sequences nest at
-- most 16 deep.
use Rattle.std.specs.Prelude.{◌≡◌, ◌≢◌, ℕ, ◌-◌, ◌<◌, ◌^◌, ◌%◌, true, false, ◌||◌, List, length, Option, Some, None, is_none, unwrap_or}
use Rattle.dq_vr.specs.declared.Tag.{Tag}
use Rattle.dq_vr.specs.declared.Vr.{Vr}
use Rattle.dq_vr.specs.declared.Vr.TheVariants.{SQ, UN}
use Rattle.dq_vr.specs.Dictionary.{known_vr}
use Rattle.dq_dataset.specs.Tree.{ElementList, no_elements, element, sequence, ItemList, no_items, item}
use Rattle.dq_dataset.specs.Rules.{is_sequence, follows}

-- The tag is that of an element, above the one before it.
pub record IsElementTag (last : Option Tag) (tag : Tag) : Type 0 where
  pub rises : follows last tag ≡ true
  pub no_delimiter : tag.group ≢ 0xFFFE
  pub no_length : tag.element ≢ 0
  pub group : tag.group < 2 ^ 16
  pub number : tag.element < 2 ^ 16

-- A known tag has the dictionary's VR, and an unknown one UN. The value is even.
pub record IsPlain (tag : Tag) (vr : Vr) (octets : List ℕ) : Type 0 where
  pub by_dictionary : vr ≡ unwrap_or (known_vr tag) UN
  pub no_sequence : is_sequence (known_vr tag) ≡ false
  pub even : length octets % 2 ≡ 0

-- A tag that the dictionary has as a sequence, or that is unknown, may hold items.
pub record IsSequence (tag : Tag) (vr : Vr) : Type 0 where
  pub is_sq : vr ≡ SQ
  pub allowed : (is_none (known_vr tag) || is_sequence (known_vr tag)) ≡ true

abbrev mutual
  pub AreElements : ℕ → Option Tag → ElementList → Type 0
  AreElements levels last no_elements = Unit {0}
  AreElements levels last (element tag vr octets rest) =
      IsElementTag last tag × IsPlain tag vr octets × AreElements levels (Some tag) rest
  AreElements levels last (sequence tag vr items rest) =
      IsElementTag last tag × IsSequence tag vr × (0 < levels) × AreItems (levels - 1) items
      × AreElements levels (Some tag) rest

  pub AreItems : ℕ → ItemList → Type 0
  AreItems levels no_items = Unit {0}
  AreItems levels (item d rest) = AreElements levels None d × AreItems levels rest

abbrev pub IsDataSet : ElementList → Type 0
IsDataSet d = AreElements 16 None d
