-- The grammar of data sets (PS3.5 sections 7.1, 7.2 and 7.5), on whole octets: which octets spell
-- which elements.
use Rattle.std.specs.Prelude.{◌≡◌, ◌≢◌, ℕ, suc, ◌<◌, ◌^◌, List, [], ◌∷◌, ◌++◌, length, Option, Some, None, Ok, true, ◌==◌, if◌then◌else◌}
use Rattle.std.specs.Int.{w16, w32, to_le_bytes}
use Rattle.dq_vr.specs.declared.Tag.{Tag}
use Rattle.dq_vr.specs.declared.Vr.{Vr}
use Rattle.dq_vr.specs.declared.LengthForm.{LengthForm}
use Rattle.dq_vr.specs.declared.LengthForm.TheVariants.{Two, Four}
use Rattle.dq_vr.specs.Dictionary.{known_vr}
use Rattle.dq_vr.specs.Vr.{length_form_of, vr_with_letters}
use Rattle.dq_dataset.specs.declared.header.Syntax.{Syntax}
use Rattle.dq_dataset.specs.declared.header.Syntax.TheVariants.{Implicit, Explicit}
use Rattle.dq_dataset.specs.declared.header.Bound.{Bound}
use Rattle.dq_dataset.specs.declared.header.Bound.TheVariants.{Filled, Delimited}
use Rattle.dq_dataset.specs.declared.header.Content.{Content}
use Rattle.dq_dataset.specs.declared.header.Content.TheVariants.{Plain, Sequence}
use Rattle.dq_dataset.specs.declared.data_set.Value.{Value}
use Rattle.dq_dataset.specs.declared.data_set.Value.TheVariants.{Octets, Items}
use Rattle.dq_dataset.specs.Tree.{ElementList, no_elements}
use Rattle.dq_dataset.specs.View.{with_value}
use Rattle.dq_dataset.specs.Rules.{agrees, content_of, vr_of, padded_value, follows}
use Rattle.dq_dataset.specs.Canonical.{tag_octets}

-- ---- headers

-- A length of 4 octets. FFFFFFFFH is the undefined length.
abbrev pub IsLength : Option ℕ → List ℕ → Type 0
IsLength None octets = octets ≡ to_le_bytes w32 0xFFFFFFFF
IsLength (Some n) octets = (n < 0xFFFFFFFF) × (octets ≡ to_le_bytes w32 n)

-- After the letters of a VR stand a length of 2 octets, or 2 reserved octets and a length of 4.
abbrev pub IsLengthBehind : LengthForm → Option ℕ → List ℕ → Type 0
IsLengthBehind Two None octets = ⊥
IsLengthBehind Two (Some n) octets = (n < 2 ^ 16) × (octets ≡ to_le_bytes w16 n)
IsLengthBehind Four extent octets =
    (reserved : List ℕ) × (length reserved ≡ 2) × (four : List ℕ) × IsLength extent four
    × (octets ≡ reserved ++ four)

-- After the tag stand the letters of a VR that the dictionary allows, in Explicit alone, and the
-- length.
abbrev pub IsSpelling : Syntax → Option Vr → Option Vr → Option ℕ → List ℕ → Type 0
IsSpelling Implicit known None extent octets = IsLength extent octets
IsSpelling Implicit known (Some vr) extent octets = ⊥
IsSpelling Explicit known None extent octets = ⊥
IsSpelling Explicit known (Some vr) extent octets =
    (agrees known vr ≡ true) × (a : ℕ) × (b : ℕ) × (vr_with_letters (a ∷ b ∷ []) ≡ Some vr)
    × (behind : List ℕ) × IsLengthBehind (length_form_of vr) extent behind
    × (octets ≡ a ∷ b ∷ behind)

pub record IsHeader (syntax : Syntax) (tag : Tag) (content : Content) (octets : List ℕ)
    : Type 0 where
  pub spelled : Option Vr
  pub extent : Option ℕ
  pub allowed : content_of (known_vr tag) spelled extent ≡ Ok content
  pub behind : List ℕ
  pub spelling : IsSpelling syntax (known_vr tag) spelled extent behind
  pub whole : octets ≡ tag_octets tag ++ behind

-- Tags rise, and those of items and ends are no elements.
pub record IsPlaced (last : Option Tag) (tag : Tag) : Type 0 where
  pub rises : follows last tag ≡ true
  pub no_delimiter : tag.group ≢ 0xFFFE
  pub group : tag.group < 2 ^ 16
  pub number : tag.element < 2 ^ 16

abbrev pub delimiter : ℕ → List ℕ
delimiter element = tag_octets (record { group = 0xFFFE; element = element })

pub record IsItemHeader (extent : Option ℕ) (octets : List ℕ) : Type 0 where
  pub four : List ℕ
  pub is_length : IsLength extent four
  pub whole : octets ≡ delimiter 0xE000 ++ four

-- ---- elements and items

-- Where a length is defined, what it measures fills it, and else it ends with an end of its own.
abbrev pub bound_of : Option ℕ → Bound
bound_of None = Delimited
bound_of (Some n) = Filled

abbrev pub HasExtent : Option ℕ → List ℕ → Type 0
HasExtent None octets = Unit {0}
HasExtent (Some n) octets = length octets ≡ n

abbrev pub IsEnd : Bound → ℕ → List ℕ → Type 0
IsEnd Filled element octets = octets ≡ []
IsEnd Delimited element octets = octets ≡ delimiter element ++ to_le_bytes w32 0

-- Group lengths, element number 0000, are no part of the data set.
abbrev pub without_group_length : Tag → Vr → Value → ElementList → ElementList
without_group_length tag vr value others =
    if tag.element == 0 then others
    else with_value (record { tag = tag; vr = vr; value = value }) value others

mutual
  -- The octets spell elements after the tag last, up to where the bound says, with so many more
  -- levels of sequences at most.
  pub data Spells : Bound → Syntax → ℕ → Option Tag → List ℕ → ElementList → Type 0 where
    no_more : (bound : Bound) (syntax : Syntax) (levels : ℕ) (last : Option Tag) (octets : List ℕ)
        → IsEnd bound 0xE00D octets → Spells bound syntax levels last octets no_elements
    more : (bound : Bound) (syntax : Syntax) (levels : ℕ) (last : Option Tag) (octets : List ℕ)
        (all : ElementList) (tag : Tag) (content : Content) (header value rest : List ℕ)
        (held : Value) (others : ElementList)
        → IsPlaced last tag → IsHeader syntax tag content header
        → SpellsValue levels (vr_of (known_vr tag) content) content value held
        → Spells bound syntax levels (Some tag) rest others
        → octets ≡ header ++ (value ++ rest)
        → all ≡ without_group_length tag (vr_of (known_vr tag) content) held others
        → Spells bound syntax levels last octets all

  -- The octets spell a value: so many octets, which get a pad where they are odd, or items.
  pub data SpellsValue : ℕ → Vr → Content → List ℕ → Value → Type 0 where
    plain : (levels : ℕ) (vr : Vr) (n : ℕ) (octets : List ℕ) → length octets ≡ n
        → SpellsValue levels vr (Plain n) octets (Octets (padded_value vr octets))
    nested : (levels : ℕ) (vr : Vr) (syntax : Syntax) (extent : Option ℕ) (octets : List ℕ)
        (items : List ElementList)
        → HasExtent extent octets → SpellsItems (bound_of extent) syntax levels octets items
        → SpellsValue (suc levels) vr (Sequence syntax extent) octets (Items items)

  pub data SpellsItems : Bound → Syntax → ℕ → List ℕ → List ElementList → Type 0 where
    no_item : (bound : Bound) (syntax : Syntax) (levels : ℕ) (octets : List ℕ)
        → IsEnd bound 0xE0DD octets → SpellsItems bound syntax levels octets []
    one_item : (bound : Bound) (syntax : Syntax) (levels : ℕ) (octets : List ℕ)
        (extent : Option ℕ) (header value rest : List ℕ) (first : ElementList)
        (others : List ElementList)
        → IsItemHeader extent header → HasExtent extent value
        → Spells (bound_of extent) syntax levels None value first
        → SpellsItems bound syntax levels rest others → octets ≡ header ++ (value ++ rest)
        → SpellsItems bound syntax levels octets (first ∷ others)

-- The octets spell the data set, all of them. A sequence of the outer data set has depth 1, and
-- depth 16 is the greatest.
abbrev pub IsSpelled : Syntax → List ℕ → ElementList → Type 0
IsSpelled syntax octets data_set = Spells Filled syntax 16 None octets data_set
