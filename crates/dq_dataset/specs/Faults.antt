-- The first fault of octets that spell no data set (PS3.5 sections 7.1, 7.2 and 7.5), by cases on
-- whole octets.
use Rattle.std.specs.Prelude.{◌≡◌, ℕ, ◌-◌, ◌<◌, Bool, true, false, not, List, [], ◌∷◌, ◌++◌, length, take, drop, Option, Some, None, is_none, nat_lt, ◌==◌, ◌&&◌, ◌||◌, if◌then◌else◌}
use Rattle.std.specs.Int.{Width, w16, w32, byte_len, from_le_bytes}
use Rattle.dq_vr.specs.declared.Tag.{Tag}
use Rattle.dq_vr.specs.declared.Vr.{Vr}
use Rattle.dq_vr.specs.declared.LengthForm.{LengthForm}
use Rattle.dq_vr.specs.declared.LengthForm.TheVariants.{Two, Four}
use Rattle.dq_vr.specs.Dictionary.{known_vr}
use Rattle.dq_vr.specs.Vr.{length_form_of, vr_with_letters}
use Rattle.dq_dataset.specs.declared.fault.ReadFault.{ReadFault}
use Rattle.dq_dataset.specs.declared.fault.ReadFault.TheVariants.{Truncated, BadVr, TagOrder, BadItem, BadUndefined, TooDeep}
use Rattle.dq_dataset.specs.declared.header.Syntax.{Syntax}
use Rattle.dq_dataset.specs.declared.header.Syntax.TheVariants.{Implicit, Explicit}
use Rattle.dq_dataset.specs.declared.header.Bound.{Bound}
use Rattle.dq_dataset.specs.declared.header.Bound.TheVariants.{Filled, Delimited}
use Rattle.dq_dataset.specs.declared.header.Content.{Content}
use Rattle.dq_dataset.specs.declared.header.Content.TheVariants.{Sequence}
use Rattle.dq_dataset.specs.declared.data_set.Value.{Value}
use Rattle.dq_dataset.specs.Tree.{ElementList}
use Rattle.dq_dataset.specs.Rules.{is_sequence, is_unknown, agrees, vr_of, follows, fits_enclosing}
use Rattle.dq_dataset.specs.Grammar.{IsHeader, IsPlaced, IsItemHeader, HasExtent, Spells, SpellsValue, bound_of}

-- ---- the fields of a header, at their places

-- The number that stands so many octets after the first, little-endian.
abbrev pub number_in : Width → ℕ → List ℕ → ℕ
number_in w place octets = from_le_bytes w (take (byte_len w) (drop place octets))

abbrev pub tag_in : List ℕ → Tag
tag_in octets = record { group = number_in w16 0 octets; element = number_in w16 2 octets }

-- The VR that is spelled, which only Explicit has.
abbrev pub spelled_vr : Syntax → List ℕ → Option Vr
spelled_vr Implicit octets = None
spelled_vr Explicit octets = vr_with_letters (take 2 (drop 4 octets))

abbrev pub defined_length : ℕ → Option ℕ
defined_length n = if n == 0xFFFFFFFF then None else Some n

abbrev pub size_by : LengthForm → ℕ
size_by Two = 8
size_by Four = 12

-- How many octets the header has, by the VR that is spelled.
abbrev pub header_size : Option Vr → ℕ
header_size None = 8
header_size (Some vr) = size_by (length_form_of vr)

abbrev pub extent_by : LengthForm → List ℕ → Option ℕ
extent_by Two octets = Some (number_in w16 6 octets)
extent_by Four octets = defined_length (number_in w32 8 octets)

-- The length of the value, None where it is undefined.
abbrev pub extent_in : Option Vr → List ℕ → Option ℕ
extent_in None octets = defined_length (number_in w32 4 octets)
extent_in (Some vr) octets = extent_by (length_form_of vr) octets

-- ---- the faults at a header, in their order

-- Of conditions with their faults the first that holds.
abbrev pub first_of : List (Bool × ReadFault) → Option ReadFault
first_of [] = None
first_of (condition ∷ others) = if condition.0 then Some condition.1 else first_of others

abbrev pub is_allowed : Syntax → Option Vr → Option Vr → Bool
is_allowed Implicit known spelled = true
is_allowed Explicit known None = false
is_allowed Explicit known (Some vr) = agrees known vr

-- Whether items follow: after SQ, for a known sequence, and where the length is undefined after UN
-- or no VR for an unknown tag.
abbrev pub holds_items : Option Vr → Option Vr → Option ℕ → Bool
holds_items known spelled extent =
    is_sequence spelled || (is_sequence known
    || (is_none extent && (is_none known && (is_none spelled || is_unknown spelled))))

abbrev pub faults_of_content : ℕ → Option Vr → Option Vr → Option ℕ → List ℕ
    → List (Bool × ReadFault)
faults_of_content levels known spelled extent rest =
    (is_none extent && not (holds_items known spelled extent), BadUndefined) ∷
    (holds_items known spelled extent && (levels == 0), TooDeep) ∷
    (not (fits_enclosing extent rest), Truncated) ∷ []

abbrev pub faults_of_header : Syntax → ℕ → Option Tag → Tag → Option Vr → List ℕ
    → List (Bool × ReadFault)
faults_of_header syntax levels last tag spelled octets =
    (nat_lt (length octets) 8, Truncated) ∷
    (tag.group == 0xFFFE, BadItem) ∷
    (not (follows last tag), TagOrder) ∷
    (not (is_allowed syntax (known_vr tag) spelled), BadVr) ∷
    (nat_lt (length octets) (header_size spelled), Truncated) ∷
    faults_of_content levels (known_vr tag) spelled (extent_in spelled octets)
    (drop (header_size spelled) octets)

-- At the header of an element after the tag last, with so many more levels of sequences allowed.
abbrev pub header_faults : Syntax → ℕ → Option Tag → List ℕ → List (Bool × ReadFault)
header_faults syntax levels last octets =
    faults_of_header syntax levels last (tag_in octets) (spelled_vr syntax octets) octets

-- At the header of an item.
abbrev pub item_faults : List ℕ → List (Bool × ReadFault)
item_faults octets =
    (nat_lt (length octets) 8, Truncated) ∷
    (not (((tag_in octets).group == 0xFFFE) && ((tag_in octets).element == 0xE000)), BadItem) ∷
    (not (fits_enclosing (defined_length (number_in w32 4 octets)) (drop 8 octets)), Truncated) ∷ []

-- ---- the first fault

-- Elements or items end with the octets, or with (FFFE,E00D) or (FFFE,E0DD) and length 0.
abbrev pub ends_here : Bound → ℕ → List ℕ → Bool
ends_here Filled element octets = length octets == 0
ends_here Delimited element octets =
    not (nat_lt (length octets) 8)
    && ((((tag_in octets).group == 0xFFFE) && ((tag_in octets).element == element))
    && (number_in w32 4 octets == 0))

-- The part that may be faulty in a value: its octets, or, if the length is undefined, all that follows.
abbrev pub HasReach : Option ℕ → List ℕ → List ℕ → Type 0
HasReach None value rest = rest ≡ []
HasReach (Some n) value rest = length value ≡ n

mutual
  -- Reading elements from the left, the first fault is met at a header, in the items of a value, or
  -- after an element that is spelled.
  pub data HasFault : Bound → Syntax → ℕ → Option Tag → List ℕ → ReadFault → Type 0 where
    at_header : (bound : Bound) (syntax : Syntax) (levels : ℕ) (last : Option Tag) (octets : List ℕ)
        (fault : ReadFault) → ends_here bound 0xE00D octets ≡ false
        → first_of (header_faults syntax levels last octets) ≡ Some fault
        → HasFault bound syntax levels last octets fault
    in_value : (bound : Bound) (syntax : Syntax) (levels : ℕ) (last : Option Tag) (octets : List ℕ)
        (fault : ReadFault) (tag : Tag) (inner : Syntax) (extent : Option ℕ)
        (header value rest : List ℕ)
        → IsPlaced last tag → IsHeader syntax tag (Sequence inner extent) header → 0 < levels
        → HasReach extent value rest
        → ItemsHaveFault (bound_of extent) inner (levels - 1) value fault
        → octets ≡ header ++ (value ++ rest)
        → HasFault bound syntax levels last octets fault
    after_element : (bound : Bound) (syntax : Syntax) (levels : ℕ) (last : Option Tag)
        (octets : List ℕ) (fault : ReadFault)
        (tag : Tag) (content : Content) (header value rest : List ℕ) (held : Value)
        → IsPlaced last tag → IsHeader syntax tag content header
        → SpellsValue levels (vr_of (known_vr tag) content) content value held
        → HasFault bound syntax levels (Some tag) rest fault → octets ≡ header ++ (value ++ rest)
        → HasFault bound syntax levels last octets fault

  -- The same of items: at a header, in an item, or after an item that is spelled.
  pub data ItemsHaveFault : Bound → Syntax → ℕ → List ℕ → ReadFault → Type 0 where
    at_item : (bound : Bound) (syntax : Syntax) (levels : ℕ) (octets : List ℕ) (fault : ReadFault)
        → ends_here bound 0xE0DD octets ≡ false → first_of (item_faults octets) ≡ Some fault
        → ItemsHaveFault bound syntax levels octets fault
    in_item : (bound : Bound) (syntax : Syntax) (levels : ℕ) (octets : List ℕ) (fault : ReadFault)
        (extent : Option ℕ) (header value rest : List ℕ)
        → IsItemHeader extent header → HasReach extent value rest
        → HasFault (bound_of extent) syntax levels None value fault
        → octets ≡ header ++ (value ++ rest) → ItemsHaveFault bound syntax levels octets fault
    after_item : (bound : Bound) (syntax : Syntax) (levels : ℕ) (octets : List ℕ)
        (fault : ReadFault)
        (extent : Option ℕ) (header value rest : List ℕ) (first : ElementList)
        → IsItemHeader extent header → HasExtent extent value
        → Spells (bound_of extent) syntax levels None value first
        → ItemsHaveFault bound syntax levels rest fault → octets ≡ header ++ (value ++ rest)
        → ItemsHaveFault bound syntax levels octets fault

-- The octets, read as a data set, have this first fault.
abbrev pub IsFaulty : Syntax → List ℕ → ReadFault → Type 0
IsFaulty syntax octets fault = HasFault Filled syntax 16 None octets fault
