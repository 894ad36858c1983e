-- A device of the proofs: what reading from left to right computes. What is to be believed are
-- Grammar (which octets spell a data set) and Faults (which have which first fault), and laws say
-- that it answers exactly those.
use Rattle.std.specs.Prelude.{◌≡◌, ℕ, zero, suc, ◌-◌, ◌+◌, Bool, true, not, List, [], ◌∷◌, length, take, drop, Option, Some, None, Result, Ok, Err, nat_lt, ◌==◌, ◌&&◌, if◌then◌else◌, ◌⊎◌}
use Rattle.std.specs.Int.{Width, w16, w32, byte_len, from_le_bytes}
use Rattle.dq_vr.specs.declared.Tag.{Tag}
use Rattle.dq_vr.specs.declared.Vr.{Vr}
use Rattle.dq_vr.specs.declared.LengthForm.{LengthForm}
use Rattle.dq_vr.specs.declared.LengthForm.TheVariants.{Two, Four}
use Rattle.dq_vr.specs.Dictionary.{known_vr}
use Rattle.dq_vr.specs.Vr.{length_form_of, vr_with_letters}
use Rattle.dq_dataset.specs.declared.fault.ReadFault.{ReadFault}
use Rattle.dq_dataset.specs.declared.fault.ReadFault.TheVariants.{Truncated, BadVr, TagOrder, BadItem, TooDeep, NoMemory}
use Rattle.dq_dataset.specs.declared.header.Syntax.{Syntax}
use Rattle.dq_dataset.specs.declared.header.Syntax.TheVariants.{Implicit, Explicit}
use Rattle.dq_dataset.specs.declared.header.Content.{Content}
use Rattle.dq_dataset.specs.declared.header.Content.TheVariants.{Plain, Sequence}
use Rattle.dq_dataset.specs.declared.header.Bound.{Bound}
use Rattle.dq_dataset.specs.declared.header.Bound.TheVariants.{Filled, Delimited}
use Rattle.dq_dataset.specs.declared.header.Header.{Header}
use Rattle.dq_dataset.specs.declared.data_set.Element.{Element}
use Rattle.dq_dataset.specs.declared.data_set.Value.{Value}
use Rattle.dq_dataset.specs.declared.data_set.Value.TheVariants.{Octets, Items}
use Rattle.dq_dataset.specs.Rules.{agrees, content_of, vr_of, padded_value}
pub use Rattle.dq_dataset.specs.Rules.{follows, fits_enclosing}
use Rattle.dq_dataset.specs.Tree.{ElementList}
use Rattle.dq_dataset.specs.View.{as_elements}

infixl 10 ◌>>=◌
abbrev pub ◌>>=◌ : {A B : Type 0} → Result A ReadFault → (A → Result B ReadFault)
    → Result B ReadFault
(Ok x) >>= f = f x
(Err e) >>= f = Err e

-- A function answered, seen by view, what reading gives.
abbrev pub Answers : {X Y : Type 0} → (X → Y) → Result X ReadFault → Result Y ReadFault → Type 0
Answers view (Ok x) read = read ≡ Ok (view x)
Answers view (Err e) read = read ≡ Err e

-- The same of a function that takes memory, which may run out.
abbrev pub GivesOrReadFault : {X Y : Type 0} → (X → Y) → Result X ReadFault → Result Y ReadFault → Type 0
GivesOrReadFault view (Ok x) read = read ≡ Ok (view x)
GivesOrReadFault view (Err e) read = (e ≡ NoMemory) ⊎ (read ≡ Err e)

abbrev pub check : Bool → ReadFault → Result (Unit {0}) ReadFault
check holds fault = if holds then Ok tt else Err fault

-- Each field is answered with the octets after it. Numbers are little-endian.
abbrev pub number_at : Width → List ℕ → Result (ℕ × List ℕ) ReadFault
number_at w octets =
    if nat_lt (length octets) (byte_len w) then Err Truncated
    else Ok (from_le_bytes w (take (byte_len w) octets), drop (byte_len w) octets)

-- The tag of a header, which has at least 8 octets.
unfoldable pub tag_at : List ℕ → Result (Tag × List ℕ) ReadFault
tag_at octets =
    if nat_lt (length octets) 8 then Err Truncated
    else (number_at w16 octets >>= λ group. number_at w16 group.1 >>= λ number.
    Ok (record { group = group.0; element = number.0 }, number.1))

-- A length of 4 octets, None where it is undefined.
unfoldable pub long_length_at : List ℕ → Result (Option ℕ × List ℕ) ReadFault
long_length_at octets = do
  n ← number_at w32 octets
  Ok ((if n.0 == 0xFFFFFFFF then None else Some n.0), n.1)

-- After the letters of a VR: a length of 2 octets, or 2 reserved ones and a length of 4.
unfoldable pub length_at : LengthForm → List ℕ → Result (Option ℕ × List ℕ) ReadFault
length_at Two octets = do
  n ← number_at w16 octets
  Ok (Some n.0, n.1)
length_at Four octets = do
  reserved ← number_at w16 octets
  long_length_at reserved.1

unfoldable pub vr_or_fault : Option Vr → List ℕ → Result (Vr × List ℕ) ReadFault
vr_or_fault (Some vr) rest = Ok (vr, rest)
vr_or_fault None rest = Err BadVr

unfoldable pub vr_at : List ℕ → Result (Vr × List ℕ) ReadFault
vr_at [] = Err Truncated
vr_at (a ∷ []) = Err Truncated
vr_at (a ∷ b ∷ rest) = vr_or_fault (vr_with_letters (a ∷ b ∷ [])) rest

-- The VR that is spelled, which only Explicit has, and the length.
unfoldable pub spelling_at : Syntax → Option Vr → List ℕ
    → Result ((Option Vr × Option ℕ) × List ℕ) ReadFault
spelling_at Implicit known octets = do
  n ← long_length_at octets
  Ok ((None, n.0), n.1)
spelling_at Explicit known octets = do
  vr ← vr_at octets
  ok ← check (agrees known vr.0) BadVr
  n ← length_at (length_form_of vr.0) vr.1
  Ok ((Some vr.0, n.0), n.1)

-- A value holds items where another sequence may be nested.
abbrev pub may_nest : ℕ → Content → Bool
may_nest levels (Plain n) = true
may_nest levels (Sequence syntax n) = nat_lt 0 levels

abbrev pub length_of : Content → Option ℕ
length_of (Plain n) = Some n
length_of (Sequence syntax n) = n

-- The header of an element after the tag last, where so many more levels of sequences are allowed,
-- before it is known whether its value fits.
unfoldable pub front_at : Syntax → ℕ → Option Tag → List ℕ → Result (Header × List ℕ) ReadFault
front_at syntax levels last octets = do
  tag ← tag_at octets
  placed ← check (not (tag.0.group == 0xFFFE)) BadItem
  rises ← check (follows last tag.0) TagOrder
  spelling ← spelling_at syntax (known_vr tag.0) tag.1
  content ← content_of (known_vr tag.0) spelling.0.0 spelling.0.1
  shallow ← check (may_nest levels content) TooDeep
  Ok (record { tag = tag.0; vr = vr_of (known_vr tag.0) content; content = content }, spelling.1)

-- The header of an element whose value fits.
unfoldable pub header_at : Syntax → ℕ → Option Tag → List ℕ → Result (Header × List ℕ) ReadFault
header_at syntax levels last octets = do
  header ← front_at syntax levels last octets
  whole ← check (fits_enclosing (length_of header.0.content) header.1) Truncated
  Ok header

-- The header of an item, and its length, before it is known whether the item fits.
unfoldable pub item_front_at : List ℕ → Result (Option ℕ × List ℕ) ReadFault
item_front_at octets = do
  tag ← tag_at octets
  is_item ← check ((tag.0.group == 0xFFFE) && (tag.0.element == 0xE000)) BadItem
  long_length_at tag.1

-- The header of an item that fits, and its length.
unfoldable pub item_header_at : List ℕ → Result (Option ℕ × List ℕ) ReadFault
item_header_at octets = do
  n ← item_front_at octets
  whole ← check (fits_enclosing n.0 n.1) Truncated
  Ok n

-- The rest after the end at the front of the octets: the octets' own end, or, if the length is undefined, (FFFE,E00D)
-- or (FFFE,E0DD) with length 0.
unfoldable pub end_at : Bound → ℕ → List ℕ → Result (Option (List ℕ)) ReadFault
end_at Filled end octets = Ok (if length octets == 0 then Some octets else None)
end_at Delimited end octets = do
  tag ← tag_at octets
  (if (tag.0.group == 0xFFFE) && (tag.0.element == end)
      then (number_at w32 tag.1 >>= λ n. check (n.0 == 0) BadItem >>= λ ok. Ok (Some n.1))
      else Ok None)

abbrev pub unless_ended : {X : Type 0} → Option (List ℕ) → Result (Option X × List ℕ) ReadFault
    → Result (Option X × List ℕ) ReadFault
unless_ended (Some rest) more = Ok (None, rest)
unless_ended None more = more

-- How to read on: elements after the tag last, and items, up to where the bound says, with what is
-- left after it.
pub record Readers : Type 0 where
  pub elements : Bound → Syntax → ℕ → Option Tag → List ℕ → Result (List Element × List ℕ) ReadFault
  pub items : Bound → Syntax → ℕ → List ℕ → Result (List ElementList × List ℕ) ReadFault

-- A value: octets, which get a pad where they are odd, or items.
unfoldable pub value_by : Readers → ℕ → Vr → Content → List ℕ → Result (Value × List ℕ) ReadFault
value_by next levels vr (Plain n) octets = Ok (Octets (padded_value vr (take n octets)), drop n octets)
value_by next levels vr (Sequence syntax (Some n)) octets = do
  items ← next.items Filled syntax (levels - 1) (take n octets)
  Ok (Items items.0, drop n octets)
value_by next levels vr (Sequence syntax None) octets = do
  items ← next.items Delimited syntax (levels - 1) octets
  Ok (Items items.0, items.1)

-- The next element, or the end.
unfoldable pub element_by : Readers → Bound → Syntax → ℕ → Option Tag → List ℕ
    → Result (Option (Header × Value) × List ℕ) ReadFault
element_by next bound syntax levels last octets = do
  end ← end_at bound 0xE00D octets
  unless_ended end (header_at syntax levels last octets
      >>= λ header. value_by next levels header.0.vr header.0.content header.1 >>= λ value.
      Ok (Some (header.0, value.0), value.1))

-- A group length, element number 0000, is dropped (PS3.5 section 7.2).
abbrev pub unless_group_length : Header → Value → List Element → List Element
unless_group_length header value others =
    if header.tag.element == 0 then others
    else record { tag = header.tag; vr = header.vr; value = value } ∷ others

unfoldable pub elements_after : Readers → Bound → Syntax → ℕ → Option (Header × Value) → List ℕ
    → Result (List Element × List ℕ) ReadFault
elements_after next bound syntax levels None rest = Ok ([], rest)
elements_after next bound syntax levels (Some first) rest = do
  others ← next.elements bound syntax levels (Some first.0.tag) rest
  Ok (unless_group_length first.0 first.1 others.0, others.1)

unfoldable pub elements_by : Readers → Bound → Syntax → ℕ → Option Tag → List ℕ
    → Result (List Element × List ℕ) ReadFault
elements_by next bound syntax levels last octets = do
  first ← element_by next bound syntax levels last octets
  elements_after next bound syntax levels first.0 first.1

-- The content of an item.
unfoldable pub content_by : Readers → Syntax → ℕ → Option ℕ → List ℕ
    → Result (List Element × List ℕ) ReadFault
content_by next syntax levels (Some n) octets = do
  elements ← next.elements Filled syntax levels None (take n octets)
  Ok (elements.0, drop n octets)
content_by next syntax levels None octets = next.elements Delimited syntax levels None octets

-- The next item, or the end.
unfoldable pub item_by : Readers → Bound → Syntax → ℕ → List ℕ
    → Result (Option ElementList × List ℕ) ReadFault
item_by next bound syntax levels octets = do
  end ← end_at bound 0xE0DD octets
  unless_ended end (item_header_at octets
      >>= λ header. content_by next syntax levels header.0 header.1 >>= λ item.
      Ok (Some (as_elements item.0), item.1))

unfoldable pub items_after : Readers → Bound → Syntax → ℕ → Option ElementList → List ℕ
    → Result (List ElementList × List ℕ) ReadFault
items_after next bound syntax levels None rest = Ok ([], rest)
items_after next bound syntax levels (Some first) rest = do
  others ← next.items bound syntax levels rest
  Ok (first ∷ others.0, others.1)

unfoldable pub items_by : Readers → Bound → Syntax → ℕ → List ℕ
    → Result (List ElementList × List ℕ) ReadFault
items_by next bound syntax levels octets = do
  first ← item_by next bound syntax levels octets
  items_after next bound syntax levels first.0 first.1

-- Reading with so many steps, one for each header on the way: more than there are octets are never
-- used up.
unfoldable pub readers : ℕ → Readers
readers zero = record {
  elements = λ bound syntax levels last octets. Err Truncated;
  items = λ bound syntax levels octets. Err Truncated;
}
readers (suc n) = record { elements = elements_by (readers n); items = items_by (readers n) }

-- The data set that the octets spell, all of them, or the first fault. A sequence of the outer data
-- set has depth 1, and depth 16 is the greatest.
unfoldable pub data_set_read : Syntax → List ℕ → Result ElementList ReadFault
data_set_read syntax octets = do
  elements ← (readers (length octets + 1)).elements Filled syntax 16 None octets
  Ok (as_elements elements.0)
