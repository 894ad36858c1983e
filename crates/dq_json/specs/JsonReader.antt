-- The data set that a DICOM JSON Model object spells, or the first rule that it breaks (PS3.18 section F.2).
use Rattle.std.specs.Prelude.{◌≡◌, ◌⊎◌, ℕ, zero, suc, ◌+◌, ◌%◌, Bool, true, false, not, ◌==◌, ◌&&◌, ◌||◌, nat_lt, if◌then◌else◌, List, [], ◌∷◌, ◌++◌, length, take, drop, codes, Option, Some, None, is_some, option_and_then, Result, Ok, Err, IsUtf8}
use Rattle.std.specs.Int.{w16, from_be_bytes}
use Rattle.std.specs.List.{list_all}
use Rattle.std.specs.Str.{bytes_eq}
use Rattle.std.specs.Str.Lossy.{utf8_valid_len}
use Rattle.hex.specs.declared.error.FromHexError.{FromHexError}
use Rattle.hex.specs.Hex.{decode_sized}
use Rattle.json.specs.Token.{Token, begin_object, end_object, begin_array, end_array, key, string, number, boolean, null, bad}
use Rattle.json.specs.Lex.{tokens}
use Rattle.json.specs.Json.{Json, Items, no_items, item, Members, no_members, member, document}
use Rattle.json.specs.Find.{get, as_str, as_array, as_object}
use Rattle.dq_list.specs.Readers.{only_if}
use Rattle.dq_vr.specs.declared.Tag.{Tag}
use Rattle.dq_vr.specs.declared.Vr.{Vr}
use Rattle.dq_vr.specs.declared.Vr.TheVariants.{CS, SQ, UN}
use Rattle.dq_vr.specs.Dictionary.{known_vr}
use Rattle.dq_vr.specs.Tags.{specific_character_set}
use Rattle.dq_vr.specs.Vr.{letters_of, vr_with_letters}
use Rattle.dq_dataset.specs.declared.data_set.Element.{Element}
use Rattle.dq_dataset.specs.declared.data_set.Value.{Value}
use Rattle.dq_dataset.specs.declared.data_set.Value.TheVariants.{Octets, Items as Nested}
use Rattle.dq_dataset.specs.Tree.{ElementList, no_elements, element}
use Rattle.dq_dataset.specs.View.{as_elements, has_tag}
use Rattle.dq_dataset.specs.Rules.{follows, is_sequence, padded_value}
use Rattle.dq_dataset.specs.Editing.{merged_data_set}
use Rattle.dq_json.specs.declared.json_fault.Rule.TheVariants as rule
use Rattle.dq_json.specs.declared.json_fault.JsonFault.{JsonFault}
use Rattle.dq_json.specs.declared.json_fault.JsonFault.TheVariants.{Syntax, Form, NoMemory}
use Rattle.dq_json.specs.Faults.{broken}
use Rattle.dq_json.specs.Values.{has_count, count_named, octets_in}

infixl 10 ◌>>=◌
abbrev pub ◌>>=◌ : {A B : Type 0} → Result A JsonFault → (A → Result B JsonFault) → Result B JsonFault
(Ok x) >>= f = f x
(Err e) >>= f = Err e

abbrev pub or_broken : {A : Type 0} → Option A → JsonFault → Result A JsonFault
or_broken (Some x) fault = Ok x
or_broken None fault = Err fault

-- A function returned what the definition says, as `view` shows it; or memory ran out.
abbrev pub Reads : {X Y : Type 0} → (X → Y) → Result X JsonFault → Result Y JsonFault → Type 0
Reads view (Ok x) read = read ≡ Ok (view x)
Reads view (Err e) read = (e ≡ NoMemory) ⊎ (read ≡ Err e)

-- ---- names

-- group lengths, items and their ends are no attributes of a data set (PS3.5 sections 7.2 and 7.5)
abbrev pub is_of_attribute : Tag → Bool
is_of_attribute tag = not (tag.group == 0xFFFE) && not (tag.element == 0)

unfoldable pub tag_in : Result (List ℕ) FromHexError → Option Tag
tag_in (Ok octets) =
    let tag : Tag = record { group = from_be_bytes w16 (take 2 octets); element = from_be_bytes w16 (drop 2 octets) } in
    only_if (is_of_attribute tag) tag
tag_in (Err e) = None

-- the tag of eight hexadecimal digits
abbrev pub tag_of_digits : List ℕ → Option Tag
tag_of_digits name = tag_in (decode_sized name 4)

-- Tags rise (PS3.18 section F.2.2), so no attribute stands twice.
abbrev pub tag_behind : Option Tag → List ℕ → Result Tag JsonFault
tag_behind last name = or_broken (tag_of_digits name) (broken rule.Name last) >>= λ tag.
    (if follows last tag then Ok tag else Err (broken rule.Order (Some tag)))

-- ---- value representations

abbrev pub vr_spelled : List ℕ → Option Vr
vr_spelled [] = None
vr_spelled (first ∷ []) = None
vr_spelled (first ∷ (second ∷ [])) = vr_with_letters (first ∷ second ∷ [])
vr_spelled (first ∷ (second ∷ (third ∷ others))) = None

-- A known attribute has the dictionary's VR.
abbrev pub vr_told : Option Vr → List ℕ → Option Vr
vr_told None text = vr_spelled text
vr_told (Some known) text = only_if (bytes_eq text (letters_of known)) known

abbrev pub vr_of : Option Vr → Json → Option Vr
vr_of known j = option_and_then (vr_told known) (option_and_then as_str (get (codes "vr") j))

-- A data set says of an attribute that is not known only whether it is a sequence (PS3.5 section 6.2.2).
abbrev pub kept_vr : Option Vr → Vr → Vr
kept_vr None vr = if is_sequence (Some vr) then SQ else UN
kept_vr (Some known) vr = known

-- ---- values

-- Beside `vr` an attribute object has a Value, an InlineBinary, or no other member (PS3.18 section F.2.2).
abbrev pub has_its_members : Json → Bool
has_its_members j =
    let values = count_named (codes "Value") j + count_named (codes "InlineBinary") j in
    nat_lt values 2 && has_count (values + 1) (as_object j)

abbrev pub is_character_set : Tag → Bool
is_character_set tag = (tag.group == specific_character_set.group) && (tag.element == specific_character_set.element)

-- The text of JSON is UTF-8 (PS3.18 section F.2), and no other character set may be named.
abbrev pub agrees_with_utf8 : Tag → List ℕ → Bool
agrees_with_utf8 tag octets = not (is_character_set tag) || bytes_eq octets (codes "ISO_IR 192")

abbrev pub octets_for : Tag → Vr → Json → Result (List ℕ) JsonFault
octets_for tag vr j = or_broken (octets_in vr j) (broken rule.Value (Some tag)) >>= λ octets.
    (if agrees_with_utf8 tag octets then Ok (padded_value vr octets) else Err (broken rule.CharacterSet (Some tag)))

-- How the data sets of a sequence are read, if it may be nested so deep.
abbrev pub ItemReader : Type 0
ItemReader = Option (Tag → Json → Result ElementList JsonFault)

abbrev pub data_sets_by : (Json → Result ElementList JsonFault) → Items → Result (List ElementList) JsonFault
data_sets_by read no_items = Ok []
data_sets_by read (item j others) = read j >>= λ d. data_sets_by read others >>= λ ds. Ok (d ∷ ds)

abbrev pub items_by : (Json → Result ElementList JsonFault) → Tag → Option Json → Option Json → Result (List ElementList) JsonFault
items_by read tag (Some values) binary =
    or_broken (as_array values) (broken rule.Value (Some tag)) >>= λ items. data_sets_by read items
items_by read tag None (Some binary) = Err (broken rule.Value (Some tag))
items_by read tag None None = Ok []

abbrev pub sequence_by : ItemReader → Tag → Json → Result (List ElementList) JsonFault
sequence_by None tag j = Err (broken rule.Depth (Some tag))
sequence_by (Some read) tag j = items_by (read tag) tag (get (codes "Value") j) (get (codes "InlineBinary") j)

abbrev pub content_by : ItemReader → Tag → Vr → Json → Result Value JsonFault
content_by deeper tag vr j =
    if is_sequence (Some vr) then (sequence_by deeper tag j >>= λ ds. Ok (Nested ds))
    else (octets_for tag vr j >>= λ octets. Ok (Octets octets))

unfoldable pub value_by : ItemReader → Tag → Vr → Json → Result Value JsonFault
value_by deeper tag vr j =
    if has_its_members j then content_by deeper tag vr j else Err (broken rule.Value (Some tag))

-- ---- elements and data sets

unfoldable pub element_by : ItemReader → Option Tag → List ℕ → Json → Result Element JsonFault
element_by deeper last name j = do
  tag ← tag_behind last name
  vr ← or_broken (vr_of (known_vr tag) j) (broken rule.Vr (Some tag))
  value ← value_by deeper tag vr j
  Ok (record { tag = tag; vr = kept_vr (known_vr tag) vr; value = value })

unfoldable pub elements_by : ItemReader → Option Tag → Members → Result (List Element) JsonFault
elements_by deeper last no_members = Ok []
elements_by deeper last (member name j others) = do
  first ← element_by deeper last name j
  rest ← elements_by deeper (Some first.tag) others
  Ok (first ∷ rest)

unfoldable pub data_set_by : ItemReader → Option Tag → Json → Result ElementList JsonFault
data_set_by deeper place j = do
  members ← or_broken (as_object j) (broken rule.Object place)
  elements ← elements_by deeper None members
  Ok (as_elements elements)

-- A data set with so many levels of sequences in it. The place is that of the sequence that it is an item of.
unfoldable pub data_set_in : ℕ → Option Tag → Json → Result ElementList JsonFault
data_set_in zero = data_set_by None
data_set_in (suc levels) = data_set_by (Some (λ tag. data_set_in levels (Some tag)))

abbrev pub reader_in : ℕ → ItemReader
reader_in zero = None
reader_in (suc levels) = Some (λ tag. data_set_in levels (Some tag))

-- ---- texts

abbrev pub is_ascii : List ℕ → Bool
is_ascii text = list_all (λ octet. nat_lt octet 128) text

abbrev pub is_ascii_token : Token → Bool
is_ascii_token (string text) = is_ascii text
is_ascii_token begin_object = true
is_ascii_token end_object = true
is_ascii_token begin_array = true
is_ascii_token end_array = true
is_ascii_token (key text) = true
is_ascii_token (number text) = true
is_ascii_token (boolean b) = true
is_ascii_token null = true
is_ascii_token bad = true

-- the data set that says that its text is UTF-8 (PS3.3 section C.12.1.1.2)
abbrev pub utf8_mark : ElementList
utf8_mark = element specific_character_set CS (codes "ISO_IR 192") no_elements

-- unless all strings are of the default repertoire
abbrev pub marked : List ℕ → ElementList → ElementList
marked text d = if list_all is_ascii_token (tokens text) then d else merged_data_set d utf8_mark

abbrev pub spelled : List ℕ → Json → Result ElementList JsonFault
spelled text j = data_set_in 16 None j >>= λ d. Ok (marked text d)

-- A text is JSON in UTF-8, and its value is the DICOM JSON Model object of the data set.
abbrev pub Spells : List ℕ → ElementList → Type 0
Spells text d = IsUtf8 text × ((j : Json) × (document text ≡ Some j) × (spelled text j ≡ Ok d))

-- the first octet that is not UTF-8
abbrev pub IsNoText : List ℕ → ℕ → Type 0
IsNoText text octet = (IsUtf8 text → ⊥) × (octet ≡ utf8_valid_len text)

-- it is no text, or not JSON
abbrev pub IsSyntaxFault : List ℕ → JsonFault → Type 0
IsSyntaxFault text fault = (octet : ℕ) × (fault ≡ Syntax octet) × (IsNoText text octet ⊎ (document text ≡ None))

-- it is JSON of another form, which breaks this rule first
abbrev pub IsFormFault : List ℕ → JsonFault → Type 0
IsFormFault text fault = (j : Json) × (document text ≡ Some j) × (spelled text j ≡ Err fault)

-- why a text is not read
abbrev pub HasFault : List ℕ → JsonFault → Type 0
HasFault text fault = (fault ≡ NoMemory) ⊎ (IsSyntaxFault text fault ⊎ IsFormFault text fault)
