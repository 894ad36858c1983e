-- The octets of an attribute's value, from the members of its DICOM JSON object (PS3.18 sections F.2.2 to F.2.7).
use Rattle.std.specs.Prelude.{ℕ, ◌+◌, ◌%◌, Bool, true, false, not, ◌==◌, ◌&&◌, ◌||◌, nat_lt, if◌then◌else◌, List, [], ◌∷◌, ◌++◌, length, drop, codes, Option, Some, None, is_some, option_map}
use Rattle.std.specs.Int.{w16, to_le_bytes}
use Rattle.std.specs.Char.{is_ascii_digit}
use Rattle.std.specs.List.{list_all, list_any}
use Rattle.std.specs.Option.{option_or}
use Rattle.std.specs.Result.{result_ok}
use Rattle.std.specs.Str.Parse.{digits_value}
use Rattle.base64.specs.Engines.{standard}
use Rattle.base64.specs.GeneralPurpose.{decode_of}
use Rattle.json.specs.Json.{Json, Items, no_items, item, Members, no_members, member}
use Rattle.json.specs.Find.{get, is_null, as_str, as_number, as_array, as_object}
use Rattle.dq_list.specs.Readers.{◌>>=◌, only_if}
use Rattle.dq_vr.specs.declared.Vr.{Vr}
use Rattle.dq_vr.specs.declared.Vr.TheVariants.{DS, IS, OB, OD, OF, OL, OV, OW, UN}
use Rattle.dq_value.specs.Parts.{has_separator}
use Rattle.dq_json.specs.Attributes.{is_name, is_number, is_spelled_as_text}

-- ---- members

abbrev pub member_count : Members → ℕ
member_count no_members = 0
member_count (member name j others) = 1 + member_count others

abbrev pub has_count : ℕ → Option Members → Bool
has_count count None = false
has_count count (Some members) = member_count members == count

-- 1 where the object has a member of the name
abbrev pub count_named : List ℕ → Json → ℕ
count_named name j = if is_some (get name j) then 1 else 0

-- ---- values of text

-- a value may be a number (PS3.18 table F.2.3-1)
unfoldable pub is_decimal : Vr → Bool
is_decimal DS = true
is_decimal IS = true
is_decimal vr = false

abbrev pub written_text : Vr → Json → Option (List ℕ)
written_text vr j = if is_decimal vr then option_or (as_number j) (as_str j) else as_str j

abbrev pub has_octet : ℕ → List ℕ → Bool
has_octet octet text = list_any (λ o. o == octet) text

-- A string is one value: it has no backslash, unless the VR has one value alone (PS3.5 section 6.4).
abbrev pub plain_text : Vr → Json → Option (List ℕ)
plain_text vr j = written_text vr j >>= λ text. only_if (not (has_separator vr && has_octet 0x5c text)) text

-- ---- names

-- a component group holds neither a backslash nor an equals sign (PS3.5 section 6.2.1)
abbrev pub group_text : Option Json → Option (List ℕ)
group_text None = Some []
group_text (Some j) = as_str j >>= λ text. only_if (not (has_octet 0x5c text || has_octet 0x3d text)) text

abbrev pub group_in : List ℕ → Json → Option (List ℕ)
group_in name j = group_text (get name j)

-- the component groups of a name, in an object that has them and no other member (PS3.18 section F.2.2)
abbrev pub groups_in : Json → Option (List ℕ × List ℕ × List ℕ)
groups_in j =
    if has_count (count_named (codes "Alphabetic") j + count_named (codes "Ideographic") j
    + count_named (codes "Phonetic") j) (as_object j)
    then (group_in (codes "Alphabetic") j >>= λ alphabetic. group_in (codes "Ideographic") j >>= λ ideographic.
    group_in (codes "Phonetic") j >>= λ phonetic. Some (alphabetic, ideographic, phonetic))
    else None

-- = stands before each group behind which none is left out (PS3.5 section 6.2.1)
abbrev pub name_text : List ℕ × List ℕ × List ℕ → List ℕ
name_text groups = groups.0
    ++ (if (length groups.1 == 0) && (length groups.2 == 0) then [] else 0x3d ∷ groups.1)
    ++ (if length groups.2 == 0 then [] else 0x3d ∷ groups.2)

-- ---- values

-- One value of text: null is an empty one.
unfoldable pub value_text : Vr → Json → Option (List ℕ)
value_text vr j =
    if is_null j then Some []
    else (if is_name vr then option_map name_text (groups_in j) else plain_text vr j)

-- a backslash before each value
unfoldable pub separated : Vr → Items → Option (List ℕ)
separated vr no_items = Some []
separated vr (item j others) = value_text vr j >>= λ text. separated vr others >>= λ rest. Some (0x5c ∷ (text ++ rest))

abbrev pub has_several : Items → Bool
has_several no_items = false
has_several (item j no_items) = false
has_several (item j (item k others)) = true

-- Backslashes stand between values (PS3.5 section 6.4).
abbrev pub texts : Vr → Items → Option (List ℕ)
texts vr values =
    if has_several values && not (has_separator vr) then None else option_map (λ octets. drop 1 octets) (separated vr values)

-- a number from 0 to 65535, in decimal digits
unfoldable pub short_in : List ℕ → Option ℕ
short_in text =
    only_if (list_all is_ascii_digit text && (nat_lt 0 (length text) && nat_lt (digits_value 10 text) 0x10000)) (digits_value 10 text)

abbrev pub short_of : Json → Option ℕ
short_of j = option_or (as_number j) (as_str j) >>= λ text. short_in text

-- unsigned shorts, little-endian
unfoldable pub shorts : Items → Option (List ℕ)
shorts no_items = Some []
shorts (item j others) = short_of j >>= λ number. shorts others >>= λ rest. Some (to_le_bytes w16 number ++ rest)

-- The values of an array, by VR: US has numbers, and text is strings. No other VR of numbers is in the dictionary, and
-- none is read.
unfoldable pub array_octets : Vr → Items → Option (List ℕ)
array_octets vr values =
    if is_number vr then shorts values
    else (if is_spelled_as_text vr then texts vr values else None)

-- what InlineBinary may hold (PS3.18 section F.2.7)
unfoldable pub is_binary : Vr → Bool
is_binary OB = true
is_binary OD = true
is_binary OF = true
is_binary OL = true
is_binary OV = true
is_binary OW = true
is_binary UN = true
is_binary vr = false

unfoldable pub binary_octets : Vr → Json → Option (List ℕ)
binary_octets vr j =
    if is_binary vr then (as_str j >>= λ text. result_ok (decode_of standard text)) else None

-- The octets that an attribute object gives: its Value's, its InlineBinary's, or none.
abbrev pub octets_by : Vr → Option Json → Option Json → Option (List ℕ)
octets_by vr (Some values) binary = as_array values >>= λ items. array_octets vr items
octets_by vr None (Some binary) = binary_octets vr binary
octets_by vr None None = Some []

abbrev pub octets_in : Vr → Json → Option (List ℕ)
octets_in vr j = octets_by vr (get (codes "Value") j) (get (codes "InlineBinary") j)
