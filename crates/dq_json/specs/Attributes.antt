-- The value of an element that holds octets, as a member of a DICOM JSON attribute object
-- (PS3.18 sections F.2.2 to F.2.7).
use Rattle.std.specs.Prelude.{ℕ, ◌+◌, ◌*◌, Bool, true, false, List, [], ◌∷◌, ◌++◌, Option, Some, None, take, drop, position, flat_map, codes, decimal, ◌==◌, if◌then◌else◌}
use Rattle.base64.specs.Engines.{standard}
use Rattle.base64.specs.GeneralPurpose.{encode_of}
use Rattle.json.specs.Token.{Token, begin_object, end_object, begin_array, end_array, key, string, number, null}
use Rattle.dq_vr.specs.declared.Tag.{Tag}
use Rattle.dq_vr.specs.declared.Vr.{Vr}
use Rattle.dq_vr.specs.declared.Vr.TheVariants.{PN, UI, US}
use Rattle.dq_vr.specs.Vr.{is_text, letters_of}
use Rattle.dq_value.specs.Parts.{element_values}
use Rattle.dq_json.specs.declared.text.Repertoire.{Repertoire}
use Rattle.dq_json.specs.Text.{text_in, tag_digits}

-- the octets before the first = and those behind it
unfoldable pub halves_at : List ℕ → Option ℕ → List ℕ × List ℕ
halves_at octets None = (octets, [])
halves_at octets (Some at) = (take at octets, drop 1 (drop at octets))

abbrev pub halves : List ℕ → List ℕ × List ℕ
halves octets = halves_at octets (position (λ octet. octet == 0x3d) octets)

-- a component group of a name, where it is not empty
unfoldable pub group_member : Repertoire → List ℕ → List ℕ → List Token
group_member repertoire name [] = []
group_member repertoire name (octet ∷ others) =
    key name ∷ string (text_in repertoire (octet ∷ others)) ∷ []

-- The component groups of a name, which = parts (PS3.5 section 6.2, PS3.18 section F.2.2). What
-- stands behind the second = is the last group.
abbrev pub name_groups : Repertoire → List ℕ → List Token
name_groups repertoire value =
    let others = (halves value).1 in
    group_member repertoire (codes "Alphabetic") (halves value).0
    ++ (group_member repertoire (codes "Ideographic") (halves others).0
    ++ group_member repertoire (codes "Phonetic") (halves others).1)

unfoldable pub is_name : Vr → Bool
is_name PN = true
is_name vr = false

abbrev pub some_value : Repertoire → Vr → List ℕ → List Token
some_value repertoire vr value =
    if is_name vr then begin_object ∷ (name_groups repertoire value ++ end_object ∷ [])
    else string (text_in repertoire value) ∷ []

-- An empty value is null.
unfoldable pub value_tokens : Repertoire → Vr → List ℕ → List Token
value_tokens repertoire vr [] = null ∷ []
value_tokens repertoire vr (octet ∷ others) = some_value repertoire vr (octet ∷ others)

-- the numbers of two octets, little-endian
unfoldable pub numbers : List ℕ → List ℕ
numbers [] = []
numbers (low ∷ []) = []
numbers (low ∷ (high ∷ others)) = (low + high * 256) ∷ numbers others

abbrev pub number_tokens : ℕ → List Token
number_tokens n = number (decimal n) ∷ []

-- the member Value with the tokens of each value, where there are values
unfoldable pub value_member : {X : Type 0} → (X → List Token) → List X → List Token
value_member tokens [] = []
value_member tokens (value ∷ values) =
    key (codes "Value") ∷ begin_array ∷ (flat_map tokens (value ∷ values) ++ end_array ∷ [])

-- the member InlineBinary with the octets in base64 (PS3.18 section F.2.7)
unfoldable pub binary_member : List ℕ → List Token
binary_member [] = []
binary_member (octet ∷ others) =
    key (codes "InlineBinary") ∷ string (encode_of standard (octet ∷ others)) ∷ []

-- the VR has values of text, parted by backslashes or one alone
unfoldable pub is_spelled_as_text : Vr → Bool
is_spelled_as_text UI = true
is_spelled_as_text vr = is_text vr

unfoldable pub is_number : Vr → Bool
is_number US = true
is_number vr = false

-- Text is strings, and US numbers. No other VR of numbers is in the dictionary; octets of all others
-- are binary.
abbrev pub octets_member : Repertoire → Vr → List ℕ → List Token
octets_member repertoire vr octets =
    if is_number vr then value_member number_tokens (numbers octets)
    else if is_spelled_as_text vr then
    value_member (value_tokens repertoire vr) (element_values vr octets)
    else binary_member octets

-- the attribute object: its VR, then its value (PS3.18 section F.2.2)
abbrev pub attribute : Tag → Vr → List Token → List Token
attribute tag vr value =
    key (tag_digits tag) ∷ begin_object ∷ key (codes "vr") ∷ string (letters_of vr)
    ∷ (value ++ end_object ∷ [])
