-- The octets by which text may be kept: UTF-8, and those of the sets with one octet a character (PS3.3 section
-- C.12.1.1.2).
use Rattle.std.specs.Prelude.{◌≢◌, ℕ, ◌+◌, ◌<◌, List, [], ◌∷◌, ◌++◌, Option, Some, None, option_map, position, nat_lt, ◌==◌, if◌then◌else◌}
use Rattle.std.specs.List.{AllByRecursion, list_any, fold}
use Rattle.std.specs.Str.{bytes_eq, chars}
use Rattle.dq_json.specs.declared.code_tables.CodeTable.{CodeTable}
use Rattle.dq_json.specs.declared.code_tables.TheConstants.{CODE_TABLES}
use Rattle.dq_json.specs.Text.{high_half, character_in}

-- The octet of a character. U+FFFD, which is shown where a set has no character, has none.
unfoldable pub octet_in : CodeTable → ℕ → Option ℕ
octet_in table character =
    if nat_lt character 128 then Some character
    else if character == 0xFFFD then None
    else option_map (λ place. place + 160) (position (λ other. other == character) (high_half table))

-- the octets of characters, if each has one
abbrev pub onto : Option ℕ → Option (List ℕ) → Option (List ℕ)
onto None octets = None
onto (Some octet) None = None
onto (Some octet) (Some octets) = Some (octet ∷ octets)

abbrev pub octets_in : CodeTable → List ℕ → Option (List ℕ)
octets_in table [] = Some []
octets_in table (character ∷ characters) = onto (octet_in table character) (octets_in table characters)

-- the octets of characters in a set more, if there are such and they are new
abbrev pub with_new : List (List ℕ) → Option (List ℕ) → List (List ℕ)
with_new found None = found
with_new found (Some octets) = if list_any (λ it. bytes_eq it octets) found then found else found ++ octets ∷ []

abbrev pub with_spelling : List ℕ → List (List ℕ) → CodeTable → List (List ℕ)
with_spelling characters found table = with_new found (octets_in table characters)

-- Each way to keep a text, once: in UTF-8, and in each set that has all of its characters.
unfoldable pub spellings : List ℕ → List (List ℕ)
spellings text = fold (with_spelling (chars text)) (text ∷ []) CODE_TABLES

-- octets of which each has a character in a set
abbrev pub HaveCharacters : CodeTable → List ℕ → Type 0
HaveCharacters table octets =
    AllByRecursion (λ octet. (octet < 0x100) × (character_in table octet ≢ 0xFFFD)) octets
