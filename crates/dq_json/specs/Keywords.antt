-- Attributes by their names (PS3.6, chapter 6).
use Rattle.std.specs.Prelude.{ℕ, List, [], ◌∷◌, take, drop, map, Option, Some, None, Result, Ok, Err, nat_eq, if◌then◌else◌}
use Rattle.std.specs.Cmp.Lexicographic.{pointwise}
use Rattle.std.specs.Int.{w16, from_be_bytes}
use Rattle.hex.specs.declared.error.FromHexError.{FromHexError}
use Rattle.hex.specs.Hex.{decode_sized}
use Rattle.dq_vr.specs.declared.Tag.{Tag}
use Rattle.dq_json.specs.declared.keywords.TheConstants.{KEYWORDS}

-- the code's table: a keyword and its tag
abbrev pub keywords : List (List ℕ × Tag)
keywords = map (λ entry. (entry.0.now, entry.1)) KEYWORDS

-- the tag of the first entry with the word
unfoldable pub tag_among : List (List ℕ × Tag) → List ℕ → Option Tag
tag_among [] word = None
tag_among (entry ∷ others) word =
    if pointwise nat_eq entry.0 word then Some entry.1 else tag_among others word

unfoldable pub tag_of_keyword : List ℕ → Option Tag
tag_of_keyword word = tag_among keywords word

-- the tag of four octets, big-endian, or of the keyword where there are none
unfoldable pub named_by : Result (List ℕ) FromHexError → List ℕ → Option Tag
named_by (Ok octets) word =
    Some (record {
      group = from_be_bytes w16 (take 2 octets);
      element = from_be_bytes w16 (drop 2 octets);
    })
named_by (Err e) word = tag_of_keyword word

-- the tag that eight hexadecimal digits or a keyword name
abbrev pub tag_named : List ℕ → Option Tag
tag_named text = named_by (decode_sized text 4) text
