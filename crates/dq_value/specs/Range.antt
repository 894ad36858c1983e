-- A range of dates or times: A-B, A- or -B (PS3.4 section C.2.2.2.5).
use Rattle.std.specs.Prelude.{◌≡◌, ℕ, Bool, false, ◌++◌, List, [], ◌∷◌, Option, Some, None, nat_eq, length, ◌||◌, ◌&&◌, if◌then◌else◌}
use Rattle.std.specs.List.{list_any}

-- a hyphen is 2DH
abbrev pub is_hyphen : ℕ → Bool
is_hyphen octet = nat_eq octet 0x2d

-- an octet stands before the first separator too
unfoldable pub behind : ℕ → Option (List ℕ × List ℕ) → Option (List ℕ × List ℕ)
behind octet None = None
behind octet (Some halves) = Some (octet ∷ halves.0, halves.1)

-- the octets before and behind the first separator
unfoldable pub halves : ℕ → List ℕ → Option (List ℕ × List ℕ)
halves separator [] = None
halves separator (octet ∷ others) =
    if nat_eq octet separator then Some ([], others) else behind octet (halves separator others)

abbrev pub has_no_octets : List ℕ → Bool
has_no_octets octets = nat_eq (length octets) 0

-- an end of a range, where it is not left open
unfoldable pub end_of : List ℕ → Option (List ℕ)
end_of [] = None
end_of (octet ∷ others) = Some (octet ∷ others)

abbrev pub Ends : Type 0
Ends = Option (List ℕ) × Option (List ℕ)

-- there are no ends where there is a second hyphen, nor where both are left open
unfoldable pub ends_of_halves : Option (List ℕ × List ℕ) → Option Ends
ends_of_halves None = None
ends_of_halves (Some h) =
    if list_any is_hyphen h.1 || (has_no_octets h.0 && has_no_octets h.1) then None
    else Some (end_of h.0, end_of h.1)

-- the ends round the only hyphen
unfoldable pub range_ends : List ℕ → Option Ends
range_ends octets = ends_of_halves (halves 0x2d octets)

-- a text is a range from one text to another: a hyphen between them, none in them, and not both
-- empty
pub record IsRange (octets from to : List ℕ) : Type 0 where
  pub whole : octets ≡ from ++ 0x2d ∷ to
  pub before : list_any is_hyphen from ≡ false
  pub after : list_any is_hyphen to ≡ false
  pub closed : (has_no_octets from && has_no_octets to) ≡ false
