-- The values that the octets of an element hold (PS3.5 section 6.4).
use Rattle.std.specs.Prelude.{◌≡◌, ℕ, ◌<◌, length, Bool, true, false, List, [], ◌∷◌, Option, Some, None, map, nat_eq, ◌==◌, if◌then◌else◌}
use Rattle.std.specs.List.{list_any, join_with_byte}
use Rattle.dq_vr.specs.declared.Vr.{Vr}
use Rattle.dq_vr.specs.declared.Vr.TheVariants.{LT, ST, UT, UR, UI}
use Rattle.dq_vr.specs.Vr.{is_text}
use Rattle.dq_value.specs.Trimming.{trimmed_value}

-- a backslash, 5CH, stands between values (PS3.5 section 6.4): in UI, and in character strings but
-- for LT, ST, UT and UR, whose one value may hold it
unfoldable pub has_separator : Vr → Bool
has_separator UI = true
has_separator LT = false
has_separator ST = false
has_separator UT = false
has_separator UR = false
has_separator vr = is_text vr

-- an octet joins the first of the pieces behind it
unfoldable pub onto_first : ℕ → List (List ℕ) → List (List ℕ)
onto_first octet [] = (octet ∷ []) ∷ []
onto_first octet (piece ∷ pieces) = (octet ∷ piece) ∷ pieces

-- the pieces before, between and behind the separators
unfoldable pub pieces : ℕ → List ℕ → List (List ℕ)
pieces separator [] = [] ∷ []
pieces separator (octet ∷ others) =
    if nat_eq octet separator then [] ∷ pieces separator others
    else onto_first octet (pieces separator others)

-- the values as they stand, padding included, where there are any
unfoldable pub value_pieces : Vr → List ℕ → List (List ℕ)
value_pieces vr octets = if has_separator vr then pieces 0x5c octets else octets ∷ []

-- the values as they stand in what is left, which is nothing after the last
unfoldable pub pieces_left : Vr → Option (List ℕ) → List (List ℕ)
pieces_left vr None = []
pieces_left vr (Some octets) = value_pieces vr octets

-- the values in what is left, each trimmed
unfoldable pub parts_left : Vr → Option (List ℕ) → List (List ℕ)
parts_left vr rest = map (trimmed_value vr) (pieces_left vr rest)

-- the values of an element: none where nothing but padding is there, else each piece, trimmed
unfoldable pub element_values : Vr → List ℕ → List (List ℕ)
element_values vr octets =
    if length (trimmed_value vr octets) == 0 then [] else map (trimmed_value vr) (value_pieces vr octets)

-- a list of pieces is a parting of the octets: joined by the separator they are the octets, and
-- none holds it
pub record IsParting (separator : ℕ) (octets : List ℕ) (found : List (List ℕ)) : Type 0 where
  pub whole : join_with_byte separator found ≡ octets
  pub some : 0 < length found
  pub free : list_any (list_any (λ octet. nat_eq octet separator)) found ≡ false

-- the only one of a list
abbrev pub sole : {X : Type 0} → List X → Option X
sole [] = None
sole (x ∷ []) = Some x
sole (x ∷ (y ∷ others)) = None
