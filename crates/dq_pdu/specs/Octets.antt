-- Octets that follow one another: numbers, parts that fill a body, and unique identifiers (PS3.8
-- section 9.3.1).
use Rattle.dq_list.specs.Readers.{◌>>=◌}
use Rattle.std.specs.Prelude.{◌≡◌, ℕ, zero, suc, Bool, true, false, ◌&&◌, ◌||◌, not, ◌==◌, if◌then◌else◌, List, [], ◌∷◌, ◌++◌, length, Option, Some, None}
use Rattle.std.specs.Int.{Width, byte_len, from_be_bytes}
use Rattle.dq_list.specs.Lengths.{is_empty}
use Rattle.dq_pdu.specs.declared.pdu_reader.Item.{Item}

-- the octets are the number, the most significant first
pub record Says (width : Width) (octets : List ℕ) (number : ℕ) : Type 0 where
  pub wide : length octets ≡ byte_len width
  pub value : from_be_bytes width octets ≡ number

-- the parts follow one another and leave nothing over; each is spelled by its own octets
abbrev pub Fills : {A : Type 0} → (A → List ℕ → Type 0) → List A → List ℕ → Type 0
Fills Part [] octets = octets ≡ []
Fills Part (x ∷ xs) octets =
    (front : List ℕ) × (rest : List ℕ)
    × (octets ≡ front ++ rest) × Part x front × Fills Part xs rest

-- a relation holds of each two that stand at one place, and there are as many of both
abbrev pub Pairwise : {A B : Type 0} → (A → B → Type 0) → List A → List B → Type 0
Pairwise R [] [] = Unit {0}
Pairwise R (x ∷ xs) (y ∷ ys) = R x y × Pairwise R xs ys
Pairwise R [] (y ∷ ys) = ⊥
Pairwise R (x ∷ xs) [] = ⊥

-- The same, computed: a part at the front and what is left after it, again and again. No more parts
-- than octets.
unfoldable pub successive_parts : {A : Type 0} → (List ℕ → Option (A × List ℕ)) → ℕ → List ℕ
    → Option (List A)
successive_parts part fuel [] = Some []
successive_parts part zero (o ∷ os) = None
successive_parts part (suc fuel) (o ∷ os) = do
  first ← part (o ∷ os)
  others ← successive_parts part fuel first.1
  Some (first.0 ∷ others)

abbrev pub parts_of : {A : Type 0} → (List ℕ → Option (A × List ℕ)) → List ℕ → Option (List A)
parts_of part octets = successive_parts part (length octets) octets

-- what each gives, if each gives something
abbrev pub each_given : {A B : Type 0} → (A → Option B) → List A → Option (List B)
each_given f [] = Some []
each_given f (x ∷ xs) = do
  first ← f x
  others ← each_given f xs
  Some (first ∷ others)

-- the bodies of the items of one type, in order
abbrev pub bodies : ℕ → List Item → List (List ℕ)
bodies kind [] = []
bodies kind (item ∷ items) =
    if item.kind == kind then item.octets ∷ bodies kind items else bodies kind items

-- none, or the only one; more than one is refused
abbrev pub at_most_one : {A : Type 0} → List A → Option (Option A)
at_most_one [] = Some None
at_most_one (x ∷ []) = Some (Some x)
at_most_one (x ∷ y ∷ ys) = None

-- the only one; none or more is refused
abbrev pub exactly_one : {A : Type 0} → List A → Option A
exactly_one [] = None
exactly_one (x ∷ []) = Some x
exactly_one (x ∷ y ∷ ys) = None

-- A unique identifier may be padded at its end with zero octets or spaces (PS3.5 section 9.1).
abbrev pub is_uid_padding : ℕ → Bool
is_uid_padding octet = (octet == 0x00) || (octet == 0x20)

-- octets without the padding at their end
abbrev pub without_uid_padding : List ℕ → List ℕ
without_uid_padding [] = []
without_uid_padding (octet ∷ octets) =
    if is_uid_padding octet && is_empty (without_uid_padding octets) then [] else octet ∷ without_uid_padding octets

abbrev pub is_number_among : ℕ → List ℕ → Bool
is_number_among x [] = false
is_number_among x (y ∷ ys) = (x == y) || is_number_among x ys

-- no number comes again
abbrev pub are_distinct : List ℕ → Bool
are_distinct [] = true
are_distinct (x ∷ xs) = not (is_number_among x xs) && are_distinct xs
