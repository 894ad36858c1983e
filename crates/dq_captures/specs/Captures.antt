-- Captures: the text of a history, an event a line.
use Rattle.std.specs.Prelude.{◌≡◌, ℕ, ◌-◌, ◌^◌, ◌<◌, ◌≤◌, ◌⊎◌, ◌==◌, Bool, true, not, IsTrue, codes}
use Rattle.std.specs.Prelude.{List, [], ◌∷◌, ◌++◌, length, take, filter, Ok, Option, MatchOption}
use Rattle.std.specs.Fmt.{decimal}
use Rattle.std.specs.List.{slice_split}
use Rattle.hex.specs.Hex.{decode_of}
use Rattle.dq_config.specs.Conditions.{is_institution_name}
use Rattle.dq_core.specs.declared.event.Event.{Event}
use Rattle.dq_core.specs.declared.event.Event.TheVariants.{Open, Piece, End, Pull, Schedule, Withdraw}
use Rattle.dq_core.specs.Histories.{is_well_formed_history}

abbrev pub line_feed : ℕ
line_feed = 10

abbrev pub number_sign : ℕ
number_sign = 35

-- Lines end by a line feed. What is after the last one counts as a line too, even if it is empty.
abbrev pub lines_of : List ℕ → List (List ℕ)
lines_of text = slice_split (λ octet. octet == line_feed) text

-- An empty line, or one that begins with a number sign, tells nothing.
abbrev pub is_skipped : List ℕ → Bool
is_skipped [] = true
is_skipped (octet ∷ octets) = octet == number_sign

abbrev pub telling_lines : List (List ℕ) → List (List ℕ)
telling_lines lines = filter (λ line. not (is_skipped line)) lines

-- the number of a connection: decimal digits, without leading zeros
abbrev pub IsNumber : List ℕ → ℕ → Type 0
IsNumber text number = (number < 2 ^ 64) × (text ≡ decimal number)

-- A value that is found is so; or nothing is found, and nothing is so.
module _ {T : Type 0} where
  abbrev pub Finds : (T → Type 0) → Option T → Type 0
  Finds IsSo found = MatchOption found ((x : T) → IsSo x → ⊥) IsSo

-- octets: a hyphen for none, else two hexadecimal digits of either case for each
abbrev pub SpellOctets : List ℕ → List ℕ → Type 0
SpellOctets text octets = ((text ≡ codes "-") × (octets ≡ []))
    ⊎ ((0 < length text) × (decode_of text ≡ Ok octets))

-- a piece after its word: the number, a space, and the octets
abbrev pub SpellsPiece : List ℕ → Event → Type 0
SpellsPiece text (Open number) = ⊥
SpellsPiece text (Piece number octets) = (digits : List ℕ) × (hex : List ℕ)
    × (text ≡ digits ++ codes " " ++ hex) × IsNumber digits number × SpellOctets hex octets
SpellsPiece text (End number) = ⊥
SpellsPiece text (Pull number) = ⊥
SpellsPiece text (Schedule institution octets) = ⊥
SpellsPiece text (Withdraw institution id) = ⊥

-- an order of the console after its word: the institution's name, a space, and the octets
abbrev pub SpellsOrder : List ℕ → List ℕ → List ℕ → Type 0
SpellsOrder text name octets = (hex : List ℕ)
    × (text ≡ name ++ codes " " ++ hex) × IsTrue (is_institution_name name) × SpellOctets hex octets

-- `open N`, `piece N HEX`, `end N`, `pull N`, `schedule NAME HEX` and `withdraw NAME HEX`, with one
-- space between
abbrev pub SpellsEvent : List ℕ → Event → Type 0
SpellsEvent line (Open number) =
    (digits : List ℕ) × (line ≡ codes "open " ++ digits) × IsNumber digits number
SpellsEvent line (Piece number octets) =
    (rest : List ℕ) × (line ≡ codes "piece " ++ rest) × SpellsPiece rest (Piece number octets)
SpellsEvent line (End number) =
    (digits : List ℕ) × (line ≡ codes "end " ++ digits) × IsNumber digits number
SpellsEvent line (Pull number) =
    (digits : List ℕ) × (line ≡ codes "pull " ++ digits) × IsNumber digits number
SpellsEvent line (Schedule institution octets) =
    (rest : List ℕ) × (line ≡ codes "schedule " ++ rest) × SpellsOrder rest institution octets
SpellsEvent line (Withdraw institution id) =
    (rest : List ℕ) × (line ≡ codes "withdraw " ++ rest) × SpellsOrder rest institution id

-- each line spells its event
abbrev pub SpellEach : List (List ℕ) → List Event → Type 0
SpellEach [] [] = Unit {0}
SpellEach [] (event ∷ events) = ⊥
SpellEach (line ∷ lines) [] = ⊥
SpellEach (line ∷ lines) (event ∷ events) = SpellsEvent line event × SpellEach lines events

-- The lines that are not skipped spell the events, and opened numbers rise.
pub record AreCapture (lines : List (List ℕ)) (events : List Event) : Type 0 where
  pub spelled : SpellEach (telling_lines lines) events
  pub rising : IsTrue (is_well_formed_history events)

-- The lines before the one of this number are a capture, with it they are none. Counted from 1.
pub record IsFirstBadLine (lines : List (List ℕ)) (number : ℕ) : Type 0 where
  pub counted : (0 < number) × (number ≤ length lines)
  pub before : (events : List Event) × AreCapture (take (number - 1) lines) events
  pub bad : (events : List Event) → AreCapture (take number lines) events → ⊥
