-- A word of a pattern: octets that stand for themselves, with no wild card among them. It is looked
-- for in a text by going along it, and going on by as much as the word differs from itself.
use Rattle.std.specs.Prelude.{◌≡◌, ◌≢◌, ℕ, ◌+◌, ◌<◌, ◌≤◌, List, length, slice_index}
use Rattle.dq_match.specs.Wildcards.{compared_octet, any_run, any_one}
use Rattle.dq_match.specs.declared.wildcards.Casing.{Casing}
use Rattle.dq_match.specs.declared.words.Stretch.{Stretch}

-- an octet of a list as it is compared
abbrev pub compared_at : Casing → List ℕ → ℕ → ℕ
compared_at casing octets place = compared_octet casing (slice_index octets place)

-- A pattern has the word after some octets, and no asterisk up to the word's end.
pub record IsWord (pattern : List ℕ) (before : ℕ) (word : List ℕ) : Type 0 where
  pub within : before + length word ≤ length pattern
  pub no_run : (k : ℕ) → k < before + length word → slice_index pattern k ≢ any_run
  pub no_one : (k : ℕ) → k < length word → slice_index pattern (before + k) ≢ any_one
  pub there : (k : ℕ) → k < length word → slice_index word k ≡ slice_index pattern (before + k)

-- the first octets of a word stand at the front of a text
abbrev pub StandsAtFront : Casing → List ℕ → List ℕ → ℕ → Type 0
StandsAtFront casing word text count =
    (k : ℕ) → k < count → compared_at casing word k ≡ compared_at casing text k

-- Going on by so many places, octets agree with themselves up to one that is lower.
pub record IsLower (octet_at : ℕ → ℕ) (shift count : ℕ) : Type 0 where
  pub place : ℕ
  pub within : place + shift < count
  pub before : (k : ℕ) → k < place → octet_at (k + shift) ≡ octet_at k
  pub lower : octet_at (place + shift) < octet_at place

-- So many of a word's octets repeat after a period, and after no shift below the period.
pub record IsStretch (octet_at : ℕ → ℕ) (matched period : ℕ) : Type 0 where
  pub positive : 0 < period
  pub first : matched ≡ 0 → period ≡ 1
  pub long : 0 < matched → period ≤ matched
  pub repeats : (k : ℕ) → k + period < matched → octet_at (k + period) ≡ octet_at k
  pub no_sooner : (shift : ℕ) → 0 < shift → shift < period → IsLower octet_at shift period

abbrev pub IsStretchOf : Casing → List ℕ → Stretch → Type 0
IsStretchOf casing word stretch =
    IsStretch (compared_at casing word) stretch.matched stretch.period
