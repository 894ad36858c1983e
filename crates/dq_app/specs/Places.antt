-- Where in a text the institution begins for which it is refused.
use Rattle.std.specs.Prelude.{◌≡◌, ◌≢◌, ℕ, ◌+◌, ◌<◌, ◌≤◌, ◌⊎◌, ◌==◌, nat_eq, Bool, false, List, length, take, drop, count_by, codes, Err, IsTrue}
use Rattle.std.specs.List.{starts_with}
use Rattle.std.specs.Str.{IsUtf8}
use Rattle.dq_config.specs.declared.fault.ConfigFault.{ConfigFault}
use Rattle.dq_config.specs.Conditions.{configuration}

-- the words with which an institution begins
abbrev pub institution_heading : List ℕ
institution_heading = codes "[[institution]]"

-- an institution begins after so many octets
abbrev pub begins_at : List ℕ → ℕ → Bool
begins_at text at = starts_with nat_eq (drop at text) institution_heading

-- the number of the line that stands after so many octets
abbrev pub line_at : List ℕ → ℕ → ℕ
line_at text at = count_by (λ octet. octet == 0x0A) (take at text) + 1

-- An institution begins there, none between it and the end, and what stands before it is not refused
-- by the fault.
pub record IsOpen (text : List ℕ) (fault : ConfigFault) (end at : ℕ) : Type 0 where
  pub before_end : at < end
  pub begins : IsTrue (begins_at text at)
  pub last : (other : ℕ) → at < other → other < end → begins_at text other ≡ false
  pub before : IsUtf8 (take at text) → configuration (take at text) ≢ Err fault

-- The text is refused by the fault with the institution that begins there, up to the next one, and
-- without it is not.
pub record IsPlace (text : List ℕ) (fault : ConfigFault) (at : ℕ) : Type 0 where
  pub end : ℕ
  pub bounded : end ≤ length text
  pub opened : IsOpen text fault end at
  pub refused : configuration (take end text) ≡ Err fault

-- such an institution begins in this line
abbrev pub IsAtLine : List ℕ → ConfigFault → ℕ → Type 0
IsAtLine text fault line = (at : ℕ) × IsPlace text fault at × (line ≡ line_at text at)

-- the same, where it is known; the line is 0 where it is not
abbrev pub IsLineOf : List ℕ → ConfigFault → ℕ → Type 0
IsLineOf text fault line = (line ≡ 0) ⊎ IsAtLine text fault line
