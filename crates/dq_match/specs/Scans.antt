-- How far a pattern goes along a text up to its next asterisk.
use Rattle.std.specs.Prelude.{◌≡◌, ℕ, ◌≤◌, ◌<◌, true, false, List, length, drop}
use Rattle.dq_match.specs.Wildcards.{wild, after_run}
use Rattle.dq_match.specs.declared.wildcards.Casing.{Casing}
use Rattle.dq_match.specs.declared.wildcards.Scan.{Scan}
use Rattle.dq_match.specs.declared.wildcards.Scan.TheVariants.{End, Mismatch, Star}

-- A pattern went along `count` octets of a text to an asterisk, and fits the text just where what
-- is left of it fits what is left of the text after some run. Wherever the pattern fits, what is
-- left of it fits after so many octets and some run.
pub record IsPassed (casing : Casing) (pattern text others rest : List ℕ) : Type 0 where
  pub count : ℕ
  pub within : count ≤ length text
  pub behind : rest ≡ drop count text
  pub shorter : length others < length pattern
  pub leads : (start : List ℕ) → wild casing pattern start ≡ true
      → after_run (wild casing others) (drop count start) ≡ true
  pub as_well : wild casing pattern text ≡ after_run (wild casing others) rest

abbrev pub IsScan : Casing → List ℕ → List ℕ → Scan → Type 0
IsScan casing pattern text End = wild casing pattern text ≡ true
IsScan casing pattern text Mismatch = wild casing pattern text ≡ false
IsScan casing pattern text (Star others rest) = IsPassed casing pattern text others.now rest.now

-- the pattern fits what is left of a text after some run just where what is left of it does
pub record IsFit (casing : Casing) (pattern text others rest : List ℕ) : Type 0 where
  pub shorter : length others < length pattern
  pub as_well : after_run (wild casing pattern) text ≡ after_run (wild casing others) rest

abbrev pub IsFirstFit : Casing → List ℕ → List ℕ → Scan → Type 0
IsFirstFit casing pattern text End = after_run (wild casing pattern) text ≡ true
IsFirstFit casing pattern text Mismatch = after_run (wild casing pattern) text ≡ false
IsFirstFit casing pattern text (Star others rest) = IsFit casing pattern text others.now rest.now
