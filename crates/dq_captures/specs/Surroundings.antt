-- The octets that are known to have been written.
use Rattle.std.specs.Prelude.{ℕ, List, take, Option}
use Rattle.std.specs.Io.KnownBytes.{Appends}

-- known octets grow by the first of these
abbrev pub AppendsPart : Option (List ℕ) → Option (List ℕ) → List ℕ → Type 0
AppendsPart before after octets = (count : ℕ) × Appends before after (take count octets)

-- an output that may fail broke off in the midst of these octets
abbrev pub BreaksOff : Type 0 → Option (List ℕ) → Option (List ℕ) → List ℕ → Type 0
BreaksOff may_fail before after octets = may_fail × AppendsPart before after octets
