-- Octets, as numbers and in vectors.
use Rattle.std.specs.Prelude.{ℕ, ◌<◌, List, map, slice_index}
use Rattle.std.specs.Global.{Vec}

-- the numbers are octets
abbrev pub AreOctets : List ℕ → Type 0
AreOctets numbers = (i : ℕ) → slice_index numbers i < 0x100

-- what stands in each of some vectors
abbrev pub octets_of_vectors : List (Vec ℕ) → List (List ℕ)
octets_of_vectors vectors = map (λ (v : Vec ℕ). v.items) vectors
