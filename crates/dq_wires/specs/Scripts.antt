-- What a script brings, and the calls that wires in memory log.
use Rattle.std.specs.Prelude.{◌≡◌, ◌==◌, ℕ, Bool, List, remove, slice_index_or, Option, Some, None, option_map}
use Rattle.dq_wires.specs.declared.calls.Call.{Call}
use Rattle.dq_wires.specs.declared.calls.ReadOutcome.{ReadOutcome}
use Rattle.dq_wires.specs.declared.calls.ReadOutcome.TheVariants as came
use Rattle.dq_wires.specs.declared.loopback.memory.MemoryWires.{MemoryWires}

-- the calls so far
abbrev pub calls_so_far : MemoryWires → Option (List Call)
calls_so_far wires = option_map (λ calls. calls.items) wires.calls

-- a read at a place
abbrev pub is_read_at : ℕ → ℕ × ReadOutcome → Bool
is_read_at place read = read.0 == place

-- The outcome of the first of the reads that is at a place, and those that are left. Without one
-- nothing comes.
abbrev pub IsNextRead : List (ℕ × ReadOutcome) → Option ℕ → ReadOutcome → List (ℕ × ReadOutcome) → Type 0
IsNextRead reads None outcome left = (outcome ≡ came.Nothing) × (left ≡ reads)
IsNextRead reads (Some at) outcome left = (left ≡ remove reads at)
    × ((read : ℕ × ReadOutcome) → outcome ≡ (slice_index_or reads at read).1)
