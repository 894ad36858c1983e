use Rattle.std.proofs.Common.{◌≡◌, ℕ, ◌<◌, ◌≤◌, List, length, get_or}
use Rattle.dq_tables.specs.declared.row.Row.{Row}
use Rattle.dq_counts.specs.declared.counts.Count.{Count}
use Rattle.dq_counts.specs.Counts.{IsRight, AreRight, Differ}
use Rattle.dq_counts.proofs.counts.Counts.change.Given as goal

-- the counts before the index are those after the change, and the others those before it
abbrev pub invariant-loop-count : goal.invariant-loop-count
invariant-loop-count l =
    (row : Row) (before after : List Row) → row.kind ≡ l.kind → row.inst ≡ l.institution → Differ l.difference row before after → AreRight before l.fn.self
    → (k : ℕ) (d : Count) → k < length l.count-items
    → (k < l.count-index → IsRight after (get_or l.count-items k d)) × (l.count-index ≤ k → IsRight before (get_or l.count-items k d))
