use Rattle.std.proofs.Common.{◌≡◌, ◌≤◌, length}
use Rattle.dq_core.proofs.additions.Additions.new.Given as goal

abbrev pub invariant-loop : goal.invariant-loop
invariant-loop l = (length l.logs.items ≡ l.counter) × (l.counter ≤ l.count)
