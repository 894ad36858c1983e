use Rattle.std.proofs.Common.{map, filter, ℕ, List, Bor}
use Rattle.dq_web.specs.KeyFiles.{is_key_line, AreSpelled}
use Rattle.dq_web.proofs.keys.Keys.read.Given as goal

abbrev pub invariant-loop-line : goal.invariant-loop-line
invariant-loop-line l =
    AreSpelled (filter is_key_line (map (λ (line : Bor (List ℕ)). line.now) l.yielded)) l.entries
