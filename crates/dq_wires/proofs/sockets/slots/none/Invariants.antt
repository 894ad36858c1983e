use Rattle.std.proofs.Common.{◌≡◌, None, replicate}
use Rattle.dq_wires.proofs.sockets.slots.none.Given as goal

-- as many as were gone through
abbrev pub invariant-loop-place : goal.invariant-loop-place
invariant-loop-place l = l.slots.items ≡ replicate l._place None
