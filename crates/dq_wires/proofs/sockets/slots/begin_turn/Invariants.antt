use Rattle.std.proofs.Common.{◌≡◌, ◌++◌, map, take, drop, option_map}
use Rattle.dq_wires.specs.SocketTurns.{turn_begun}
use Rattle.dq_wires.proofs.sockets.slots.begin_turn.Given as goal

-- the turn of those before the index has begun
abbrev pub invariant-loop-slot : goal.invariant-loop-slot
invariant-loop-slot l =
    take l.slot-index l.slots ++ map (option_map turn_begun) (drop l.slot-index l.slots)
    ≡ map (option_map turn_begun) l.fn.slots
