use Rattle.std.proofs.Common.{map}
use Rattle.dq_wires.specs.Looping.{capture_number}
use Rattle.dq_wires.proofs.Playing.{PlayedSo}
use Rattle.dq_wires.proofs.loopback.looping.Loopback.play_all.Given as goal

abbrev pub invariant-loop-event : goal.invariant-loop-event
invariant-loop-event g l =
    PlayedSo g.T.Tables.state (g.W.Wires.log l.fn.self.wires.wires) (g.W.Wires.log l.self.wires.wires) l.fn.self.turner l.self.turner
    (map capture_number l.lines.items) l.fn.events.items l.yielded l.event-iterator.rest.items
