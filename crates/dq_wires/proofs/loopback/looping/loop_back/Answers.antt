use Rattle.std.proofs.Common.{◌≡◌, ap}
use Rattle.dq_wires.specs.declared.loopback.counted.CountedWires.{CountedWires}
use Rattle.dq_wires.proofs.Playing.{plays-whole}
use Rattle.dq_wires.proofs.loopback.looping.loop_back.Goals as goal

pub returns-clause-served : goal.returns-clause-served
returns-clause-served g c = λ rows stands.
    let inside : c.new-2.result.wires ≡ c.args.wires = ap (λ (counted : CountedWires g.row.W.Denot). counted.wires) c.new-2.ensures in
    rw (← c.new.ensures.server, ← inside)
    (plays-whole g.W.Wires.log c.new-2.result.wires c.play_all.new.self.wires.wires c.new.result c.play_all.new.self.turner c.args.events.items rows
    (rw c.new.ensures.server stands) c.new.ensures.hold c.in_ok-play_all.ensures.plays)
