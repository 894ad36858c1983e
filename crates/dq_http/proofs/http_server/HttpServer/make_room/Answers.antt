use Rattle.std.proofs.Common.{◌<◌, ◌∙◌, length, arith, sym}
use Rattle.dq_http.proofs.Room.{room-busy, room-made, room-whole, room-is}
use Rattle.dq_http.proofs.http_server.HttpServer.make_room.Goals as goal

pub loop-at-preserved-then-is_idle : goal.loop-at-preserved-then-is_idle
loop-at-preserved-then-is_idle g c =
    let within : c.loop-at.at < length c.loop-at.self.connections.items = omega (arith, c.loop-at.self.connections.ok.0) in
    record {
      so = rw c.remove-idle.ensures.items (room-made c.loop-at.invariant.so within (omega (arith, c.if-len-gt-MOST_IDLE.true, c.len-in-loop-at.ensures)) _ c.index.ensures (sym c.is_idle.ensures ∙ c.if-is_idle.true));
      state = c.loop-at.invariant.state;
      most = c.loop-at.invariant.most;
    }

pub loop-at-preserved : goal.loop-at-preserved
loop-at-preserved g c =
    let within : c.loop-at.at < length c.loop-at.self.connections.items = omega (arith, c.loop-at.self.connections.ok.0) in
    record {
      so = room-busy c.loop-at.invariant.so within (omega (arith, c.if-len-gt-MOST_IDLE.true, c.len-in-loop-at.ensures)) _ c.index.ensures (sym c.is_idle.ensures ∙ c.if-is_idle.false);
      state = c.loop-at.invariant.state;
      most = c.loop-at.invariant.most;
    }

pub returns-else-len-gt-MOST_IDLE-clause-gone : goal.returns-else-len-gt-MOST_IDLE-clause-gone
returns-else-len-gt-MOST_IDLE-clause-gone g c = room-is c.loop-at.invariant.so (omega (arith, c.if-len-gt-MOST_IDLE.false, c.len-in-loop-at.ensures))

pub returns-after-loop-at-clause-gone : goal.returns-after-loop-at-clause-gone
returns-after-loop-at-clause-gone g c = room-whole c.loop-at.invariant.so (omega (arith, c.loop-at-test.false, c.len.ensures))
