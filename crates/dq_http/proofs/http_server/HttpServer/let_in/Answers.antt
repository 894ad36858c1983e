use Rattle.std.proofs.Common.{◌∙◌, arith}
use Rattle.dq_http.proofs.Room.{lets-then-one, one-at-most}
use Rattle.dq_http.proofs.http_server.HttpServer.let_in.Goals as goal

pub loop-connection-preserved : goal.loop-connection-preserved
loop-connection-preserved g c =
    let before = c.loop-connection.invariant in
    let one = rw (before.most, before.state) at c.admit.ensures.came in
    record {
      came = lets-then-one _ _ _ _ _ before.came (omega (arith, before.room, c.loop-connection-test.true)) one;
      room = omega (arith, before.room, one-at-most _ _ _ _ one);
      state = c.admit.ensures.state ∙ before.state;
      most = c.admit.ensures.most ∙ before.most;
    }
