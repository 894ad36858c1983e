use Rattle.std.proofs.Common.{◌<◌, ◌∙◌, length, arith, subst}
use Rattle.dq_http.specs.declared.http_state.HttpState.{HttpState}
use Rattle.dq_http.specs.RequestQueue.{AllTurn}
use Rattle.dq_http.proofs.HttpTurns.{turns-kept, turns-gone, turns-end}
use Rattle.dq_http.proofs.http_server.HttpServer.attend.Goals as goal

pub loop-at-preserved-then-turn : goal.loop-at-preserved-then-turn
loop-at-preserved-then-turn g c =
    let within : c.loop-at.at < length c.loop-at.self.connections.items = omega (arith, c.loop-at.self.connections.ok.0) in
    record {
      so = turns-kept c.loop-at.invariant.so within _ c.index_mut-connection.ensures.value _
          (_, rw c.loop-at.invariant.state at c.if-turn.ensures);
      state = c.loop-at.invariant.state;
      most = c.loop-at.invariant.most;
    }

pub loop-at-preserved : goal.loop-at-preserved
loop-at-preserved g c =
    let within : c.loop-at.at < length c.loop-at.self.connections.items = omega (arith, c.loop-at.self.connections.ok.0) in
    record {
      so = rw c.remove.ensures.items (turns-gone c.loop-at.invariant.so within _ c.index_mut-connection.ensures.value _);
      state = c.loop-at.invariant.state;
      most = c.loop-at.invariant.most;
    }

pub returns-clause-attended : goal.returns-clause-attended
returns-clause-attended g c = (
  c.let_in.new.self.connections.items,
  c.loop-at.self.connections.items,
  c.let_in.ensures.came,
  subst (λ (state : HttpState). AllTurn state.guard c.let_in.new.self.connections.items c.loop-at.self.connections.items) c.let_in.ensures.state
      (turns-end c.loop-at.invariant.so (omega (arith, c.loop-at-test.false, c.len.ensures))),
  c.make_room.ensures.gone,
  c.make_room.ensures.state ∙ c.loop-at.invariant.state ∙ c.let_in.ensures.state,
  c.make_room.ensures.most ∙ c.loop-at.invariant.most ∙ c.let_in.ensures.most,
)
