use Rattle.std.proofs.Common.{◌≡◌, ◌<◌, ◌∙◌, length, Some, refl, arith}
use Rattle.std.specs.Result.{result_err}
use Rattle.std.proofs.lemmas.Grind.{common_steps}
use Rattle.dq_wires.proofs.TurnSequences.{round-begins, round-ends, round-kept, round-dropped, round-cut}
use Rattle.dq_wires.proofs.ConnectionTurns.{handed-on}
use Rattle.dq_wires.proofs.turns.connection_set.turn_held.Goals as goal

pub loop-at-init : goal.loop-at-init
loop-at-init g c = record { so = round-begins _ _ _; newest = refl; failed = refl }

pub loop-at-preserved : goal.loop-at-preserved
loop-at-preserved g c =
    let within : c.loop-at.at < length c.loop-at.held.items = omega (arith, c.loop-at.held.ok.0) in
    record {
      so = rw c.remove.ensures.items (round-dropped c.loop-at.invariant.so within _ c.index_mut.ensures.value c.if-branch.false c.in_ok-turn_connection.ensures.went);
      newest = c.in_ok-turn_connection.ensures.newest ∙ c.loop-at.invariant.newest;
      failed = c.turn_connection.ensures.failed ∙ c.loop-at.invariant.failed;
    }

pub loop-at-preserved-then-branch : goal.loop-at-preserved-then-branch
loop-at-preserved-then-branch g c =
    let within : c.loop-at.at < length c.loop-at.held.items = omega (arith, c.loop-at.held.ok.0) in
    record {
      so = round-kept c.loop-at.invariant.so within _ c.index_mut.ensures.value c.if-branch.true c.in_ok-turn_connection.ensures.went;
      newest = c.in_ok-turn_connection.ensures.newest ∙ c.loop-at.invariant.newest;
      failed = c.turn_connection.ensures.failed ∙ c.loop-at.invariant.failed;
    }

pub returns-clause-went : goal.returns-clause-went
returns-clause-went g c = round-ends c.loop-at.invariant.so (omega (arith, c.loop-at.held.ok.0))

pub returns-in_err-turn_connection-clause-cut : goal.returns-in_err-turn_connection-clause-cut
returns-in_err-turn_connection-clause-cut g c =
    let within : c.loop-at.at < length c.loop-at.held.items = omega (arith, c.loop-at.held.ok.0) in
    let left : result_err c.from_residual.result ≡ Some c.in_err-turn_connection.field-0.0 = grind (arith, common_steps) in
    handed-on c.from_residual.result _ left (round-cut c.loop-at.invariant.so within _ c.index_mut.ensures.value c.in_err-turn_connection.ensures.off)
