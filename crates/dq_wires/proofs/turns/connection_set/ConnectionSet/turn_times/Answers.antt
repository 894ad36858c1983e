use Rattle.std.proofs.Common.{◌≡◌, ◌∙◌, Some, refl, arith}
use Rattle.std.specs.Result.{result_err}
use Rattle.std.proofs.lemmas.Grind.{common_steps}
use Rattle.dq_wires.proofs.ConnectionTurns.{handed-on}
use Rattle.dq_wires.proofs.WholeTurns.{turns-begin, turns-next, turns-cut}
use Rattle.dq_wires.proofs.turns.connection_set.ConnectionSet.turn_times.Goals as goal

pub loop-turn-init : goal.loop-turn-init
loop-turn-init g c = record { went = turns-begin; opens = c.requires; failed = refl }

pub turn_once-requires : goal.turn_once-requires
turn_once-requires g c = c.loop-turn.invariant.opens

pub loop-turn-preserved : goal.loop-turn-preserved
loop-turn-preserved g c =
    record {
      went = turns-next c.loop-turn.invariant.went c.in_ok-turn_once.ensures.went;
      opens = c.in_ok-turn_once.ensures.opens;
      failed = c.in_ok-turn_once.ensures.failed ∙ c.loop-turn.invariant.failed;
    }

pub returns-in_err-turn_once-clause-cut : goal.returns-in_err-turn_once-clause-cut
returns-in_err-turn_once-clause-cut g c =
    let left : result_err c.from_residual.result ≡ Some c.in_err-turn_once.field-0.0 = grind (arith, common_steps) in
    handed-on c.from_residual.result _ left (turns-cut c.loop-turn.invariant.went (omega arith) c.in_err-turn_once.ensures.cut)
