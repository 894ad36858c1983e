use Rattle.std.proofs.Common.{◌≡◌, ◌≤◌, length, take, Some, arith}
use Rattle.std.proofs.lemmas.List.{length-take}
use Rattle.std.specs.Result.{result_err}
use Rattle.std.proofs.lemmas.Grind.{common_steps}
use Rattle.dq_wires.specs.Limits.{most_read}
use Rattle.dq_wires.proofs.ConnectionTurns.{went-heard, went-waiting, went-left, off-unheard, off-unpulled, off-unended, handed-on}
use Rattle.dq_wires.proofs.turns.connection_turn.receive.Goals as goal

pub returns-in_ok-hear-in-Ok-Got-clause-went : goal.returns-in_ok-hear-in-Ok-Got-clause-went
returns-in_ok-hear-in-Ok-Got-clause-went g c =
    let bound : length (take c.in-Ok-Got.count c.read.new.buffer) ≤ most_read =
    omega (arith, length-take c.in-Ok-Got.count c.read.new.buffer, c.read.auto.buffer) in
    rw c.learn.ensures.told
    (went-heard _ _ _ _ c.requires.listening bound c.place.ensures c.requires.room (rw c.in-Ok-Got.field-0-is at c.in-Ok-Got.ensures.told)
    c.in_ok-hear-in-Ok-Got.ensures.hears)

pub returns-in_err-hear-in-Ok-Got-clause-off : goal.returns-in_err-hear-in-Ok-Got-clause-off
returns-in_err-hear-in-Ok-Got-clause-off g c =
    let left : result_err c.from_residual.result ≡ Some c.in_err-hear-in-Ok-Got.field-0.0 = grind (arith, common_steps) in
    let bound : length (take c.in-Ok-Got.count c.read.new.buffer) ≤ most_read =
    omega (arith, length-take c.in-Ok-Got.count c.read.new.buffer, c.read.auto.buffer) in
    handed-on c.from_residual.result _ left (off-unheard _ _ _ c.requires.listening bound c.place.ensures c.requires.room
    (rw c.in-Ok-Got.field-0-is at c.in-Ok-Got.ensures.told) c.in_err-hear-in-Ok-Got.ensures.stops)

pub returns-in_ok-pull-in-Ok-Nothing-clause-went : goal.returns-in_ok-pull-in-Ok-Nothing-clause-went
returns-in_ok-pull-in-Ok-Nothing-clause-went g c =
    went-waiting _ _ _ c.requires.listening c.place.ensures c.requires.room (rw c.in-Ok-Nothing.field-0-is at c.in-Ok-Nothing.ensures.told)
    c.in_ok-pull-in-Ok-Nothing.ensures.waits

pub returns-in_err-pull-in-Ok-Nothing-clause-off : goal.returns-in_err-pull-in-Ok-Nothing-clause-off
returns-in_err-pull-in-Ok-Nothing-clause-off g c =
    let left : result_err c.from_residual-in_err-pull-in-Ok-Nothing.result ≡ Some c.in_err-pull-in-Ok-Nothing.field-0.0 = grind (arith, common_steps) in
    handed-on c.from_residual-in_err-pull-in-Ok-Nothing.result _ left (off-unpulled _ _ c.requires.listening c.place.ensures c.requires.room
    (rw c.in-Ok-Nothing.field-0-is at c.in-Ok-Nothing.ensures.told) c.in_err-pull-in-Ok-Nothing.ensures.stops)

pub returns-in_ok-leave-in-Ok-Ended-clause-went : goal.returns-in_ok-leave-in-Ok-Ended-clause-went
returns-in_ok-leave-in-Ok-Ended-clause-went g c =
    went-left _ _ _ _ _ c.requires.listening tt c.place.ensures c.requires.room (rw c.in-Ok-Ended.field-0-is at c.in-Ok-Ended.ensures.told)
    c.in_ok-leave-in-Ok-Ended.ensures.ends

pub returns-in_ok-leave-in-Err-clause-went : goal.returns-in_ok-leave-in-Err-clause-went
returns-in_ok-leave-in-Err-clause-went g c =
    went-left _ _ _ _ _ c.requires.listening tt c.place.ensures c.requires.room c.in-Err.ensures.told c.in_ok-leave-in-Err.ensures.ends

pub returns-in_err-leave-in-Ok-Ended-clause-off : goal.returns-in_err-leave-in-Ok-Ended-clause-off
returns-in_err-leave-in-Ok-Ended-clause-off g c =
    let left : result_err c.from_residual-in_err-leave-in-Ok-Ended.result ≡ Some c.in_err-leave-in-Ok-Ended.field-0.0 = grind (arith, common_steps) in
    handed-on c.from_residual-in_err-leave-in-Ok-Ended.result _ left (rw c.in_err-leave-in-Ok-Ended.ensures.kept
    (off-unended _ _ _ c.requires.listening tt c.place.ensures c.requires.room (rw c.in-Ok-Ended.field-0-is at c.in-Ok-Ended.ensures.told)
    c.in_err-leave-in-Ok-Ended.ensures.stops))

pub returns-in_err-leave-in-Err-clause-off : goal.returns-in_err-leave-in-Err-clause-off
returns-in_err-leave-in-Err-clause-off g c =
    let left : result_err c.from_residual-in_err-leave-in-Err.result ≡ Some c.in_err-leave-in-Err.field-0.0 = grind (arith, common_steps) in
    handed-on c.from_residual-in_err-leave-in-Err.result _ left (rw c.in_err-leave-in-Err.ensures.kept
    (off-unended _ _ _ c.requires.listening tt c.place.ensures c.requires.room c.in-Err.ensures.told c.in_err-leave-in-Err.ensures.stops))
