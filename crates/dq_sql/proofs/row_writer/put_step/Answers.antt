use Rattle.std.proofs.Common.{arith}
use Rattle.sqlite.specs.State.{HasCleanDisk}
use Rattle.sqlite.specs.Held.{state}
use Rattle.dq_sql.proofs.WrittenRows.{on_ok, went_further}
use Rattle.dq_sql.proofs.ChangeSteps.{step_made}
use Rattle.dq_sql.proofs.row_writer.put_step.Goals as goal

pub returns-clause-done : goal.returns-clause-done
returns-clause-done g c clean inside =
    let s0 = state g.S.Store c.args.tx.now.conn.now in
    let s1 = state g.S.Store c.put.new.tx.conn.now in
    let s2 = state g.S.Store c.start_each.new.tx.conn.now in
    let clean1 : HasCleanDisk s1 = omega (arith, c.start_each.ensures.survives.clean) in
    let first = c.in_ok-put.ensures.done clean1 inside in
    on_ok c.start_each.result _ _ (λ second. (
      went_further s0 s1 s2 first.0 second.0,
      step_made s0.now s1.now s2.now c.args.step.now c.args.keys.now first.1 (rw c.as_slice.ensures at second.1),
    )) (c.start_each.ensures.done clean first.0.on.inside first.0.is_open)
