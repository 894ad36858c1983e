use Rattle.std.proofs.Common.{arith}
use Rattle.sqlite.specs.State.{HasCleanDisk}
use Rattle.sqlite.specs.Held.{state}
use Rattle.dq_sql.proofs.WrittenRows.{on_ok, gone_on, gone_further}
use Rattle.dq_sql.proofs.ChangeSteps.{stored_made}
use Rattle.dq_sql.proofs.row_writer.put_stored.Goals as goal

pub returns-clause-done : goal.returns-clause-done
returns-clause-done g c clean inside =
    let s0 = state g.S.Store c.args.tx.now.conn.now in
    let s1 = state g.S.Store c.put_if.new.tx.conn.now in
    let s2 = state g.S.Store c.put_if-2.new.tx.conn.now in
    let s3 = state g.S.Store c.put.new.tx.conn.now in
    let clean2 : HasCleanDisk s2 = omega (arith, c.put.ensures.survives.clean) in
    let clean1 : HasCleanDisk s1 = omega (arith, c.put_if-2.ensures.survives.clean) in
    let first = c.in_ok-put_if.ensures.done clean1 inside in
    let second = c.in_ok-put_if-2.ensures.done clean2 first.0.inside in
    on_ok c.put.result _ _ (λ third. (
      gone_on s0 s2 s3 (gone_further s0 s1 s2 first.0 second.0) third.0,
      stored_made s0.now s1.now s2.now s3.now c.args.study.now c.args.series.now c.args.image.now first.1 second.1 third.1,
    )) (c.put.ensures.done clean second.0.inside)
