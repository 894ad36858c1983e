use Rattle.std.proofs.Common.{arith}
use Rattle.sqlite.specs.Held.{state}
use Rattle.dq_sql.proofs.NewStore.{makes_indexes}
use Rattle.dq_sql.proofs.schema.make_indexes.Goals as goal

pub returns-clause-makes : goal.returns-clause-makes
returns-clause-makes g c clean =
    let a = c.make_patient_index.ensures.survives.clean in
    let b = c.make_day_index.ensures.survives.clean in
    let d = c.make_started_index.ensures.survives.clean in
    makes_indexes (state g.S.Store c.args.tx.now.conn.now).now (state g.S.Store c.make_above_index.new.tx.conn.now).now
    (state g.S.Store c.make_patient_index.new.tx.conn.now).now (state g.S.Store c.make_day_index.new.tx.conn.now).now
    (state g.S.Store c.make_started_index.new.tx.conn.now).now
    (c.in_ok-make_above_index.ensures.makes (omega (arith, a, b, d, clean)))
    (c.in_ok-make_patient_index.ensures.makes (omega (arith, b, d, clean)))
    (c.in_ok-make_day_index.ensures.makes (omega (arith, d, clean)))
    (c.in_ok-make_started_index.ensures.makes clean)
