use Rattle.std.proofs.Common.{arith}
use Rattle.sqlite.specs.Held.{state}
use Rattle.dq_sql.proofs.NewStore.{whole_store}
use Rattle.dq_sql.proofs.schema.make_tables.Goals as goal

pub returns-clause-makes : goal.returns-clause-makes
returns-clause-makes g c clean =
    let a = c.make_version.ensures.survives.clean in
    let b = c.make_indexes.ensures.survives.clean in
    let d = c.say_version.ensures.survives.clean in
    whole_store (state g.S.Store c.args.tx.now.conn.now).now (state g.S.Store c.make_kept.new.tx.conn.now).now
    (state g.S.Store c.make_version.new.tx.conn.now).now (state g.S.Store c.make_indexes.new.tx.conn.now).now
    (state g.S.Store c.say_version.new.tx.conn.now).now
    (c.in_ok-make_kept.ensures.makes (omega (arith, a, b, d, clean)))
    (c.in_ok-make_version.ensures.makes (omega (arith, b, d, clean)))
    (c.in_ok-make_indexes.ensures.makes (omega (arith, d, clean)))
    (c.in_ok-say_version.ensures.makes clean)
