use Rattle.std.proofs.Common.{rules}
use Rattle.dq_tables.proofs.Soundness.{start_more}
use Rattle.dq_tables.proofs.plain.PlainTables.start_each.Goals as goal

pub loop-key-preserved : goal.loop-key-preserved
loop-key-preserved c =
    start_more c.args.institution.now c.args.keys.now c.loop-key.key-index c.as_slice.result.now c.args.self.now.kept.items c.loop-key.self.kept.items
    c.start_entry.new.self.kept.items c.loop-key-test.true (search rules) c.loop-key.invariant c.start_entry.ensures
