use borrow.Author.Count.{below_more}
use Rattle.std.proofs.Common.{arith}
use Rattle.dq_sql.proofs.SchemaTest.{IsNoVersionAt, no_version, no_version_here}
use Rattle.dq_sql.proofs.schema_test.has_version.Goals as goal

pub loop-table-preserved : goal.loop-table-preserved
loop-table-preserved c =
    below_more (IsNoVersionAt c.args.schema.now.tables) c.loop-table.table-index c.loop-table.invariant
    (no_version_here c.args.schema.now.tables c.loop-table.table-index c.table-item.result c.is_version_table.result (rw c.as_slice-table-items.ensures at c.loop-table-test.true)
    (rw c.as_slice-table-items.ensures at c.table-item.is) c.if-is_version_table.false c.is_version_table.ensures.told)

pub returns-clause-told : goal.returns-clause-told
returns-clause-told c has =
    absurd (no_version c.args.schema.now c.loop-table.table-index (rw c.as_slice-table-items.ensures at c.loop-table-test.false) c.loop-table.invariant has)
