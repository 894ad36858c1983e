use Rattle.std.proofs.Common.{ℕ, ◌<◌}
use Rattle.dq_sql.proofs.SchemaTest.{IsNoVersionAt}
use Rattle.dq_sql.proofs.schema_test.has_version.Given as goal

abbrev pub invariant-loop-table : goal.invariant-loop-table
invariant-loop-table l = (k : ℕ) → k < l.table-index → IsNoVersionAt l.schema.tables k
