use Rattle.std.proofs.Common.{◌≡◌, map, take}
use Rattle.dq_sql.specs.RowReads.{row_shown}
use Rattle.dq_sql.proofs.row_reader.rows_shown.Given as goal

abbrev pub invariant-loop-values : goal.invariant-loop-values
invariant-loop-values l = l.rows.items ≡ map (row_shown l.kind l.institution) (take l.values-index l.answer)
