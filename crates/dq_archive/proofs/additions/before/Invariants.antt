use Rattle.std.proofs.Common.{◌≡◌, ◌++◌, not}
use Rattle.std.specs.List.{filter}
use Rattle.dq_tables.specs.declared.row.Row.{Row}
use Rattle.dq_tables.specs.Rows.{record_of}
use Rattle.dq_archive.specs.Additions.{is_later}
use Rattle.dq_archive.proofs.additions.before.Given as goal

abbrev pub invariant-loop-row : goal.invariant-loop-row
invariant-loop-row l = record {
  parts : l.yielded ++ l.row-iterator.rest.items ≡ l.fn.rows;
  left : l.left ≡ filter (λ (row : Row). not (is_later l.later (record_of row))) l.yielded;
}
