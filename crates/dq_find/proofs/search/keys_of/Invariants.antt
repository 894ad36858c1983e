use Rattle.std.proofs.Common.{◌≡◌, ◌++◌, map}
use Rattle.dq_tables.specs.declared.row.Row.{Row}
use Rattle.dq_find.proofs.search.keys_of.Given as goal

abbrev pub invariant-loop-row : goal.invariant-loop-row
invariant-loop-row l = record {
  parts : l.yielded ++ l.row-iterator.rest.items ≡ l.fn.rows;
  keys : l.keys ≡ map (λ (row : Row). row.key) l.yielded;
}
