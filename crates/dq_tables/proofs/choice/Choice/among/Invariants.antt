use Rattle.std.proofs.Common.{◌≡◌, ◌++◌}
use Rattle.std.specs.List.{filter}
use Rattle.dq_tables.specs.declared.row.Row.{Row}
use Rattle.dq_tables.specs.Rows.{record_of}
use Rattle.dq_tables.specs.StudyChoices.{is_chosen}
use Rattle.dq_tables.proofs.choice.Choice.among.Given as goal

abbrev pub invariant-loop-study : goal.invariant-loop-study
invariant-loop-study l = record {
  parts : l.yielded ++ l.study-iterator.rest.items ≡ l.fn.studies;
  taken : l.taken ≡ filter (λ (row : Row). is_chosen l.self (record_of row)) l.yielded;
}
