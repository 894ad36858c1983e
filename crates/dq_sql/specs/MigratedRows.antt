-- The rows after a migration of a store of version 1, which knew of no started entries.
use Rattle.std.specs.Prelude.{Bool, true, ◌&&◌, List, map, filter, if◌then◌else◌}
use Rattle.std.specs.List.{list_any}
use Rattle.dq_tables.specs.declared.row.Kind.TheVariants.{Entry, Step}
use Rattle.dq_tables.specs.declared.row.Row.{Row}
use Rattle.dq_tables.specs.Rows.{Operation, Start, by, after_all, same_kind}
use Rattle.dq_tables.specs.Lookups.{is_of_kind}
use Rattle.dq_tables.specs.Records.{data_set_of}
use Rattle.dq_tables.specs.StartedEntries.{ids_named, names}
use Rattle.dq_sql.specs.declared.kept_steps.NamedEntries.{NamedEntries}

-- A kept step starts the entries of its institution that it names.
abbrev pub starts_of : Row → Operation
starts_of step = by step.inst (map Start (ids_named (data_set_of step.octets)))

abbrev pub steps_among : List Row → List Row
steps_among rows = filter (λ (row : Row). same_kind row.kind Step) rows

-- the rows after each kept step has started what it names
unfoldable pub migrated_rows : List Row → List Row
migrated_rows rows = after_all (map starts_of (steps_among rows)) rows

-- what a step was found to start
abbrev pub starting_operation : NamedEntries → Operation
starting_operation entries = by entries.institution (map Start entries.ids)

-- the row is an entry that a kept step of its institution names
abbrev pub is_entry_named : List Row → Row → Bool
is_entry_named rows row =
    list_any (λ (step : Row).
    same_kind step.kind Step
    && (is_of_kind Entry step.inst row && names (data_set_of step.octets) row.key)) rows

abbrev pub with_start : List Row → Row → Row
with_start rows row = if is_entry_named rows row then record row { started = true } else row
