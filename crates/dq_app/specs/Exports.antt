-- The output of an export of an institution's rows, and the reasons why an export stops.
use Rattle.std.specs.Prelude.{◌≡◌, ◌⊎◌, ℕ, List, [], ◌∷◌, map, take, Option, Some, None}
use Rattle.std.specs.Io.KnownBytes.{Keeps, Appends}
use Rattle.std.specs.List.{flat_map}
use Rattle.dq_dataset.specs.Tree.{ElementList}
use Rattle.dq_tables.specs.declared.row.Kind.{Kind}
use Rattle.dq_tables.specs.declared.row.Kind.TheVariants.{Study, Series, Image, Entry, Step}
use Rattle.dq_tables.specs.declared.row.Row.{Row}
use Rattle.dq_tables.specs.Lookups.{records_of}
use Rattle.dq_tables.specs.Records.{data_set_of}
use Rattle.dq_tables.specs.Rows.{Record, of}
use Rattle.dq_tables.specs.TableStates.{State}
use Rattle.dq_captures.specs.Surroundings.{AppendsPart}
use Rattle.dq_cli.specs.declared.parsed_command.RowKind.{RowKind}
use Rattle.dq_cli.specs.declared.parsed_command.RowKind.TheVariants as named
use Rattle.dq_cli.specs.CommandLine.{Exporting, InStore}
use Rattle.dq_app.specs.declared.stop.Stop.{Stop}
use Rattle.dq_app.specs.declared.stop.Stop.TheVariants as stop
use Rattle.dq_app.specs.Program.{EndsTask, IsOver, RefusesStore, unclosed_store}
use Rattle.dq_captures.specs.Reports.{every_kind}
use Rattle.dq_console.specs.ConsoleLines.{json_lines}

-- the kind of rows that a word names: the worklist has the entries
abbrev pub kind_named : RowKind → Kind
kind_named named.Studies = Study
kind_named named.Series = Series
kind_named named.Images = Image
kind_named named.Worklist = Entry
kind_named named.Steps = Step

-- the kinds that are exported: the one that is named, and else every kind in its order
abbrev pub kinds_asked : Option RowKind → List Kind
kinds_asked None = every_kind
kinds_asked (Some kind) = kind_named kind ∷ []

-- the data sets of an institution's records of a kind, each once, in the order of the records
abbrev pub data_sets_of : List Record → Kind → List ElementList
data_sets_of records kind = map (λ (r : Record). data_set_of r.octets) (records_of kind records)

-- and of some kinds, one kind after another
abbrev pub exported_data_sets : List Record → List Kind → List ElementList
exported_data_sets records kinds = flat_map (data_sets_of records) kinds

-- what an export takes of some rows: the institution's own, of the kinds that are asked for
abbrev pub exported_of : List Row → Exporting → List ElementList
exported_of rows exporting =
    exported_data_sets (of exporting.only rows) (kinds_asked exporting.kind)

-- what it prints: a line of DICOM JSON (PS3.18 annex F) for each data set, and nothing else
abbrev pub export_text : List Row → Exporting → List ℕ
export_text rows exporting = json_lines (exported_of rows exporting)

-- How lines of data sets are cut short: at a fault those of the first ones were printed; where the output
-- fails, the first octets of all.
abbrev pub CutsLines : Option (List ℕ) → Option (List ℕ) → List ElementList → Stop → Type 0
CutsLines before after data_sets (stop.Fault number) =
    (count : ℕ) × Appends before after (json_lines (take count data_sets))
CutsLines before after data_sets stop.Output = AppendsPart before after (json_lines data_sets)
CutsLines before after data_sets other = ⊥

module _ {File : Type 0} (state : File → State) (stored : List ℕ → List Row → Type 0)
    (before after : Option (List ℕ)) where
  -- All was printed, and the store was closed with the rows that it had.
  abbrev pub IsExported : (List Row → Type 0) → Exporting → Type 0
  IsExported closed exporting = (kept : List Row) × closed kept
      × IsOver state stored (InStore exporting.store) (λ rows. (kept ≡ rows)
      × Appends before after (export_text rows exporting))

  -- The reasons why an export stops: a refused store, when nothing was printed; the fault of a run or an output that
  -- fails, when the lines are cut short; or a store that is not closed, when all was printed.
  abbrev pub StopsExport : Type 0 → Exporting → Stop → Type 0
  StopsExport fails exporting cause = (Keeps before after × RefusesStore cause)
      ⊎ ((EndsTask fails cause × IsOver state stored (InStore exporting.store) (λ rows.
      CutsLines before after (exported_of rows exporting) cause))
      ⊎ ((cause ≡ unclosed_store) × IsOver state stored (InStore exporting.store) (λ rows.
      Appends before after (export_text rows exporting))))
