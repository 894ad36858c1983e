-- The records of an institution after a step is created (PS3.4 section F.7.2.1).
use Rattle.std.specs.Prelude.{◌≡◌, ◌≢◌, ℕ, ◌||◌, List, Some, option_map}
use Rattle.dq_dataset.specs.Tree.{ElementList}
use Rattle.dq_tables.specs.declared.row.Kind.{Kind}
use Rattle.dq_tables.specs.declared.row.Kind.TheVariants.{Entry, Step}
use Rattle.dq_tables.specs.Rows.{Record}
use Rattle.dq_tables.specs.Lookups.{record_at}
use Rattle.dq_tables.specs.StartedEntries.{names}
use Rattle.dq_mpps.specs.Steps.{step_record}

-- An entry is started exactly where it was or the step names it.
abbrev pub started_by : ElementList → Record → Record
started_by step entry = record entry { started = entry.started || names step entry.key }

-- The step is kept under its UID, each entry stands under its id, started where the step names it,
-- and each other record is as it was.
pub record IsCreated (records after : List Record) (uid : List ℕ) (step : ElementList)
    : Type 0 where
  pub kept : record_at Step uid after ≡ Some (step_record uid step)
  pub entries : (id : List ℕ)
      → record_at Entry id after ≡ option_map (started_by step) (record_at Entry id records)
  pub others : (kind : Kind) (key : List ℕ) → kind ≢ Entry → (kind ≡ Step → key ≢ uid)
      → record_at kind key after ≡ record_at kind key records
