-- The outcome left once a data set has been read, and the entries that a step names.
use Rattle.std.specs.Prelude.{ℕ, ◌≡◌, List, [], ◌∷◌, filter, Option, is_some}
use Rattle.std.specs.List.{list_any}
use Rattle.std.specs.List.Sorted.{IsStrictlySortedBy}
use Rattle.std.specs.Str.{bytes_eq}
use Rattle.dq_dataset.specs.Tree.{ElementList}
use Rattle.dq_dataset.specs.Editing.{merged_data_set}
use Rattle.dq_dimse.specs.Statuses.{success}
use Rattle.dq_config.specs.Limits.{Limits}
use Rattle.dq_tables.specs.declared.row.Kind.TheVariants.{Entry}
use Rattle.dq_tables.specs.Rows.{Record, Edit, Put, octet_order}
use Rattle.dq_tables.specs.Lookups.{record_at}
use Rattle.dq_tables.specs.ServiceEffects.{first_refusal, refusal_or}
use Rattle.dq_tables.specs.StartedEntries.{names}
use Rattle.dq_mpps.specs.Steps.{step_record}
use Rattle.dq_mpps.specs.NCreate as creating
use Rattle.dq_mpps.specs.NSet.{kept_data_set, set_refusals}

-- of an N-CREATE with a UID
abbrev pub step_created : Limits → List ℕ → ElementList → List Record → ℕ × List Edit
step_created limits uid step records =
    refusal_or (first_refusal (creating.create_refusals limits records uid step))
    (success, creating.creation records uid step)

-- of an N-SET of a step that is kept or not
abbrev pub step_changed : List ℕ → ElementList → Option Record → ℕ × List Edit
step_changed uid sent kept =
    refusal_or (first_refusal (set_refusals kept sent))
    (success, Put (step_record uid (merged_data_set (kept_data_set kept) sent)) ∷ [])

-- the ids are those that a step names, in their order, each once
pub record AreNamed (step : ElementList) (ids : List (List ℕ)) : Type 0 where
  pub in_order : IsStrictlySortedBy octet_order ids
  pub same : (id : List ℕ) → list_any (bytes_eq id) ids ≡ names step id

-- the ids under which an entry is kept
abbrev pub ids_kept : List Record → List (List ℕ) → List (List ℕ)
ids_kept records ids = filter (λ (id : List ℕ). is_some (record_at Entry id records)) ids
