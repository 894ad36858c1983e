-- The entries that are looked at for a query. This is there for the prover: what is answered is
-- `answers_of_entries` of Queries, of all entries that wait.
use Rattle.std.specs.Prelude.{ℕ, List, Option, Some, None, if◌then◌else◌}
use Rattle.std.specs.Option.{option_to_list}
use Rattle.dq_vr.specs.Tags.{scheduled_procedure_step_sequence, scheduled_procedure_step_id}
use Rattle.dq_dataset.specs.Tree.{ElementList}
use Rattle.dq_dataset.specs.Values.{sole_at}
use Rattle.dq_match.specs.Answers.{answer_to_keys}
use Rattle.dq_match.specs.SeveralValues.{is_plain}
use Rattle.dq_tables.specs.declared.row.Kind.TheVariants.{Entry}
use Rattle.dq_tables.specs.Keys.{value_passing, sole_item_at}
use Rattle.dq_tables.specs.Rows.{Record}
use Rattle.dq_tables.specs.Lookups.{record_at, waiting_among}
use Rattle.dq_tables.specs.Records.{data_set_of}

abbrev pub id_asked_in : Option ElementList → Option (List ℕ)
id_asked_in None = None
id_asked_in (Some step) = value_passing is_plain (sole_at scheduled_procedure_step_id step)

-- the id of the step that a query asks for, where it is one value without wild cards
unfoldable pub id_asked : ElementList → Option (List ℕ)
id_asked keys = id_asked_in (sole_item_at scheduled_procedure_step_sequence keys)

-- the entry with the id, where one is asked for, and where none is, those that wait
abbrev pub entries_with : List Record → Option (List ℕ) → List Record
entries_with records None = waiting_among records
entries_with records (Some id) = option_to_list (record_at Entry id records)

abbrev pub entry_candidates : List Record → ElementList → List Record
entry_candidates records keys = entries_with records (id_asked keys)

-- the answer that an entry gives to keys, where it waits
abbrev pub entry_answer : ElementList → Record → Option ElementList
entry_answer keys r = if r.started then None else answer_to_keys keys (data_set_of r.octets)
