-- Worklist entries and performed procedure steps, whose edits leave the studies, the series and the
-- images as they were.
use Rattle.std.proofs.Common.{◌≡◌, ℕ, Bool, true, false, List, [], ◌∷◌, ◌++◌, map, Option, Some, None, refl, sym, ap, ◌∙◌, append-nil, if◌then◌else◌}
use Rattle.std.specs.List.{AllByRecursion}
use Rattle.std.specs.Result.{result_unwrap_or}
use Rattle.dq_dataset.specs.declared.header.Syntax.{Syntax}
use Rattle.dq_dataset.specs.declared.header.Syntax.TheVariants.{Explicit}
use Rattle.dq_dataset.specs.DataSetReader.{data_set_read}
use Rattle.dq_dataset.specs.Tree.{ElementList, no_elements}
use Rattle.dq_dataset.specs.Editing.{merged_data_set}
use Rattle.dq_dimse.specs.Statuses.{success}
use Rattle.dq_dimse.specs.Received.{Message}
use Rattle.dq_config.specs.Limits.{Limits}
use Rattle.dq_tables.specs.declared.row.Row.{Row}
use Rattle.dq_tables.specs.Rows.{Record, Edit, Put, Start, IsRising, record_at, edit_place, of, by, after, after_edit, after_edits}
use Rattle.dq_tables.specs.declared.row.Kind.TheVariants.{Step}
use Rattle.dq_tables.specs.ServiceEffects.{first_refusal, refusal_or}
use Rattle.dq_tables.proofs.Lens.{rising_edit}
use Rattle.dq_archive.specs.declared.additions.Addition.{Addition}
use Rattle.dq_archive.specs.Additions.{is_lasting, lasting_records, without, IsTold}
use Rattle.dq_archive.proofs.AddedRecords.{brief_edit, without_swapped}
use Rattle.dq_tables.specs.StartedEntries.{entries_named}
use Rattle.dq_mpps.specs.Steps.{step_record}
use Rattle.dq_mpps.specs.NCreate.{creation, creation_refusals, create_outcome}
use Rattle.dq_mpps.specs.NSet.{kept_data_set, change_refusals, set_outcome}
use Rattle.dq_worklist.specs.Orders.{Order, has_entry, read_order, entry_added, schedule_outcome, withdrawn}
use Rattle.dq_core.specs.Services.{ConsoleOrder, Scheduling, Withdrawal, console_outcome}

-- each is of a place where nothing lasts
abbrev pub AreBrief : List Edit → Type 0
AreBrief es = AllByRecursion (λ (e : Edit). is_lasting (edit_place e).kind ≡ false) es

pub brief_edits : (h : List ℕ) (es : List Edit) (rows : List Row) → IsRising rows → AreBrief es
    → lasting_records (of h (after_edits h es rows)) ≡ lasting_records (of h rows)
brief_edits h [] rows rising brief = refl
brief_edits h (e ∷ es) rows rising brief =
    brief_edits h es (after_edit h e rows) (rising_edit h e rows rising) brief.1 ∙ brief_edit h e rows rising brief.0

-- nothing is told of them
pub told_brief : (h : List ℕ) (es : List Edit) (rows now : List Row) (log : List Addition) → IsRising rows → AreBrief es
    → now ≡ after (by h es) rows → IsTold h rows now log log
told_brief h es rows now log rising brief done = record {
  told = [];
  behind = sym (append-nil log);
  stays = λ later.
      (λ i. lasting_records (without (append-nil later i) (of h (done i)))) ∙ without_swapped later (of h (after (by h es) rows))
      ∙ ap (without later) (brief_edits h es rows rising brief) ∙ sym (without_swapped later (of h rows));
}

-- ---- which edits these are

starts : (keys : List (List ℕ)) → AreBrief (map Start keys)
starts [] = tt
starts (key ∷ keys) = (refl, starts keys)

refused_brief : {Answer : Type 0} (o : Option Answer) (done : Answer × List Edit) → AreBrief done.1 → AreBrief (refusal_or o done).1
refused_brief None done brief = brief
refused_brief (Some refusal) done brief = tt

pub create_brief : (limits : Limits) (records : List Record) (message : Message) (syntax : Syntax) → AreBrief (create_outcome limits records message syntax).1
unfolding create_outcome
create_brief limits records message syntax =
    let sent = result_unwrap_or (data_set_read syntax message.octets) no_elements in
    let each : AreBrief (creation records message.command.sop_instance sent) = (refl, starts (entries_named records sent)) in
    refused_brief (first_refusal (creation_refusals limits records message (data_set_read syntax message.octets)))
    (success, creation records message.command.sop_instance sent) each

pub set_brief : (records : List Record) (message : Message) (syntax : Syntax) → AreBrief (set_outcome records message syntax).1
unfolding set_outcome
set_brief records message syntax =
    let sent = result_unwrap_or (data_set_read syntax message.octets) no_elements in
    let uid = message.command.sop_instance in
    let edits = Put (step_record uid (merged_data_set (kept_data_set (record_at Step uid records)) sent)) ∷ [] in
    let each : AreBrief edits = (refl, tt) in
    refused_brief (first_refusal (change_refusals records message (data_set_read syntax message.octets))) (success, edits) each

entry_brief : (o : Option Order) → AreBrief (entry_added o).1
entry_brief None = tt
entry_brief (Some order) = (refl, tt)

schedule_brief : (limits : Limits) (records : List Record) (octets : List ℕ) → AreBrief (schedule_outcome limits records octets).1
unfolding schedule_outcome
schedule_brief limits records octets = refused_brief _ _ (entry_brief (read_order (data_set_read Explicit octets)))

withdrawn_brief : (records : List Record) (id : List ℕ) (b : Bool) → has_entry records id ≡ b → AreBrief (withdrawn records id).1
unfolding withdrawn
withdrawn_brief records id true e = rw e (refl, tt)
withdrawn_brief records id false e = rw e tt

pub order_brief : (limits : Limits) (records : List Record) (order : ConsoleOrder) → AreBrief (console_outcome limits records order).edits
unfolding console_outcome
order_brief limits records (Scheduling octets) = schedule_brief limits records octets
order_brief limits records (Withdrawal id) = withdrawn_brief records id (has_entry records id) refl
