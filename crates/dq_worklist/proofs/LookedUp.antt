-- Where a query asks for one step's id, no entry with another id matches, and the entry that is
-- looked up gives the answers of all. Else those give them that wait.
use Rattle.std.proofs.Common.{◌≡◌, ◌≢◌, ℕ, Bool, true, false, not, List, [], ◌∷◌, map, filter, Option, Some, None, option_map, Result, Ok, Err, refl, sym, ap, ◌∙◌, arith, if◌then◌else◌}
use Rattle.std.specs.List.{filter_map}
use Rattle.std.specs.Option.{option_to_list}
use Rattle.std.specs.Str.{bytes_eq}
use Rattle.std.proofs.lemmas.Bool.{and_parts}
use Rattle.std.proofs.lemmas.Slice.Eq.{bytes_eq-Decides}
use Rattle.dq_list.specs.Among.{IsAmong}
use Rattle.dq_vr.specs.Tags.{scheduled_procedure_step_sequence, scheduled_procedure_step_id}
use Rattle.dq_dataset.specs.declared.fault.ReadFault.{ReadFault}
use Rattle.dq_dataset.specs.declared.header.Syntax.TheVariants.{Explicit}
use Rattle.dq_dataset.specs.Tree.{ElementList}
use Rattle.dq_dataset.specs.Facts.{IsDataSet}
use Rattle.dq_dataset.specs.DataSetReader.{data_set_read}
use Rattle.dq_dataset.specs.Values.{sole_at}
use Rattle.dq_dataset.proofs.KnownVrs.{read_has_known_inside, facts_give_known_inside}
use Rattle.dq_match.specs.Matching.{fits}
use Rattle.dq_match.specs.Responses.{shown_data_set}
use Rattle.dq_match.specs.Answers.{answer_to_keys}
use Rattle.dq_match.specs.SeveralValues.{is_plain}
use Rattle.dq_match.proofs.Answering.{given_of_each, given_skipped}
use Rattle.dq_tables.specs.declared.row.Kind.{Kind}
use Rattle.dq_tables.specs.declared.row.Kind.TheVariants.{Entry}
use Rattle.dq_tables.specs.declared.row.Row.{Row}
use Rattle.dq_tables.specs.Rows.{Record, record_of, row_of, of}
use Rattle.dq_tables.specs.Lookups.{record_at, records_of, waiting_among}
use Rattle.dq_tables.specs.Records.{data_set_of}
use Rattle.dq_tables.specs.Keys.{is_id, sole_item_at, id_of, id_in, entry_id}
use Rattle.dq_tables.specs.Sound.{IsSound, is_own_row, is_record_of, may_be_started, has_key}
use Rattle.dq_tables.proofs.RecordLists.{of_kind_from, listed_in_order}
use Rattle.dq_archive.proofs.UniqueKeys.{only_named}
use Rattle.dq_archive.proofs.OwnRecords.{of_each, passed, value_from}
use Rattle.dq_worklist.specs.Candidates.{id_asked_in, id_asked, entries_with, entry_candidates, entry_answer}
use Rattle.dq_worklist.specs.Queries.{answers_of_entries}
use Rattle.dq_worklist.specs.EntryReads.{row_answers}
use Rattle.dq_worklist.proofs.Steps.{AllKnownInside, EachAlone, ItemsMet, HasStep, fits_alone}

-- ---- what an entry's own key is

asked_by : (keys : ElementList) (id : List ℕ) (o : Option ElementList) → sole_item_at scheduled_procedure_step_sequence keys ≡ o
    → id_asked_in o ≡ Some id → HasStep scheduled_procedure_step_id keys id × (is_plain id ≡ true)
asked_by keys id None is h = absurd cc
asked_by keys id (Some step) is h =
    let parts = passed is_plain (sole_at scheduled_procedure_step_id step) id h in
    (record { step = step; there = is; has = parts.0 }, parts.1)

step_asked : (keys : ElementList) (id : List ℕ) → id_asked keys ≡ Some id → HasStep scheduled_procedure_step_id keys id × (is_plain id ≡ true)
unfolding id_asked
step_asked keys id h = asked_by keys id (sole_item_at scheduled_procedure_step_sequence keys) refl h

held_by : (d : ElementList) (id : List ℕ) (o : Option ElementList) → sole_item_at scheduled_procedure_step_sequence d ≡ o → id_in o ≡ Some id
    → HasStep scheduled_procedure_step_id d id
unfolding id_of
held_by d id None is h = absurd cc
held_by d id (Some step) is h =
    record { step = step; there = is; has = (passed is_id (sole_at scheduled_procedure_step_id step) id h).0 }

abbrev HasOwnId : Record → Type 0
HasOwnId r = AllKnownInside (data_set_of r.octets) × (has_key r.kind r.key (data_set_of r.octets) ≡ true)

own_by : (read : Result ElementList ReadFault) (row : Row) → data_set_read Explicit row.octets ≡ read → is_record_of read row ≡ true
    → HasOwnId (record_of row)
unfolding data_set_of
own_by (Err fault) row is own = absurd cc
own_by (Ok d) row is own = grind (arith, and_parts, read_has_known_inside)

row_own : (row : Row) → is_own_row row ≡ true → HasOwnId (record_of row)
unfolding is_own_row
row_own row own =
    own_by (data_set_read Explicit row.octets) row refl
    (and_parts (may_be_started row.kind row.started) (is_record_of (data_set_read Explicit row.octets) row) own).1

entry_step : (r : Record) → r.kind ≡ Entry → has_key r.kind r.key (data_set_of r.octets) ≡ true → HasStep scheduled_procedure_step_id (data_set_of r.octets) r.key
unfolding has_key entry_id
entry_step r is own =
    held_by (data_set_of r.octets) r.key (sole_item_at scheduled_procedure_step_sequence (data_set_of r.octets)) refl
    (value_from _ r.key (ap (λ (k : Kind). has_key k r.key (data_set_of r.octets)) (sym is) ∙ own))

-- ---- the answers of the one that is looked up

none_by : (keys d : ElementList) (b : Bool) → fits keys d ≡ b → (fits keys d ≡ true → ⊥) → (if b then Some (shown_data_set keys d) else None) ≡ None
none_by keys d true is other = absurd (other is)
none_by keys d false is other = refl

-- ---- the answers of those that are looked at

pub by_waiting_alone : (records : List Record) (keys : ElementList) → None ≡ id_asked keys
    → filter_map (entry_answer keys) (waiting_among records) ≡ filter_map (entry_answer keys) (entry_candidates records keys)
by_waiting_alone records keys none = ap (λ (o : Option (List ℕ)). filter_map (entry_answer keys) (entries_with records o)) none

mapped : (institution : List ℕ) (o : Option Record) → option_to_list (option_map (row_of institution) o) ≡ map (row_of institution) (option_to_list o)
mapped institution None = refl
mapped institution (Some r) = refl

pub by_one : (institution : List ℕ) (records : List Record) (keys : ElementList) (id : List ℕ) (row : Option Row) (listed : List Row)
    → Some id ≡ id_asked keys → row ≡ option_map (row_of institution) (record_at Entry id records) → listed ≡ option_to_list row
    → row_answers keys listed ≡ filter_map (entry_answer keys) (entry_candidates records keys)
by_one institution records keys id row listed asked found is =
    ap (row_answers keys) (is ∙ ap option_to_list found ∙ mapped institution (record_at Entry id records))
    ∙ given_of_each (λ (row : Row). entry_answer keys (record_of row)) (row_of institution) (option_to_list (record_at Entry id records))
    ∙ ap (λ (o : Option (List ℕ)). filter_map (entry_answer keys) (entries_with records o)) asked

-- what those give that wait
waiting_give : (keys : ElementList) (entries : List Record)
    → filter_map (λ (r : Record). answer_to_keys keys (data_set_of r.octets)) (filter (λ (r : Record). not r.started) entries)
    ≡ filter_map (entry_answer keys) entries
waiting_give keys [] = refl
waiting_give keys (r ∷ entries) = grind (arith, waiting_give keys entries)

module _ (each_alone : EachAlone) (items_met : ItemsMet) (institution : List ℕ) (rows : List Row) (keys : ElementList)
    (sound : IsSound rows) (facts : IsDataSet keys) where
  known_keys : AllKnownInside keys
  known_keys = facts_give_known_inside 16 None keys facts

  other_gives_none : (id : List ℕ) → id_asked keys ≡ Some id → (r : Record) → IsAmong r (records_of Entry (of institution rows)) → r.key ≢ id
      → answer_to_keys keys (data_set_of r.octets) ≡ None
  other_gives_none id asked r h other =
      let entry = of_kind_from Entry r (of institution rows) h in
      let own = of_each HasOwnId row_own r institution rows sound.own entry.0 in
      let held = entry_step r entry.1 own.1 in
      let key = step_asked keys id asked in
      none_by keys (data_set_of r.octets) (fits keys (data_set_of r.octets)) refl (λ fit.
      other (sym (fits_alone each_alone items_met keys (data_set_of r.octets) key.0.step held.step id r.key known_keys own.0
      key.0.there held.there key.0.has held.has key.1 fit)))

  -- those that are started give none
  by_waiting : filter_map (entry_answer keys) (waiting_among (of institution rows)) ≡ filter_map (entry_answer keys) (records_of Entry (of institution rows))
  by_waiting = given_skipped (entry_answer keys) (λ (r : Record). not r.started) (records_of Entry (of institution rows)) (λ r h is. grind arith)

  by_asked : (o : Option (List ℕ)) → id_asked keys ≡ o
      → filter_map (entry_answer keys) (entries_with (of institution rows) o)
      ≡ filter_map (entry_answer keys) (records_of Entry (of institution rows))
  by_asked None is = by_waiting
  by_asked (Some id) is =
      ap (filter_map (entry_answer keys)) (sym (only_named Entry id (of institution rows) (listed_in_order Entry institution rows sound.rising)))
      ∙ given_skipped (entry_answer keys) (λ (r : Record). bytes_eq r.key id) (records_of Entry (of institution rows))
      (λ r h other. (let none = other_gives_none id is r h (λ same. cc (sym other ∙ (bytes_eq-Decides r.key id).1 same)) in grind arith))

  -- the answers of the entries that are looked at
  pub answered_of_candidates : filter_map (entry_answer keys) (entry_candidates (of institution rows) keys) ≡ answers_of_entries (of institution rows) keys
  unfolding answers_of_entries
  answered_of_candidates = by_asked (id_asked keys) refl ∙ sym (waiting_give keys (records_of Entry (of institution rows)))
