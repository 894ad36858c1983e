use Rattle.std.proofs.Common.{◌≡◌, ◌∙◌, true, false, map, refl, sym, ap}
use Rattle.std.specs.List.{filter_map}
use Rattle.std.proofs.lemmas.Option.{IfSome_then}
use Rattle.std.proofs.lemmas.Result.{IfOk-weaker}
use Rattle.dq_vr.specs.declared.Tag.{Tag}
use Rattle.dq_vr.specs.declared.Vr.TheVariants.{UI}
use Rattle.dq_value.specs.Parts.{element_values}
use Rattle.dq_dataset.specs.Values.{element_at, element_octets}
use Rattle.dq_match.specs.SeveralValues.{is_one_of_values}
use Rattle.dq_tables.specs.Rows.{Record}
use Rattle.dq_tables.proofs.TableCalls.{reads_nothing}
use Rattle.dq_archive.specs.PastArchives.{state_in, records_in}
use Rattle.dq_find.specs.Candidates.{own_values, names_records, named_record}
use Rattle.dq_find.proofs.NamedLookups.{chosen_candidates}
use Rattle.dq_find.proofs.PastRecords.{named_then, named_again_then}
use Rattle.dq_find.proofs.search.few_keys.Goals as goal

pub returns-then-names_records : goal.returns-then-names_records
returns-then-names_records g c =
    let state = g.T.Tables.state in
    let it = c.args.archive.now in
    let query = c.args.query.now in
    let values : element_values UI c.octets_at-values.result.now ≡ own_values query =
    ap (element_values UI) (c.octets_at-values.ensures ∙ ap (λ (t : Tag). element_octets (element_at t query.keys)) c.unique_key.ensures) in
    let some : names_records (own_values query) ≡ true = sym (ap names_records values) ∙ sym c.names_records.ensures ∙ c.if-names_records.true in
    record {
      same = record { tables = refl; institution = refl; later = refl };
      reads = reads_nothing (state_in state it) _;
      named = λ h.
          ap (filter_map (named_record (records_in state it) query)) c.in_ok-key_list.ensures
          ∙ named_then it.later.now it.institution.now.name (state_in state it).rows query c.in_ok-uids.uids.keys (c.honest_rows_are_sound.ensures.rising it.tables.now h)
          c.in_ok-uids.ensures.ordered (λ value. c.in_ok-uids.ensures.values value ∙ ap (is_one_of_values value) values) some;
    }

pub returns-in-Study : goal.returns-in-Study
returns-in-Study g c =
    let state = g.T.Tables.state in
    let it = c.args.archive.now in
    let records = records_in state it in
    let query = c.args.query.now in
    let values : element_values UI c.octets_at-values.result.now ≡ own_values query =
    ap (element_values UI) (c.octets_at-values.ensures ∙ ap (λ (t : Tag). element_octets (element_at t query.keys)) c.unique_key.ensures) in
    let none : names_records (own_values query) ≡ false = sym (ap names_records values) ∙ sym c.names_records.ensures ∙ c.if-names_records.false in
    let chosen = c.chosen_keys.ensures in
    record {
      same = chosen.same;
      reads = chosen.reads;
      named = λ h. IfOk-weaker c.chosen_keys.result _ _
          (λ few all. IfSome_then few all
          (λ keys are. ap (filter_map (named_record records query)) (are ∙ ap (map (λ (r : Record). r.key)) (chosen_candidates records query c.in-Study.is none))
          ∙ named_again_then it.later.now it.institution.now.name (state_in state it).rows query
          (c.honest_rows_are_sound.ensures.rising it.tables.now (chosen.reads.goes.was_honest h))))
          (chosen.answered h);
    }
