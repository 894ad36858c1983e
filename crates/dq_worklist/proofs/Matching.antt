-- The answers to keys are what they are shown of the entries that match, in order.
use Rattle.std.proofs.Common.{◌≡◌, ◌≢◌, ℕ, Bool, true, false, not, List, map, filter, Result, Ok, Err, refl, sym, ap, ◌∙◌, subst, arith, if◌then◌else◌}
use Rattle.std.proofs.lemmas.Bool.{not-true}
use Rattle.dq_list.specs.Among.{IsAmong}
use Rattle.dq_list.proofs.Among.{among_filter, filtered_from}
use Rattle.dq_dataset.specs.declared.header.Syntax.{Syntax}
use Rattle.dq_dataset.specs.Tree.{ElementList}
use Rattle.dq_dimse.specs.Receiving.{identifier_in}
use Rattle.dq_dimse.specs.Statuses.{success, does_not_match_sop_class}
use Rattle.dq_dimse.specs.Received.{Message}
use Rattle.dq_dimse.proofs.Refusing.{identifier_refused}
use Rattle.dq_match.specs.Answers.{answer_to_keys}
use Rattle.dq_match.specs.Identifiers.{is_query}
use Rattle.dq_match.specs.Matching.{fits}
use Rattle.dq_match.specs.Responses.{shown_data_set}
use Rattle.dq_match.specs.Supported.{supported_part, has_unsupported}
use Rattle.dq_match.specs.declared.responses.Found.{Found}
use Rattle.dq_match.specs.declared.supported.KeyList.TheVariants.{Entry as EntryKeys}
use Rattle.dq_match.specs.declared.supported.KeyScope.TheVariants.{Identifier}
use Rattle.dq_match.proofs.Answering.{given_where, given_to, answer_to as fit_to}
use Rattle.dq_tables.specs.declared.row.Kind.TheVariants.{Entry}
use Rattle.dq_tables.specs.declared.row.Row.{Row}
use Rattle.dq_tables.specs.Rows.{Record, IsRising, of}
use Rattle.dq_tables.specs.Records.{data_set_of}
use Rattle.dq_tables.specs.Lookups.{records_of, waiting_among}
use Rattle.dq_tables.proofs.RisingLists.{one_list}
use Rattle.dq_tables.proofs.RecordLists.{of_kind_from, of_kind_to, listed_in_order, in_order_filter}
use Rattle.dq_worklist.specs.declared.worklist_query.Query.{Query}
use Rattle.dq_worklist.specs.Answers.{MatchesKeys, AreEntryAnswers}
use Rattle.dq_worklist.specs.Queries.{worklist_identifier_query, worklist_query, answers_of_entries, listed_by, worklist_outcome}
use Rattle.dq_worklist.proofs.Queries.{listed_answers}

module _ (records : List Record) (keys : ElementList) where
  abbrev is_fit : Record → Bool
  is_fit r = fits keys (data_set_of r.octets)

  abbrev waits : Record → Bool
  waits r = not r.started

  abbrev all_matching : List Record
  all_matching = filter is_fit (waiting_among records)

  match_from : (r : Record) → IsAmong r all_matching → MatchesKeys records keys r
  match_from r h =
      let kept = filtered_from is_fit r (waiting_among records) h in
      let left = filtered_from waits r (records_of Entry records) kept.0 in
      let entry = of_kind_from Entry r records left.0 in
      record { kept = entry.0; kind = entry.1; waiting = not-true r.started left.1; fit = kept.1 }

  waiting_to : (r : Record) → MatchesKeys records keys r → IsAmong r (waiting_among records)
  waiting_to r matches =
      among_filter waits r (records_of Entry records) (of_kind_to Entry r records matches.kept matches.kind) (ap not matches.waiting)

  match_to : (r : Record) → MatchesKeys records keys r → IsAmong r all_matching
  match_to r matches = among_filter is_fit r (waiting_among records) (waiting_to r matches) matches.fit

  all_shown : answers_of_entries records keys ≡ map (λ (r : Record). shown_data_set keys (data_set_of r.octets)) all_matching
  unfolding answers_of_entries
  all_shown =
      given_where (λ (r : Record). answer_to_keys keys (data_set_of r.octets)) is_fit (λ (r : Record). shown_data_set keys (data_set_of r.octets)) (λ (r : Record). refl)
      (waiting_among records)

  -- a record that matches is shown
  pub match_shown : (r : Record) → MatchesKeys records keys r → IsAmong (shown_data_set keys (data_set_of r.octets)) (answers_of_entries records keys)
  unfolding answers_of_entries
  match_shown r matches =
      given_to (λ (s : Record). answer_to_keys keys (data_set_of s.octets)) (shown_data_set keys (data_set_of r.octets)) r (waiting_among records)
      (waiting_to r matches) (fit_to keys (data_set_of r.octets) matches.fit)

are_answers : (institution : List ℕ) (rows : List Row) (keys : ElementList) → IsRising rows
    → AreEntryAnswers (of institution rows) keys (answers_of_entries (of institution rows) keys)
are_answers institution rows keys rising = record {
  matching = all_matching (of institution rows) keys;
  in_order = in_order_filter (is_fit (of institution rows) keys) (waiting_among (of institution rows))
      (in_order_filter (waits (of institution rows) keys) (records_of Entry (of institution rows)) (listed_in_order Entry institution rows rising));
  exactly = λ r. (match_from (of institution rows) keys r, match_to (of institution rows) keys r);
  each_shown = all_shown (of institution rows) keys;
}

pub matching_in_order : (institution : List ℕ) (rows : List Row) (message : Message) (syntax : Syntax) (query : Query) → IsRising rows
    → worklist_query message syntax ≡ Ok query → AreEntryAnswers (of institution rows) query.keys (worklist_outcome (of institution rows) message syntax).answers
matching_in_order institution rows message syntax query rising is =
    subst (AreEntryAnswers (of institution rows) query.keys) (sym (listed_answers (of institution rows) message syntax query is))
    (are_answers institution rows query.keys rising)

-- ---- what ends with success was not refused

unmade : (made : Query) (b : Bool) (status : ℕ) → (if b then Ok made else Err does_not_match_sop_class) ≡ Err status → status ≢ success
unmade made true status e = absurd (cc)
unmade made false status e = (let same : does_not_match_sop_class ≡ status = cc in λ is. absurd (omega (arith, same, is)))

refused_from : (message : Message) (syntax : Syntax) (identifier : Result ElementList ℕ) (status : ℕ) → identifier_in message syntax ≡ identifier
    → worklist_identifier_query identifier ≡ Err status → status ≢ success
refused_from message syntax (Err first) status is e = (let same : first ≡ status = cc in λ none. identifier_refused message syntax first is (same ∙ none))
refused_from message syntax (Ok identifier) status is e =
    let keys = supported_part (Identifier EntryKeys) identifier in
    unmade (record { keys = keys; optional = has_unsupported (Identifier EntryKeys) identifier }) (is_query keys) status e

query_refused : (message : Message) (syntax : Syntax) (status : ℕ) → worklist_query message syntax ≡ Err status → status ≢ success
unfolding worklist_query
query_refused message syntax status e = refused_from message syntax (identifier_in message syntax) status refl e

module _ (institution : List ℕ) (rows : List Row) (message : Message) (syntax : Syntax) (rising : IsRising rows) where
  abbrev listed_own : Found
  listed_own = worklist_outcome (of institution rows) message syntax

  not_refused : (query : Result Query ℕ) → worklist_query message syntax ≡ query → listed_own.status ≡ success
      → (q : Query) × (worklist_query message syntax ≡ Ok q) × AreEntryAnswers (of institution rows) q.keys listed_own.answers
  unfolding worklist_outcome
  not_refused (Ok query) is e = (query, is, matching_in_order institution rows message syntax query rising is)
  not_refused (Err status) is e =
      absurd (query_refused message syntax status is (sym (ap (λ (q : Result Query ℕ). (listed_by (of institution rows) q).status) is) ∙ e))

pub succeeded_in_order : (institution : List ℕ) (rows : List Row) (message : Message) (syntax : Syntax) → IsRising rows
    → (worklist_outcome (of institution rows) message syntax).status ≡ success
    → (query : Query) × (worklist_query message syntax ≡ Ok query)
    × AreEntryAnswers (of institution rows) query.keys (worklist_outcome (of institution rows) message syntax).answers
succeeded_in_order institution rows message syntax rising e = not_refused institution rows message syntax rising (worklist_query message syntax) refl e

-- ---- no others are answers

pub answers_alone : (records : List Record) (keys : ElementList) (one other : List ElementList) → AreEntryAnswers records keys one
    → AreEntryAnswers records keys other → one ≡ other
answers_alone records keys one other a b =
    let same = one_list a.matching b.matching a.in_order b.in_order
    (λ r. (λ h. (b.exactly r).1 ((a.exactly r).0 h), λ h. (a.exactly r).1 ((b.exactly r).0 h))) in
    a.each_shown ∙ ap (map (λ (r : Record). shown_data_set keys (data_set_of r.octets))) same ∙ sym b.each_shown
