-- The answers to a query are what is told of the records that match it, in order.
use Rattle.std.proofs.Common.{◌≡◌, ◌≢◌, ℕ, Bool, true, false, ◌&&◌, List, [], ◌∷◌, map, filter, Option, Some, None, option_map, Result, Ok, Err, refl, sym, ap, ◌∙◌, subst, arith, if◌then◌else◌}
use Rattle.std.specs.Result.{result_ok}
use Rattle.std.specs.List.{AllByRecursion}
use Rattle.dq_list.specs.Among.{IsAmong}
use Rattle.dq_list.proofs.Among.{among_filter, filtered_from}
use Rattle.dq_dataset.specs.declared.data_set.Element.{Element}
use Rattle.dq_dataset.specs.declared.data_set.Value.TheVariants.{Octets, Items}
use Rattle.dq_dataset.specs.declared.fault.ReadFault.{ReadFault}
use Rattle.dq_dataset.specs.declared.header.Syntax.{Syntax}
use Rattle.dq_dataset.specs.Tree.{ElementList, no_elements, element, sequence}
use Rattle.dq_dataset.specs.View.{elements_of, list_of}
use Rattle.dq_dataset.specs.DataSetReader.{data_set_read}
use Rattle.dq_dataset.proofs.KnownVrs.{HasKnownVr, read_has_known_vrs}
use Rattle.dq_dimse.specs.Receiving.{unless_unread, identifier_in}
use Rattle.dq_dimse.specs.Statuses.{success, out_of_resources, does_not_match_sop_class}
use Rattle.dq_dimse.specs.Received.{Message}
use Rattle.dq_match.specs.declared.supported.KeyScope.{KeyScope}
use Rattle.dq_match.specs.Matching.{fits}
use Rattle.dq_match.specs.Supported.{is_supported, below, supported_part, supported_items}
use Rattle.dq_dimse.proofs.Refusing.{identifier_refused}
use Rattle.dq_match.specs.declared.responses.Found.{Found}
use Rattle.dq_match.proofs.Answering.{given_where}
use Rattle.dq_tables.specs.Rows.{Record, of}
use Rattle.dq_tables.specs.Records.{data_set_of}
use Rattle.dq_tables.specs.Sound.{IsSound}
use Rattle.dq_tables.specs.declared.row.Row.{Row}
use Rattle.dq_tables.proofs.RisingLists.{one_list}
use Rattle.dq_tables.proofs.RecordLists.{in_order_filter}
use Rattle.dq_find.specs.declared.level.Level.{Level}
use Rattle.dq_find.specs.declared.query.Query.{Query}
use Rattle.dq_find.specs.Levels.{level_of, has_keys_above}
use Rattle.dq_find.specs.ComputedKeys.{with_computed}
use Rattle.dq_find.specs.Queries.{level_query, identifier_query, message_query, answer_elements, answers_of_records, asked_records, query_outcome}
use Rattle.dq_find.specs.Answers.{MatchesQuery, HasKeyAbove, told_of, AreQueryAnswers}
use Rattle.dq_find.proofs.QueryLaws.{answered_query, asked_from, asked_to, asked_in_order}
use Rattle.dq_find.proofs.AskedRecords.{EachAlone, has_own, key_above_met, under_met}

-- ---- what the keys of a query have

-- each unique key above is given, and each element has its VR by the dictionary
record IsGiven (level : Level) (keys : ElementList) : Type 0 where
  there : has_keys_above level keys ≡ true
  known : AllByRecursion HasKnownVr (elements_of keys)

known_by : (b : Bool) (e : Element) (rest whole : ElementList) → elements_of whole ≡ e ∷ elements_of rest → HasKnownVr e
    → AllByRecursion HasKnownVr (elements_of rest) → AllByRecursion HasKnownVr (elements_of (if b then whole else rest))
known_by true e rest whole is one all = subst (AllByRecursion HasKnownVr) (sym is) (one, all)
known_by false e rest whole is one all = all

part_known : (scope : KeyScope) (d : ElementList) → AllByRecursion HasKnownVr (elements_of d)
    → AllByRecursion HasKnownVr (elements_of (supported_part scope d))
part_known scope no_elements all = tt
part_known scope (element t v o rest) all =
    known_by (is_supported scope t) (record { tag = t; vr = v; value = Octets o }) (supported_part scope rest)
    (element t v o (supported_part scope rest)) refl all.0 (part_known scope rest all.1)
part_known scope (sequence t v items rest) all =
    let inside = supported_items (below scope t) items in
    known_by (is_supported scope t) (record { tag = t; vr = v; value = Items (list_of inside) }) (supported_part scope rest)
    (sequence t v inside (supported_part scope rest)) refl (λ octets is. absurd (cc)) (part_known scope rest all.1)

was_read : (over : Bool) (read : Result ElementList ReadFault) (d : ElementList)
    → (if over then Err out_of_resources else unless_unread (result_ok read)) ≡ Ok d → read ≡ Ok d
was_read true read d e = absurd (cc)
was_read false (Ok x) d e = cc
was_read false (Err fault) d e = absurd (cc)

identifier_known : (message : Message) (syntax : Syntax) (d : ElementList) → identifier_in message syntax ≡ Ok d
    → AllByRecursion HasKnownVr (elements_of d)
unfolding identifier_in
identifier_known message syntax d e =
    read_has_known_vrs syntax message.octets d (was_read _ (data_set_read syntax message.octets) d e)

query_if : (keys : ElementList) (level : Level) (optional has well : Bool) (query : Query) → has_keys_above level keys ≡ has
    → AllByRecursion HasKnownVr (elements_of keys)
    → (if has && well then Ok (record { level = level; keys = keys; optional = optional }) else Err does_not_match_sop_class) ≡ Ok query
    → IsGiven query.level query.keys
query_if keys level optional true true query has known e = grind arith
query_if keys level optional true false query has known e = absurd (cc)
query_if keys level optional false well query has known e = absurd (cc)

query_from : (identifier : ElementList) (level : Option Level) (query : Query) → AllByRecursion HasKnownVr (elements_of identifier)
    → level_query identifier level ≡ Ok query → IsGiven query.level query.keys
query_from identifier None query known e = absurd (cc)
query_from identifier (Some level) query known e = grind (arith, query_if, part_known)

query_read : (identifier : Result ElementList ℕ) (query : Query) → ((d : ElementList) → identifier ≡ Ok d → AllByRecursion HasKnownVr (elements_of d))
    → identifier_query identifier ≡ Ok query → IsGiven query.level query.keys
query_read (Err status) query known e = absurd (cc)
query_read (Ok identifier) query known e = query_from identifier (level_of identifier) query (known identifier refl) e

keys_given : (message : Message) (syntax : Syntax) (query : Query) → message_query message syntax ≡ Ok query → IsGiven query.level query.keys
unfolding message_query
keys_given message syntax query e = query_read (identifier_in message syntax) query (identifier_known message syntax) e

-- ---- those that fit

told_if : (called : List ℕ) (query : Query) (part : ElementList) (b : Bool)
    → option_map (answer_elements called query) (if b then Some part else None) ≡ (if b then Some (answer_elements called query part) else None)
told_if called query part true = refl
told_if called query part false = refl

module _ (records : List Record) (called : List ℕ) (query : Query) where
  abbrev is_fit : Record → Bool
  is_fit r = fits query.keys (with_computed records query.level r)

  all_told : answers_of_records records called query ≡ map (told_of records called query) (filter is_fit (asked_records records query))
  unfolding answers_of_records
  all_told = grind (arith, given_where, told_if)

-- what the law of matching says of all keys
abbrev Alone : Type 0
Alone = (keys : ElementList) → EachAlone keys

module _ (institution : List ℕ) (rows : List Row) (called : List ℕ) (query : Query) (sound : IsSound rows) (alone : Alone)
    (given : IsGiven query.level query.keys) where
  abbrev own : List Record
  own = of institution rows

  match_from : (r : Record) → IsAmong r (filter (is_fit own called query) (asked_records own query)) → MatchesQuery own query r
  match_from r h =
      let kept = filtered_from (is_fit own called query) r (asked_records own query) h in
      let asked = asked_from query.level query.keys r own kept.0 in
      record { kept = asked.0; level = asked.1; fit = kept.1 }

  above_of_match : (r : Record) → MatchesQuery own query r → HasKeyAbove query.level query.keys (data_set_of r.octets)
  above_of_match r matches =
      key_above_met own query.keys given.known (alone query.keys) r (has_own institution rows r sound.own matches.kept) query.level matches.level given.there
      matches.fit

  match_to : (r : Record) → MatchesQuery own query r → IsAmong r (filter (is_fit own called query) (asked_records own query))
  match_to r matches =
      let under = under_met own query.keys given.known (alone query.keys) r (has_own institution rows r sound.own matches.kept) query.level matches.level
      (above_of_match r matches) in
      among_filter (is_fit own called query) r (asked_records own query) (asked_to query.level query.keys r own matches.kept matches.level under) matches.fit

  are_answers : AreQueryAnswers own called query (answers_of_records own called query)
  are_answers = grind (arith, in_order_filter, asked_in_order, match_from, match_to, all_told)

pub matching_in_order : Alone → (institution : List ℕ) (rows : List Row) (called : List ℕ) (message : Message) (syntax : Syntax) (query : Query) → IsSound rows
    → message_query message syntax ≡ Ok query
    → AreQueryAnswers (of institution rows) called query (query_outcome (of institution rows) called message syntax).answers
matching_in_order alone institution rows called message syntax query sound is =
    subst (AreQueryAnswers (of institution rows) called query) (sym (answered_query (of institution rows) called message syntax query is))
    (are_answers institution rows called query sound alone (keys_given message syntax query is))

pub key_above_of_match : Alone → (institution : List ℕ) (rows : List Row) (message : Message) (syntax : Syntax) (query : Query) → IsSound rows
    → message_query message syntax ≡ Ok query → (r : Record) → MatchesQuery (of institution rows) query r
    → HasKeyAbove query.level query.keys (data_set_of r.octets)
key_above_of_match alone institution rows message syntax query sound is =
    above_of_match institution rows [] query sound alone (keys_given message syntax query is)

-- ---- what ends with success was not refused

wrong_status : (status : ℕ) → does_not_match_sop_class ≡ status → status ≢ success
wrong_status status same is = absurd (omega (arith, same, is))

unmade : (made : Query) (b : Bool) (status : ℕ) → (if b then Ok made else Err does_not_match_sop_class) ≡ Err status → status ≢ success
unmade made true status e = absurd (cc)
unmade made false status e = wrong_status status (cc)

unmatched : (identifier : ElementList) (level : Option Level) (status : ℕ) → level_query identifier level ≡ Err status → status ≢ success
unmatched identifier None status e = wrong_status status (cc)
unmatched identifier (Some level) status e = grind (arith, unmade)

refused_from : (message : Message) (syntax : Syntax) (identifier : Result ElementList ℕ) (status : ℕ) → identifier_in message syntax ≡ identifier
    → identifier_query identifier ≡ Err status → status ≢ success
refused_from message syntax (Err first) status is e = (let same : first ≡ status = cc in
    λ none. identifier_refused message syntax first is (same ∙ none))
refused_from message syntax (Ok identifier) status is e = unmatched identifier (level_of identifier) status e

query_refused : (message : Message) (syntax : Syntax) (status : ℕ) → message_query message syntax ≡ Err status → status ≢ success
unfolding message_query
query_refused message syntax status e = refused_from message syntax (identifier_in message syntax) status refl e

module _ (institution : List ℕ) (rows : List Row) (called : List ℕ) (message : Message) (syntax : Syntax) (sound : IsSound rows) (alone : Alone) where
  abbrev found_own : Found
  found_own = query_outcome (of institution rows) called message syntax

  not_refused : (query : Result Query ℕ) → message_query message syntax ≡ query → found_own.status ≡ success
      → (q : Query) × (message_query message syntax ≡ Ok q) × AreQueryAnswers (of institution rows) called q found_own.answers
  unfolding query_outcome
  not_refused (Ok query) is e = (query, is, matching_in_order alone institution rows called message syntax query sound is)
  not_refused (Err status) is e = grind (arith, query_refused)

pub succeeded_in_order : Alone → (institution : List ℕ) (rows : List Row) (called : List ℕ) (message : Message) (syntax : Syntax) → IsSound rows
    → (query_outcome (of institution rows) called message syntax).status ≡ success
    → (query : Query) × (message_query message syntax ≡ Ok query)
    × AreQueryAnswers (of institution rows) called query (query_outcome (of institution rows) called message syntax).answers
succeeded_in_order alone institution rows called message syntax sound e =
    not_refused institution rows called message syntax sound alone (message_query message syntax) refl e

-- ---- no others are answers

pub answers_alone : (records : List Record) (called : List ℕ) (query : Query) (one other : List ElementList) → AreQueryAnswers records called query one
    → AreQueryAnswers records called query other → one ≡ other
answers_alone records called query one other a b =
    let same = one_list a.matching b.matching a.in_order b.in_order
    (λ r. (λ h. (b.exactly r).1 ((a.exactly r).0 h), λ h. (a.exactly r).1 ((b.exactly r).0 h))) in
    a.each_told ∙ ap (map (told_of records called query)) same ∙ sym b.each_told
