-- Laws of queries.
use Rattle.std.proofs.Common.{◌≡◌, ◌≢◌, ℕ, List, [], ◌∷◌, Option, Some, None, option_map, Result, Ok, Err, refl, ap, ◌∙◌, codes, arith}
use Rattle.std.specs.List.{AllByRecursion, filter_map, cons_option}
use Rattle.std.specs.Str.{bytes_eq}
use Rattle.std.proofs.lemmas.Slice.Eq.{bytes_eq-Decides}
use Rattle.dq_list.specs.Among.{IsAmong}
use Rattle.dq_list.proofs.Among.{among_filter, filtered_from}
use Rattle.dq_vr.specs.declared.Vr.TheVariants.{AE, CS}
use Rattle.dq_vr.specs.Tag.{is_below}
use Rattle.dq_vr.specs.Tags as tags
use Rattle.dq_value.specs.Title.{without_spaces}
use Rattle.dq_dataset.specs.declared.data_set.Element.{Element}
use Rattle.dq_dataset.specs.declared.data_set.Value.TheVariants.{Octets}
use Rattle.dq_dataset.specs.Rules.{padded_value}
use Rattle.dq_dataset.specs.declared.header.Syntax.{Syntax}
use Rattle.dq_dataset.specs.Tree.{ElementList}
use Rattle.dq_dataset.specs.Values.{element_octets}
use Rattle.dq_dimse.specs.Statuses.{success}
use Rattle.dq_dimse.specs.Received.{Message}
use Rattle.dq_dimse.specs.Receiving.{identifier_in}
use Rattle.dq_tables.specs.declared.row.Kind.{Kind}
use Rattle.dq_tables.specs.declared.row.Kind.TheVariants as kind
use Rattle.dq_tables.specs.declared.row.Row.{Row}
use Rattle.dq_tables.specs.Rows.{Record, Edit, IsRising, of, by, after}
use Rattle.dq_tables.specs.Lookups.{records_of, records_above}
use Rattle.dq_tables.specs.Records.{AreInOrder}
use Rattle.dq_tables.proofs.Lens.{others}
use Rattle.dq_tables.proofs.RecordLists.{of_kind_from, of_kind_to, listed_in_order, above_in_order}
use Rattle.dq_find.specs.declared.level.Level.{Level}
use Rattle.dq_find.specs.declared.level.Level.TheVariants.{Study, Series, Image}
use Rattle.dq_find.specs.declared.query.Query.{Query}
use Rattle.dq_find.specs.Levels.{kind_of, level_name}
use Rattle.dq_find.specs.Queries.{identifier_query, message_query, key_above, records_asked, asked_records, answer_elements, record_answer, answers_of_records, answers_behind, about_answers, found_by, query_outcome, found_behind, keys_outcome_after}
use Rattle.dq_find.specs.Answers.{TellsLevel}
use Rattle.dq_find.proofs.OtherElements.{first_of_three, second_of_three, third_of_three}

-- ---- the records that are asked for

-- the record is under the one that a unique key names
abbrev pub IsUnder : Level → ElementList → Record → Type 0
IsUnder Study keys r = Unit {0}
IsUnder Series keys r = r.above ≡ key_above tags.study_instance_uid keys
IsUnder Image keys r = r.above ≡ key_above tags.series_instance_uid keys

above_from : (k : Kind) (above : List ℕ) (r : Record) (records : List Record) → IsAmong r (records_above k above records)
    → IsAmong r records × (r.kind ≡ k) × (r.above ≡ above)
unfolding records_above
above_from k above r records h =
    let kept = filtered_from (λ (s : Record). bytes_eq s.above above) r (records_of k records) h in
    let one = of_kind_from k r records kept.0 in
    (one.0, one.1, (bytes_eq-Decides r.above above).0 kept.1)

above_to : (k : Kind) (above : List ℕ) (r : Record) (records : List Record) → IsAmong r records → r.kind ≡ k → r.above ≡ above
    → IsAmong r (records_above k above records)
unfolding records_above
above_to k above r records h e under =
    among_filter (λ (s : Record). bytes_eq s.above above) r (records_of k records) (of_kind_to k r records h e) ((bytes_eq-Decides r.above above).1 under)

pub asked_from : (level : Level) (keys : ElementList) (r : Record) (records : List Record) → IsAmong r (records_asked records level keys)
    → IsAmong r records × (r.kind ≡ kind_of level) × IsUnder level keys r
unfolding records_asked
asked_from Study keys r records h = let one = of_kind_from kind.Study r records h in (one.0, one.1, tt)
asked_from Series keys r records h = above_from kind.Series (key_above tags.study_instance_uid keys) r records h
asked_from Image keys r records h = above_from kind.Image (key_above tags.series_instance_uid keys) r records h

pub asked_to : (level : Level) (keys : ElementList) (r : Record) (records : List Record) → IsAmong r records → r.kind ≡ kind_of level → IsUnder level keys r
    → IsAmong r (records_asked records level keys)
unfolding records_asked
asked_to Study keys r records h e under = of_kind_to kind.Study r records h e
asked_to Series keys r records h e under = above_to kind.Series (key_above tags.study_instance_uid keys) r records h e under
asked_to Image keys r records h e under = above_to kind.Image (key_above tags.series_instance_uid keys) r records h e under

-- ---- in order

pub answered_query : (records : List Record) (called : List ℕ) (message : Message) (syntax : Syntax) (query : Query) → message_query message syntax ≡ Ok query
    → (query_outcome records called message syntax).answers ≡ answers_of_records records called query
unfolding query_outcome
answered_query records called message syntax query is = ap (λ (q : Result Query ℕ). (found_by records called q).answers) is

level_in_order : (institution : List ℕ) (rows : List Row) (level : Level) (keys : ElementList) → IsRising rows
    → AreInOrder (records_asked (of institution rows) level keys)
unfolding records_asked
level_in_order institution rows Study keys rising = listed_in_order kind.Study institution rows rising
level_in_order institution rows Series keys rising = above_in_order kind.Series institution (key_above tags.study_instance_uid keys) rows rising
level_in_order institution rows Image keys rising = above_in_order kind.Image institution (key_above tags.series_instance_uid keys) rows rising

pub asked_in_order : (institution : List ℕ) (rows : List Row) (query : Query) → IsRising rows → AreInOrder (asked_records (of institution rows) query)
asked_in_order institution rows query rising = level_in_order institution rows query.level query.keys rising

-- ---- what is refused, and what others keep

refused_by : (records : List Record) (called : List ℕ) (q : Result Query ℕ) → (found_by records called q).status ≢ success
    → (found_by records called q).answers ≡ []
refused_by records called (Ok query) h = absurd (h refl)
refused_by records called (Err status) h = refl

pub none_refused : (records : List Record) (called : List ℕ) (message : Message) (syntax : Syntax) → (query_outcome records called message syntax).status ≢ success
    → (query_outcome records called message syntax).answers ≡ []
unfolding query_outcome
none_refused records called message syntax h = refused_by records called (message_query message syntax) h

-- behind no key is every record
found_of_all : (records : List Record) (called : List ℕ) (q : Result Query ℕ) → found_by records called q ≡ found_behind None records called q
unfolding answers_of_records answers_behind
found_of_all records called (Ok query) = refl
found_of_all records called (Err status) = refl

pub same_by_keys : (records : List Record) (called : List ℕ) (message : Message) (syntax : Syntax) (identifier : ElementList)
    → identifier_in message syntax ≡ Ok identifier → query_outcome records called message syntax ≡ keys_outcome_after None records called identifier
unfolding query_outcome message_query keys_outcome_after
same_by_keys records called message syntax identifier is =
    ap (λ (read : Result ElementList ℕ). found_by records called (identifier_query read)) is
    ∙ found_of_all records called (identifier_query (Ok identifier))

pub same_found : (own other : List ℕ) → other ≢ own → (edits : List Edit) (rows : List Row) → IsRising rows
    → (called : List ℕ) (message : Message) (syntax : Syntax)
    → query_outcome (of own (after (by other edits) rows)) called message syntax ≡ query_outcome (of own rows) called message syntax
same_found own other differ edits rows rising called message syntax =
    ap (λ (records : List Record). query_outcome records called message syntax) (others own other differ edits rows rising)

-- ---- what each answer tells

tells : (called : List ℕ) (query : Query) (part : ElementList) → TellsLevel called query.level (answer_elements called query part)
unfolding about_answers is_below
tells called query part =
    let level : Element = record { tag = tags.query_retrieve_level; vr = CS; value = Octets (padded_value CS (level_name query.level)) } in
    let title : Element = record { tag = tags.retrieve_ae_title; vr = AE; value = Octets (padded_value AE (without_spaces called)) } in
    let availability : Element = record { tag = tags.instance_availability; vr = CS; value = Octets (padded_value CS (codes "UNAVAILABLE")) } in
    record {
      level = ap element_octets (first_of_three part level title availability tags.query_retrieve_level refl);
      title = ap element_octets (second_of_three part level title availability tags.retrieve_ae_title refl refl refl);
      availability = ap element_octets (third_of_three part level title availability tags.instance_availability refl refl refl refl refl);
    }

tells_by : (called : List ℕ) (query : Query) (o : Option ElementList) (others : List ElementList) → AllByRecursion (TellsLevel called query.level) others
    → AllByRecursion (TellsLevel called query.level) (cons_option (option_map (answer_elements called query) o) others)
tells_by called query None others all = all
tells_by called query (Some part) others all = (tells called query part, all)

tells_all : (records : List Record) (called : List ℕ) (query : Query) (rs : List Record)
    → AllByRecursion (TellsLevel called query.level) (filter_map (record_answer records called query) rs)
tells_all records called query [] = tt
tells_all records called query (r ∷ rs) = grind (arith, tells_by, tells_all records called query rs)

pub each_tells : (records : List Record) (called : List ℕ) (query : Query) → AllByRecursion (TellsLevel called query.level) (answers_of_records records called query)
unfolding answers_of_records
each_tells records called query = tells_all records called query (asked_records records query)
