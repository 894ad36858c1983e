-- A record that is looked up by its unique key is the only one that is asked for with that key, and
-- the answers of the records that are looked at are those of all.
use Rattle.std.proofs.Common.{◌≡◌, ℕ, Bool, true, false, ◌||◌, ◌⊎◌, List, [], ◌∷◌, map, filter, Option, Some, None, option_map, inl, inr, refl, sym, ap, subst, ◌∙◌, if◌then◌else◌, arith}
use Rattle.std.specs.Global.{Vec}
use Rattle.std.specs.Option.{option_to_list}
use Rattle.std.specs.List.{AllByRecursion, list_any, filter_map, cons_option}
use Rattle.std.specs.List.Sorted.{IsStrictlySortedBy}
use Rattle.std.specs.Str.{bytes_eq}
use Rattle.std.specs.declared.cmp.Ordering.TheVariants.{Less}
use Rattle.std.specs.Ordering.{is_gt}
use Rattle.std.proofs.lemmas.Bool.{or_right}
use Rattle.std.proofs.lemmas.Slice.Eq.{bytes_eq-Decides}
use Rattle.dq_list.specs.Octets.{octets_of_vectors}
use Rattle.dq_list.specs.Among.{IsAmong}
use Rattle.dq_list.proofs.Among.{among_filter, filtered_from}
use Rattle.dq_vr.specs.Tags as tags
use Rattle.dq_dataset.specs.Tree.{ElementList}
use Rattle.dq_dataset.specs.View.{elements_of}
use Rattle.dq_dataset.specs.Editing.{merged_data_set}
use Rattle.dq_dataset.specs.Values.{element_at}
use Rattle.dq_dataset.proofs.KnownVrs.{HasKnownVr}
use Rattle.dq_match.specs.Matching.{fits}
use Rattle.dq_match.specs.Responses.{shown_data_set}
use Rattle.dq_match.specs.SeveralValues.{is_one_of_values}
use Rattle.dq_match.proofs.Answering.{given_skipped}
use Rattle.dq_tables.specs.declared.row.Kind.{Kind}
use Rattle.dq_tables.specs.declared.row.Kind.TheVariants as kind
use Rattle.dq_tables.specs.declared.row.Row.{Row}
use Rattle.dq_tables.specs.Rows.{Record, IsRising, octet_order, row_of, of}
use Rattle.dq_tables.specs.Lookups.{record_at, records_of, records_above}
use Rattle.dq_tables.specs.Records.{AreInOrder, data_set_of}
use Rattle.dq_tables.specs.Keys.{uid_at}
use Rattle.dq_tables.specs.Sound.{OwnEach, has_key}
use Rattle.dq_tables.specs.StudyChoices.{studies_among}
use Rattle.dq_tables.proofs.RecordLists.{listed_in_order, in_order_filter}
use Rattle.dq_tables.proofs.RisingLists.{one_list}
use Rattle.dq_archive.proofs.UniqueKeys.{only_named}
use Rattle.dq_archive.proofs.OwnRecords.{value_from}
use Rattle.dq_archive.proofs.PastRecords.{swapped}
use Rattle.dq_find.specs.declared.level.Level.{Level}
use Rattle.dq_find.specs.declared.level.Level.TheVariants.{Study, Series, Image}
use Rattle.dq_find.specs.declared.query.Query.{Query}
use Rattle.dq_find.specs.Levels.{kind_of, unique_key}
use Rattle.dq_find.specs.StudyChoice.{choice_in, is_asked}
use Rattle.dq_find.specs.ComputedKeys.{with_computed, computed_keys}
use Rattle.dq_find.specs.OpenSearches.{keys_behind}
use Rattle.dq_find.specs.Queries.{answer_elements, record_answer, records_asked, asked_records, records_behind, answers_behind}
use Rattle.dq_find.specs.Candidates.{own_values, names_records, has_one_of, query_candidates, is_looked_at, is_under, under, looked_up, named_record, named_rows}
use Rattle.dq_find.proofs.QueryLaws.{asked_from, asked_in_order}
use Rattle.dq_find.proofs.RowAnswers.{stays}
use Rattle.dq_find.proofs.AskedRecords.{has_own, EachAlone}
use Rattle.dq_find.proofs.AskedRows.{kept_all}
use Rattle.dq_find.proofs.NamedRecords.{unique_keys_are_uids, named_among}
use Rattle.dq_tables.proofs.TakenStudies.{DaysAreInOrder}
use Rattle.dq_find.proofs.ChosenStudies.{Stay, fit_is_chosen}
use Rattle.dq_find.proofs.Modalities.{IsInOrder, IsBefore}

-- a test, and then those behind a key
behind_filter : (after : Option (List ℕ)) (p : Record → Bool) (rs : List Record) → records_behind after (filter p rs) ≡ filter p (records_behind after rs)
behind_filter None p rs = refl
behind_filter (Some key) p rs = swapped (λ (r : Record). is_gt (octet_order r.key key)) p rs

either_way : {A : Type 0} (b : Bool) (x : A) → x ≡ (if b then x else x)
either_way true x = refl
either_way false x = refl

-- ---- the record that has a key

all_under : (level : Level) (keys : ElementList) (records : List Record)
    → records_asked records level keys ≡ filter (is_under level keys) (records_of (kind_of level) records)
unfolding records_asked records_above
all_under Study keys records = sym (kept_all (records_of kind.Study records))
all_under Series keys records = refl
all_under Image keys records = refl

one_under : (level : Level) (keys : ElementList) (o : Option Record) → filter (is_under level keys) (option_to_list o) ≡ option_to_list (under level keys o)
one_under level keys None = refl
one_under level keys (Some r) = grind arith

abbrev keyed : List ℕ → Record → Bool
keyed uid r = bytes_eq r.key uid

module _ (institution : List ℕ) (rows : List Row) (query : Query) (rising : IsRising rows) where
  abbrev own : List Record
  own = of institution rows

  abbrev asked : List Record
  asked = asked_records own query

  module _ (uid : List ℕ) where
    named_alone : filter (keyed uid) asked ≡ option_to_list (named_record own query uid)
    named_alone =
        ap (filter (keyed uid)) (all_under query.level query.keys own) ∙ swapped (keyed uid) (is_under query.level query.keys) (records_of (kind_of query.level) own)
        ∙ ap (filter (is_under query.level query.keys)) (only_named (kind_of query.level) uid own (listed_in_order (kind_of query.level) institution rows rising))
        ∙ one_under query.level query.keys (record_at (kind_of query.level) uid own)

    named_gives : (r : Record) → named_record own query uid ≡ Some r → IsAmong r asked × (r.key ≡ uid)
    named_gives r is =
        let here : IsAmong r (filter (keyed uid) asked) =
        subst (λ (rs : List Record). IsAmong r rs) (sym (named_alone ∙ ap option_to_list is)) (inl refl) in
        let kept = filtered_from (keyed uid) r asked here in
        (kept.0, (bytes_eq-Decides r.key uid).0 kept.1)

    only_of : (r : Record) (o : Option Record) → IsAmong r (option_to_list o) → o ≡ Some r
    only_of r None h = absurd h
    only_of r (Some s) (inl e) = ap (λ (t : Record). Some t) e
    only_of r (Some s) (inr h) = absurd h

    gives_named : (r : Record) → IsAmong r asked → r.key ≡ uid → named_record own query uid ≡ Some r
    gives_named r h key =
        only_of r (named_record own query uid)
        (subst (λ (rs : List Record). IsAmong r rs) named_alone (among_filter (keyed uid) r asked h ((bytes_eq-Decides r.key uid).1 key)))

  -- each of the records that are looked at is named by its key
  named_each : (rs : List Record) → ((r : Record) → IsAmong r rs → IsAmong r asked) → filter_map (named_record own query) (map (λ (r : Record). r.key) rs) ≡ rs
  named_each [] within = refl
  named_each (r ∷ rs) within =
      rw (gives_named r.key r (within r (inl refl)) refl) (ap (λ l. r ∷ l) (named_each rs (λ s h. within s (inr h))))

  pub named_again : filter_map (named_record own query) (map (λ (r : Record). r.key) (query_candidates own query)) ≡ query_candidates own query
  named_again = named_each (query_candidates own query) (λ r h. (filtered_from (is_looked_at query) r asked h).0)

  -- ---- what some keys name

  abbrev all_named : List (List ℕ) → List Record
  all_named uids = filter_map (named_record own query) uids

  each_step : (P : Record → Type 0) (o : Option Record) (later : List Record) → ((r : Record) → o ≡ Some r → P r) → AllByRecursion P later
      → AllByRecursion P (cons_option o later)
  each_step P None later here rest = rest
  each_step P (Some r) later here rest = (here r refl, rest)

  each_after : (uid : List ℕ) (uids : List (List ℕ)) → AllByRecursion (IsBefore uid) uids
      → AllByRecursion (λ (s : Record). octet_order uid s.key ≡ Less) (all_named uids)
  each_after uid [] before = tt
  each_after uid (next ∷ uids) before =
      each_step (λ (s : Record). octet_order uid s.key ≡ Less) (named_record own query next) (all_named uids)
      (λ r is. ap (octet_order uid) (named_gives next r is).1 ∙ before.0) (each_after uid uids before.1)

  in_order_step : (uid : List ℕ) (o : Option Record) (later : List Record) → ((r : Record) → o ≡ Some r → r.key ≡ uid)
      → AllByRecursion (λ (s : Record). octet_order uid s.key ≡ Less) later → AreInOrder later → AreInOrder (cons_option o later)
  in_order_step uid None later key after ordered = ordered
  in_order_step uid (Some r) later key after ordered =
      (subst (λ (k : List ℕ). AllByRecursion (λ (s : Record). octet_order k s.key ≡ Less) later) (sym (key r refl)) after, ordered)

  named_in_order : (uids : List (List ℕ)) → IsInOrder uids → AreInOrder (all_named uids)
  unfolding IsStrictlySortedBy
  named_in_order [] ordered = tt
  named_in_order (uid ∷ uids) ordered =
      in_order_step uid (named_record own query uid) (all_named uids) (λ r is. (named_gives uid r is).1) (each_after uid uids ordered.0)
      (named_in_order uids ordered.1)

  among_step : (r : Record) (o : Option Record) (later : List Record) → IsAmong r (cons_option o later) → (o ≡ Some r) ⊎ IsAmong r later
  among_step r None later h = inr h
  among_step r (Some s) later (inl e) = inl (ap (λ (t : Record). Some t) e)
  among_step r (Some s) later (inr h) = inr h

  step_among : (r : Record) (o : Option Record) (later : List Record) → (o ≡ Some r) ⊎ IsAmong r later → IsAmong r (cons_option o later)
  step_among r None later (inl e) = absurd cc
  step_among r None later (inr h) = h
  step_among r (Some s) later (inl e) = inl cc
  step_among r (Some s) later (inr h) = inr h

  from_named : (r : Record) (uids : List (List ℕ)) → IsAmong r (all_named uids) → IsAmong r asked × IsAmong r.key uids
  from_named r [] h = absurd h
  from_named r (uid ∷ uids) h =
      by_step (among_step r (named_record own query uid) (all_named uids) h) (λ k. from_named r uids k)
    where
      by_step : (named_record own query uid ≡ Some r) ⊎ IsAmong r (all_named uids)
          → (IsAmong r (all_named uids) → IsAmong r asked × IsAmong r.key uids)
          → IsAmong r asked × IsAmong r.key (uid ∷ uids)
      by_step (inl is) rest = (let gives = named_gives uid r is in (gives.0, inl (sym gives.1)))
      by_step (inr k) rest = (let found = rest k in (found.0, inr found.1))

  to_named : (r : Record) (uids : List (List ℕ)) → IsAmong r asked → IsAmong r.key uids → IsAmong r (all_named uids)
  to_named r [] h key = absurd key
  to_named r (uid ∷ uids) h (inl e) =
      step_among r (named_record own query uid) (all_named uids) (inl (gives_named uid r h (sym e)))
  to_named r (uid ∷ uids) h (inr key) =
      step_among r (named_record own query uid) (all_named uids) (inr (to_named r uids h key))

  one_of_from : (key : List ℕ) (uids : List (List ℕ)) → list_any (λ uid. bytes_eq key uid) uids ≡ true → IsAmong key uids
  one_of_from key [] h = absurd cc
  one_of_from key (uid ∷ uids) h = by_first (bytes_eq key uid) refl h (one_of_from key uids)
    where
      by_first : (b : Bool) → bytes_eq key uid ≡ b → (b || list_any (λ uid. bytes_eq key uid) uids) ≡ true
          → (list_any (λ uid. bytes_eq key uid) uids ≡ true → IsAmong key uids) → IsAmong key (uid ∷ uids)
      by_first true is h rest = inl (sym ((bytes_eq-Decides key uid).0 is))
      by_first false is h rest = inr (rest h)

  one_of_to : (key : List ℕ) (uids : List (List ℕ)) → IsAmong key uids → list_any (λ uid. bytes_eq key uid) uids ≡ true
  one_of_to key [] h = absurd h
  one_of_to key (uid ∷ uids) (inl e) = (λ i. (bytes_eq-Decides key uid).1 (sym e) i || list_any (λ uid. bytes_eq key uid) uids)
  one_of_to key (uid ∷ uids) (inr h) = or_right (bytes_eq key uid) _ (one_of_to key uids h)

  -- the keys in their order name the records that have one of them
  named_have_one : (uids : List (List ℕ)) → IsInOrder uids → all_named uids ≡ filter (has_one_of uids) asked
  named_have_one uids ordered =
      one_list (all_named uids) (filter (has_one_of uids) asked) (named_in_order uids ordered)
      (in_order_filter (has_one_of uids) asked (asked_in_order institution rows query rising))
      (λ r. (
        λ h. (let found = from_named r uids h in among_filter (has_one_of uids) r asked found.0 (one_of_to r.key uids found.1)),
        λ h. (let kept = filtered_from (has_one_of uids) r asked h in to_named r uids kept.0 (one_of_from r.key uids kept.1)),
      ))

  key_step : (key uid : List ℕ) (o : Option Record) (later : List Record) → ((r : Record) → o ≡ Some r → r.key ≡ uid)
      → filter (λ (r : Record). is_gt (octet_order r.key key)) (cons_option o later)
      ≡ (if is_gt (octet_order uid key) then cons_option o (filter (λ (r : Record). is_gt (octet_order r.key key)) later)
      else filter (λ (r : Record). is_gt (octet_order r.key key)) later)
  key_step key uid None later is = either_way (is_gt (octet_order uid key)) _
  key_step key uid (Some r) later is =
      ap (λ (k : List ℕ). if is_gt (octet_order k key) then r ∷ filter (λ (r : Record). is_gt (octet_order r.key key)) later
      else filter (λ (r : Record). is_gt (octet_order r.key key)) later) (is r refl)

  named_step : (uid : List ℕ) (uids : List (List ℕ)) (b : Bool)
      → filter_map (named_record own query) (if b then uid ∷ uids else uids)
      ≡ (if b then cons_option (named_record own query uid) (all_named uids) else all_named uids)
  named_step uid uids true = refl
  named_step uid uids false = refl

  -- the keys behind a key name the records behind it
  pub named_behind : (after : Option (List ℕ)) (uids : List (List ℕ)) → all_named (keys_behind after uids) ≡ records_behind after (all_named uids)
  named_behind None uids = refl
  named_behind (Some key) [] = refl
  named_behind (Some key) (uid ∷ uids) =
      let behind = is_gt (octet_order uid key) in
      named_step uid (keys_behind (Some key) uids) behind
      ∙ ap (λ (later : List Record). if behind then cons_option (named_record own query uid) later else later) (named_behind (Some key) uids)
      ∙ sym (key_step key uid (named_record own query uid) (all_named uids) (λ r is. (named_gives uid r is).1))

-- the same of rows
rows_step : (institution : List ℕ) (o : Option Record) (later : List Record)
    → cons_option (option_map (row_of institution) o) (map (row_of institution) later) ≡ map (row_of institution) (cons_option o later)
rows_step institution None later = refl
rows_step institution (Some r) later = refl

pub rows_are : (institution : List ℕ) (records : List Record) (query : Query) (uids : List (List ℕ))
    → named_rows institution records query uids ≡ map (row_of institution) (filter_map (named_record records query) uids)
rows_are institution records query [] = refl
rows_are institution records query (uid ∷ uids) = grind (arith, rows_step, rows_are institution records query uids)

each_octets : (uid : List ℕ) (uids : List (Vec ℕ)) → AllByRecursion (λ (v : Vec ℕ). IsBefore uid v.items) uids → AllByRecursion (IsBefore uid) (octets_of_vectors uids)
each_octets uid [] before = tt
each_octets uid (next ∷ uids) before = (before.0, each_octets uid uids before.1)

in_octets : (uids : List (Vec ℕ)) → IsStrictlySortedBy (λ (a b : Vec ℕ). octet_order a.items b.items) uids → IsInOrder (octets_of_vectors uids)
unfolding IsStrictlySortedBy
in_octets [] ordered = tt
in_octets (uid ∷ uids) ordered = (each_octets uid.items uids ordered.0, in_octets uids ordered.1)

pub named_candidates : (institution : List ℕ) (rows : List Row) (query : Query) (uids : List (Vec ℕ)) → IsRising rows
    → IsStrictlySortedBy (λ (a b : Vec ℕ). octet_order a.items b.items) uids
    → ((value : List ℕ) → is_one_of_values value (octets_of_vectors uids) ≡ is_one_of_values value (own_values query))
    → names_records (own_values query) ≡ true
    → filter_map (named_record (of institution rows) query) (octets_of_vectors uids) ≡ query_candidates (of institution rows) query
named_candidates institution rows query uids rising ordered same looked =
    let records = asked_records (of institution rows) query in
    named_have_one institution rows query rising (octets_of_vectors uids) (in_octets uids ordered)
    ∙ (λ i. filter (λ (r : Record). same r.key i) records)
    ∙ ap (λ (b : Bool). filter (λ (r : Record). if b then has_one_of (own_values query) r else is_asked query.level query.keys r) records) (sym looked)

-- a row that was looked up
row_under : (institution : List ℕ) (level : Level) (keys : ElementList) (o : Option Record)
    → looked_up level keys (option_map (row_of institution) o) ≡ option_map (row_of institution) (under level keys o)
row_under institution level keys None = refl
row_under institution level keys (Some r) = grind arith

pub looked_up_is : (institution : List ℕ) (records : List Record) (query : Query) (uid : List ℕ) (kind : Kind) (found given : Option Row)
    → kind ≡ kind_of query.level → found ≡ option_map (row_of institution) (record_at kind uid records)
    → given ≡ looked_up query.level query.keys found → given ≡ option_map (row_of institution) (named_record records query uid)
looked_up_is institution records query uid kind found given is found_is given_is =
    given_is ∙ ap (looked_up query.level query.keys) (found_is ∙ ap (λ (k : Kind). option_map (row_of institution) (record_at k uid records)) is)
    ∙ row_under institution query.level query.keys (record_at (kind_of query.level) uid records)

-- ---- no other matches

-- the level's own unique key of a record's data set is its key
key_is : (level : Level) (r : Record) → r.kind ≡ kind_of level → has_key r.kind r.key (data_set_of r.octets) ≡ true
    → uid_at (unique_key level) (data_set_of r.octets) ≡ Some r.key
unfolding has_key
key_is Study r is own = value_from _ r.key (ap (λ (k : Kind). has_key k r.key (data_set_of r.octets)) (sym is) ∙ own)
key_is Series r is own = value_from _ r.key (ap (λ (k : Kind). has_key k r.key (data_set_of r.octets)) (sym is) ∙ own)
key_is Image r is own = value_from _ r.key (ap (λ (k : Kind). has_key k r.key (data_set_of r.octets)) (sym is) ∙ own)

unique_key_stays : (records : List Record) (level : Level) (key : List ℕ) (held : ElementList)
    → element_at (unique_key level) (merged_data_set held (computed_keys records level key)) ≡ element_at (unique_key level) held
unique_key_stays records Study key held = stays records Study key held tags.study_instance_uid refl
unique_key_stays records Series key held = stays records Series key held tags.series_instance_uid refl
unique_key_stays records Image key held = stays records Image key held tags.sop_instance_uid refl

module _ (institution : List ℕ) (rows : List Row) (called : List ℕ) (query : Query) (rising : IsRising rows) (each_own : OwnEach rows)
    (known : AllByRecursion HasKnownVr (elements_of query.keys)) (alone : EachAlone query.keys) (days : DaysAreInOrder) where
  not_named_by : (r : Record) (b : Bool) → IsAmong r (asked_records (of institution rows) query) → names_records (own_values query) ≡ true
      → has_one_of (own_values query) r ≡ false → fits query.keys (with_computed (of institution rows) query.level r) ≡ b
      → option_map (answer_elements called query) (if b then Some (shown_data_set query.keys (with_computed (of institution rows) query.level r)) else None) ≡ None
  not_named_by r true h named other is =
      let from = asked_from query.level query.keys r (of institution rows) h in
      let own = has_own institution rows r each_own from.0 in
      let held = data_set_of r.octets in
      let among = named_among (unique_key query.level) query.keys held (with_computed (of institution rows) query.level r) (own_values query) r.key
      (unique_keys_are_uids query.level) known own.known (unique_key_stays (of institution rows) query.level r.key held) refl named
      (key_is query.level r from.1 own.key) (alone (with_computed (of institution rows) query.level r) is) in
      absurd (cc (sym other ∙ one_of_to institution rows query rising r.key (own_values query) among))
  not_named_by r false h named other is = refl

  not_chosen_by : (r : Record) (level : Level) (b : Bool) → query.level ≡ level → IsAmong r (asked_records (of institution rows) query)
      → is_asked level query.keys r ≡ false → fits query.keys (with_computed (of institution rows) query.level r) ≡ b
      → option_map (answer_elements called query) (if b then Some (shown_data_set query.keys (with_computed (of institution rows) query.level r)) else None) ≡ None
  not_chosen_by r Study true level h other is =
      let from = asked_from query.level query.keys r (of institution rows) h in
      let own = has_own institution rows r each_own from.0 in
      let held = data_set_of r.octets in
      let whole = with_computed (of institution rows) query.level r in
      let kind : r.kind ≡ kind.Study = from.1 ∙ ap kind_of level in
      let at : merged_data_set held (computed_keys (of institution rows) Study r.key) ≡ whole =
      ap (λ (l : Level). merged_data_set held (computed_keys (of institution rows) l r.key)) (sym level) in
      let stay = subst (Stay held) at (record {
        patient = stays (of institution rows) Study r.key held tags.patient_id refl;
        date = stays (of institution rows) Study r.key held tags.study_date refl;
      }) in
      absurd (cc (sym other ∙ fit_is_chosen days query.keys whole r kind known own.known stay (alone whole is)))
  not_chosen_by r Study false level h other is = refl
  not_chosen_by r Series b level h other is = absurd cc
  not_chosen_by r Image b level h other is = absurd cc

  not_looked_at : (r : Record) (b : Bool) → names_records (own_values query) ≡ b → IsAmong r (asked_records (of institution rows) query)
      → (if b then has_one_of (own_values query) r else is_asked query.level query.keys r) ≡ false → record_answer (of institution rows) called query r ≡ None
  not_looked_at r false is h other = not_chosen_by r query.level (fits query.keys (with_computed (of institution rows) query.level r)) refl h other refl
  not_looked_at r true is h other =
      not_named_by r (fits query.keys (with_computed (of institution rows) query.level r)) h is other refl

  among_asked : (after : Option (List ℕ)) (r : Record) → IsAmong r (records_behind after (asked_records (of institution rows) query))
      → IsAmong r (asked_records (of institution rows) query)
  among_asked None r h = h
  among_asked (Some key) r h = (filtered_from (λ (s : Record). is_gt (octet_order s.key key)) r (asked_records (of institution rows) query) h).0

  -- none is passed over that answers
  pub answers_of_candidates : (after : Option (List ℕ))
      → filter_map (record_answer (of institution rows) called query) (records_behind after (query_candidates (of institution rows) query))
      ≡ answers_behind after (of institution rows) called query
  unfolding answers_behind
  answers_of_candidates after =
      let asked = asked_records (of institution rows) query in
      ap (filter_map (record_answer (of institution rows) called query)) (behind_filter after (is_looked_at query) asked)
      ∙ given_skipped (record_answer (of institution rows) called query) (is_looked_at query) (records_behind after asked)
      (λ r h other. not_looked_at r (names_records (own_values query)) refl (among_asked after r h) other)

-- where none are named, the studies that are chosen are looked at
pub chosen_candidates : (records : List Record) (query : Query) → query.level ≡ Study → names_records (own_values query) ≡ false
    → studies_among (choice_in query.keys) records ≡ query_candidates records query
unfolding studies_among records_asked
chosen_candidates records query is none =
    ap (λ (l : Level). filter (is_asked l query.keys) (records_asked records l query.keys)) (sym is)
    ∙ ap (λ (b : Bool). filter (λ (r : Record). if b then has_one_of (own_values query) r else is_asked query.level query.keys r) (asked_records records query))
    (sym none)
