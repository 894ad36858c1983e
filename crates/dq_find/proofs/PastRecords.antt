-- The records that there were, as those of rows.
use Rattle.std.proofs.Common.{◌≡◌, ◌∙◌, ℕ, Bool, true, not, List, Option, None, map, refl, ap, subst}
use Rattle.std.specs.Global.{Vec}
use Rattle.std.specs.List.{filter, filter_map}
use Rattle.std.specs.List.Sorted.{IsStrictlySortedBy}
use Rattle.dq_dataset.specs.Facts.{IsDataSet}
use Rattle.dq_dataset.proofs.KnownVrs.{facts_give_known_vrs}
use Rattle.dq_list.specs.Octets.{octets_of_vectors}
use Rattle.dq_match.specs.SeveralValues.{is_one_of_values}
use Rattle.dq_tables.specs.declared.row.Kind.{Kind}
use Rattle.dq_tables.specs.Lookups.{records_above}
use Rattle.dq_tables.specs.Records.{AreInOrder}
use Rattle.dq_tables.proofs.RecordLists.{above_in_order}
use Rattle.dq_tables.specs.declared.row.Row.{Row}
use Rattle.dq_tables.specs.Rows.{Record, IsRising, octet_order, of, record_of}
use Rattle.dq_tables.specs.Sound.{IsSound, is_own_row}
use Rattle.dq_tables.proofs.Lens.{of-filter}
use Rattle.dq_tables.proofs.Order.{each_filtered, IsRising-filter}
use Rattle.dq_tables.proofs.TakenStudies.{DaysAreInOrder}
use Rattle.dq_archive.specs.declared.additions.Addition.{Addition}
use Rattle.dq_archive.specs.Additions.{is_later, without}
use Rattle.dq_find.specs.declared.query.Query.{Query}
use Rattle.dq_find.specs.Candidates.{own_values, names_records, query_candidates, named_record}
use Rattle.dq_find.specs.OpenSearches.{keys_behind}
use Rattle.dq_find.specs.Queries.{record_answer, asked_records, records_behind, answers_behind}
use Rattle.dq_find.proofs.AskedRecords.{EachAlone}
use Rattle.dq_find.proofs.QueryLaws.{asked_in_order}
use Rattle.dq_find.proofs.NamedLookups.{named_candidates, named_again, named_behind, answers_of_candidates}

module _ (later : List Addition) (institution : List ℕ) (rows : List Row) where
  abbrev pub was : List Record
  was = without later (of institution rows)

  abbrev stays : Row → Bool
  stays row = not (is_later later (record_of row))

  pub rows_then : of institution (filter stays rows) ≡ was
  unfolding without
  rows_then = of-filter institution stays (λ (r : Record). not (is_later later r)) (λ row same. refl) rows

  -- the candidates that some UIDs name
  pub named_then : (query : Query) (uids : List (Vec ℕ)) → IsRising rows
      → IsStrictlySortedBy (λ (a b : Vec ℕ). octet_order a.items b.items) uids
      → ((value : List ℕ) → is_one_of_values value (octets_of_vectors uids) ≡ is_one_of_values value (own_values query))
      → names_records (own_values query) ≡ true
      → filter_map (named_record was query) (octets_of_vectors uids) ≡ query_candidates was query
  named_then query uids rising ordered same looked =
      subst (λ (records : List Record). filter_map (named_record records query) (octets_of_vectors uids) ≡ query_candidates records query)
      rows_then (named_candidates institution (filter stays rows) query uids (IsRising-filter stays rows rising) ordered same looked)

  -- and that are named by their own keys
  pub named_again_then : (query : Query) → IsRising rows
      → filter_map (named_record was query) (map (λ (r : Record). r.key) (query_candidates was query)) ≡ query_candidates was query
  named_again_then query rising =
      subst (λ (records : List Record). filter_map (named_record records query) (map (λ (r : Record). r.key) (query_candidates records query)) ≡ query_candidates records query)
      rows_then (named_again institution (filter stays rows) query (IsRising-filter stays rows rising))

  -- those that are asked for, and those under another, are in order
  pub asked_then : (query : Query) → IsRising rows → AreInOrder (asked_records was query)
  asked_then query rising =
      subst (λ (records : List Record). AreInOrder (asked_records records query)) rows_then
      (asked_in_order institution (filter stays rows) query (IsRising-filter stays rows rising))

  pub above_then : (kind : Kind) (above : List ℕ) → IsRising rows → AreInOrder (records_above kind above was)
  above_then kind above rising =
      subst (λ (records : List Record). AreInOrder (records_above kind above records)) rows_then
      (above_in_order kind institution above (filter stays rows) (IsRising-filter stays rows rising))

  -- the answers of those that some keys name, of those behind a key
  pub named_then_answered : (called : List ℕ) (query : Query) (after : Option (List ℕ)) (keys : List (List ℕ))
      → filter_map (named_record was query) keys ≡ query_candidates was query
      → IsSound rows → IsDataSet query.keys → EachAlone query.keys → DaysAreInOrder
      → filter_map (record_answer was called query) (filter_map (named_record was query) (keys_behind after keys)) ≡ answers_behind after was called query
  named_then_answered called query after keys named sound facts alone days =
      let rising = IsRising-filter stays rows sound.rising in
      let own = each_filtered (λ (row : Row). is_own_row row ≡ true) stays rows sound.own in
      subst (λ (records : List Record). filter_map (named_record records query) keys ≡ query_candidates records query
      → filter_map (record_answer records called query) (filter_map (named_record records query) (keys_behind after keys)) ≡ answers_behind after records called query)
      rows_then
      (λ is. ap (filter_map (record_answer (of institution (filter stays rows)) called query))
      (named_behind institution (filter stays rows) query rising after keys ∙ ap (records_behind after) is)
      ∙ answers_of_candidates institution (filter stays rows) called query rising own (facts_give_known_vrs 16 None query.keys facts) alone days after)
      named
