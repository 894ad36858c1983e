-- Studies that are asked nothing, some of which are passed over.
use Rattle.std.proofs.Common.{◌≡◌, ℕ, ◌+◌, true, cond, List, [], ◌∷◌, ◌++◌, Some, None, map, filter, take, drop, option_map, refl, sym, ap, subst, ◌∙◌}
use Rattle.std.specs.List.{filter_map}
use Rattle.std.proofs.lemmas.List.{take-append-drop, drop-drop, drop-map}
use Rattle.dq_dataset.specs.Tree.{ElementList}
use Rattle.dq_match.specs.Matching.{fits}
use Rattle.dq_match.specs.Responses.{shown_data_set}
use Rattle.dq_tables.specs.Rows.{Record, row_of}
use Rattle.dq_tables.specs.Records.{AreInOrder}
use Rattle.dq_find.specs.declared.query.Query.{Query}
use Rattle.dq_find.specs.ComputedKeys.{with_computed}
use Rattle.dq_find.specs.OpenSearches.{candidates_left, last_key, under_after}
use Rattle.dq_find.specs.Queries.{answer_elements, record_answer, asked_records}
use Rattle.dq_find.proofs.SearchPages.{behind, split_behind}

module _ (records : List Record) (called : List ℕ) (query : Query) (fit : (held : ElementList) → fits query.keys held ≡ true) where
  told : Record → ElementList
  told r = answer_elements called query (shown_data_set query.keys (with_computed records query.level r))

  each_told : (r : Record) → record_answer records called query r ≡ Some (told r)
  unfolding told
  each_told r =
      let held = with_computed records query.level r in
      ap (λ b. option_map (answer_elements called query) (cond b (Some (shown_data_set query.keys held)) None)) (fit held)

  all_told : (some : List Record) → filter_map (record_answer records called query) some ≡ map told some
  all_told [] = refl
  all_told (r ∷ others) = rw (each_told r) (ap (λ l. told r ∷ l) (all_told others))

  -- each of them answers, so behind one of them are the answers behind its own
  module _ (ordered : AreInOrder (asked_records records query)) (institution : List ℕ) (before : ℕ) where
    abbrev studies : List Record
    studies = asked_records records query

    abbrev one : List Record
    one = take 1 (drop before studies)

    next_dropped : {rest : List Record} → drop before studies ≡ rest → drop (before + 1) studies ≡ drop 1 rest
    next_dropped is = sym (drop-drop 1 before studies) ∙ ap (drop 1) is

    behind_one : (rest : List Record) → drop before studies ≡ rest
        → candidates_left records query (under_after (last_key (map (row_of institution) (take 1 rest)))) ≡ drop (before + 1) studies
    behind_one [] is = sym (next_dropped is)
    behind_one (r ∷ later) is =
        let whole : studies ≡ take before studies ++ (r ∷ later) = sym (take-append-drop before studies) ∙ ap (λ l. take before studies ++ l) is in
        ap (filter (behind r.key)) whole ∙ split_behind (take before studies) r later (subst AreInOrder whole ordered)
        ∙ sym (next_dropped is)

    pub skipped : filter_map (record_answer records called query) (candidates_left records query (under_after (last_key (map (row_of institution) one))))
        ≡ drop (before + 1) (filter_map (record_answer records called query) studies)
    skipped =
        ap (filter_map (record_answer records called query)) (behind_one (drop before studies) refl)
        ∙ all_told (drop (before + 1) studies) ∙ sym (drop-map told (before + 1) studies) ∙ ap (drop (before + 1)) (sym (all_told studies))
