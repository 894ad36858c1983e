-- From the clause of a call to the rows that it reads.
use Rattle.std.proofs.Common.{◌≡◌, ℕ, min, slice_index_or, pos, Bool, true, false, not, ◌&&◌, List, [], ◌∷◌, None, Some, Option, map, filter, take, drop, length, slice_get, refl, sym, ◌∙◌, ap, subst, arith}
use Rattle.std.specs.List.{AllByRecursion}
use Rattle.std.specs.List.Sorted.{IsPermutation}
use Rattle.std.specs.Str.{bytes_eq}
use Rattle.std.specs.declared.cmp.Ordering.TheVariants.{Less, Equal}
use Rattle.std.proofs.lemmas.Cmp.{tied_itself}
use Rattle.std.proofs.lemmas.List.Sorted.{length_permutation}
use Rattle.std.proofs.lemmas.Map.Text.{is_eq-slice_cmp}
use Rattle.std.proofs.lemmas.Slice.Eq.{bytes_eq-Decides}
use Rattle.std.proofs.lemmas.Bool.{and_parts}
use Rattle.std.proofs.lemmas.List.{take-map, drop-map}
use Rattle.sqlite_value.specs.declared.value.Value.{Value}
use Rattle.sqlite_value.specs.declared.value.Value.TheVariants.{Int, Text, Blob, Null}
use Rattle.sqlite_value.specs.Order.{Row as Values, column, value_cmp}
use Rattle.sqlite_schema.specs.declared.command.Command.TheVariants.{Select}
use Rattle.sqlite_value.specs.declared.keys.Key.{Key}
use Rattle.sqlite_sql.specs.Aggregate.{count as stored_count}
use Rattle.sqlite_sql.specs.Ops.{binary}
use Rattle.sqlite_sql.specs.Term.{Term, col, eval, eval_all}
use Rattle.sqlite_sql.specs.Query.{Query, Output, IsAnswer}
use Rattle.sqlite_sql.specs.Program.{overlay}
use Rattle.sqlite.specs.Values.{bound_value}
use Rattle.sqlite.specs.State.{State, Shown}
use Rattle.sqlite.proofs.Callers.{reads_as, one_permutation}
use Rattle.dq_tables.specs.declared.row.Kind.{Kind}
use Rattle.dq_tables.specs.declared.row.Kind.TheVariants.{Entry}
use Rattle.dq_tables.specs.declared.row.Row.{Row}
use Rattle.dq_tables.specs.Rows.{octet_order, RowPlace, place, number_of_kind, IsRising, row_place_of, row_place_order}
use Rattle.std.specs.Ordering.{is_gt}
use Rattle.dq_tables.specs.Lookups.{same_kind, is_of_kind, row_at, rows_of, rows_above, rows_after, rows_behind, waiting_entries}
use Rattle.dq_tables.proofs.InOrder.{is_eq_nat}
use Rattle.dq_tables.proofs.RecordLists.{one_kind}
use Rattle.dq_tables.proofs.Order.{rows_total, each_passed, filter_all, IsRising-filter, both_tests}
use Rattle.dq_sql.specs.declared.version.Version.{Version}
use Rattle.dq_sql.specs.declared.version.Version.TheVariants.{One, Two}
use Rattle.dq_sql.specs.Schema.{schema_of}
use Rattle.dq_sql.specs.Cells.{flag}
use Rattle.dq_sql.specs.Tie.{row_of_cells, IsKeptRow, as_unstarted}
use Rattle.dq_sql.specs.RowReads.{ShowsNoWrite, HoldsOf, Shows, kept_shown, numbers_shown, IsCount, selected_columns, key_or_number, row_shown}
use Rattle.dq_sql.proofs.Queries.{Means, selecting, of_page, of_tests, at_tests, after_tests, above_tests, above_after_tests, waiting_tests, shown_columns, by_id, row_text, of_text, window_text, after_text, above_text, above_after_text, waiting_text, row_means, of_means, window_means, after_means, above_means, above_after_means, waiting_means, count_text, count_above_text, count_means, count_above_means, all_text, all_columns, by_place, all_means, version_text, version_means}
use Rattle.dq_sql.proofs.SelectAnswers.{with_row, passes, chosen, selection, selection_rows, unlimited, without_limit, limited_to}
use Rattle.dq_sql.proofs.FoundRows.{found_rows, listed_rows}
use Rattle.dq_sql.proofs.CountQueries.{count_answer, size_found}
use Rattle.dq_sql.proofs.RowsByPlace.{first_kept}
use Rattle.dq_sql.proofs.WhereTests.{equals, equals-Int, equals-Text, equals-Blob, is_behind, is_behind-Blob}
use Rattle.dq_sql.proofs.Silent.{row_silent, of_silent, window_silent, after_silent, above_silent, above_after_silent, waiting_silent, count_silent, count_above_silent, all_one_silent, all_two_silent, version_silent}
use Rattle.dq_sql.proofs.ReadOnlyQueries.{shown_unchanged}

pub answer_of : (version : Version) (text : List ℕ) (q : Query) → Means version text q → (params : Values) (old new : State) → old.now.schema ≡ schema_of version
    → (answer : List Values) → Shown text params old new answer → IsAnswer q (overlay old.now.trees []) params answer
answer_of version text q m params old new has answer h =
    (reads_as text params old new (schema_of version) has (Select (record { lets = []; body = q }) m.names) m.is m.plain m.unlisted answer h).answer Null

-- ---- what WHERE tests

abbrev pub of_params : Kind → List ℕ → Values → Values
of_params kind inst more = Int (pos (number_of_kind kind)) ∷ Text inst ∷ more

pub kind_test : (v : Value) (a b : Kind) → v ≡ Int (pos (number_of_kind a)) → equals v (Int (pos (number_of_kind b))) ≡ same_kind a b
kind_test v a b e = ap (λ w. equals w (Int (pos (number_of_kind b)))) e ∙ equals-Int (number_of_kind a) (number_of_kind b) ∙ is_eq_nat (number_of_kind a) (number_of_kind b)

pub text_test : (v : Value) (s t : List ℕ) → v ≡ Text s → equals v (Text t) ≡ bytes_eq s t
text_test v s t e = ap (λ w. equals w (Text t)) e ∙ equals-Text s t ∙ is_eq-slice_cmp s t

pub blob_test : (v : Value) (s t : List ℕ) → v ≡ Blob s → equals v (Blob t) ≡ bytes_eq s t
blob_test v s t e = ap (λ w. equals w (Blob t)) e ∙ equals-Blob s t ∙ is_eq-slice_cmp s t

-- behind a key, or behind a number where there is none
abbrev pub is_beyond : Option (List ℕ) → Row → Bool
is_beyond None row = true
is_beyond (Some key) row = is_gt (octet_order row.key key)

every : (rows : List Row) → rows ≡ filter (λ (row : Row). true) rows
every [] = refl
every (row ∷ rows) = ap (λ (l : List Row). row ∷ l) (every rows)

beyond_rows : (after : Option (List ℕ)) (rows : List Row) → rows_behind after rows ≡ filter (is_beyond after) rows
beyond_rows None rows = every rows
beyond_rows (Some key) rows = refl

beyond_number : (s : List ℕ) → is_behind (Blob s) (Int (pos 0)) ≡ true
unfolding binary value_cmp
beyond_number s = refl

beyond_test : (v : Value) (after : Option (List ℕ)) (row : Row) → v ≡ Blob row.key → is_behind v (key_or_number after) ≡ is_beyond after row
beyond_test v None row e = ap (λ w. is_behind w (Int (pos 0))) e ∙ beyond_number row.key
beyond_test v (Some key) row e = ap (λ w. is_behind w (Blob key)) e ∙ is_behind-Blob row.key key

-- values are bound as they are
pub bound_key : (o : Option (List ℕ)) → bound_value (key_or_number o) ≡ key_or_number o
bound_key None = refl
bound_key (Some key) = refl

two : (a b : Bool) → (a && (b && true)) ≡ (a && b)
two true true = refl
two true false = refl
two false b = refl

pub three : (a b c : Bool) → (a && (b && (c && true))) ≡ ((a && b) && c)
three true true true = refl
three true true false = refl
three true false c = refl
three false b c = refl

four : (a b c d : Bool) → (a && (b && (c && (d && true)))) ≡ (((a && b) && c) && d)
four true true true true = refl
four true true true false = refl
four true true false d = refl
four true false c d = refl
four false b c d = refl

pub of_finds : (kind : Kind) (inst : List ℕ) (more r : Values) → IsKeptRow r → passes of_tests (of_params kind inst more) r ≡ is_of_kind kind inst (row_of_cells r)
of_finds kind inst more r h =
    rw (kind_test (column r 1) (row_of_cells r).kind kind h.kind, text_test (column r 2) (row_of_cells r).inst inst h.inst)
    (two (same_kind (row_of_cells r).kind kind) (bytes_eq (row_of_cells r).inst inst))

at_finds : (kind : Kind) (inst key : List ℕ) (r : Values) → IsKeptRow r
    → passes at_tests (of_params kind inst (Blob key ∷ [])) r ≡ (is_of_kind kind inst (row_of_cells r) && bytes_eq (row_of_cells r).key key)
at_finds kind inst key r h =
    rw (kind_test (column r 1) (row_of_cells r).kind kind h.kind, text_test (column r 2) (row_of_cells r).inst inst h.inst, blob_test (column r 3) (row_of_cells r).key key h.key)
    (three (same_kind (row_of_cells r).kind kind) (bytes_eq (row_of_cells r).inst inst) (bytes_eq (row_of_cells r).key key))

after_finds : (kind : Kind) (inst key : List ℕ) (more r : Values) → IsKeptRow r
    → passes after_tests (of_params kind inst (Blob key ∷ more)) r ≡ (is_of_kind kind inst (row_of_cells r) && is_gt (octet_order (row_of_cells r).key key))
after_finds kind inst key more r h =
    rw (
      kind_test (column r 1) (row_of_cells r).kind kind h.kind,
      text_test (column r 2) (row_of_cells r).inst inst h.inst,
      ap (λ v. is_behind v (Blob key)) h.key ∙ is_behind-Blob (row_of_cells r).key key,
    )
    (three (same_kind (row_of_cells r).kind kind) (bytes_eq (row_of_cells r).inst inst) (is_gt (octet_order (row_of_cells r).key key)))

above_finds : (kind : Kind) (inst above : List ℕ) (r : Values) → IsKeptRow r
    → passes above_tests (of_params kind inst (Blob above ∷ [])) r ≡ (is_of_kind kind inst (row_of_cells r) && bytes_eq (row_of_cells r).above above)
above_finds kind inst above r h =
    rw (kind_test (column r 1) (row_of_cells r).kind kind h.kind, text_test (column r 2) (row_of_cells r).inst inst h.inst, blob_test (column r 4) (row_of_cells r).above above h.above)
    (three (same_kind (row_of_cells r).kind kind) (bytes_eq (row_of_cells r).inst inst) (bytes_eq (row_of_cells r).above above))

not_started : (v : Value) (b : Bool) → v ≡ flag b → equals v (Int (pos 0)) ≡ not b
not_started v true e = ap (λ w. equals w (Int (pos 0))) e ∙ equals-Int 1 0
not_started v false e = ap (λ w. equals w (Int (pos 0))) e ∙ equals-Int 0 0

waiting_finds : (inst : List ℕ) (after : Option (List ℕ)) (more r : Values) → IsKeptRow r
    → passes waiting_tests (of_params Entry inst (key_or_number after ∷ more)) r ≡ ((is_of_kind Entry inst (row_of_cells r) && not (row_of_cells r).started) && is_beyond after (row_of_cells r))
waiting_finds inst after more r h =
    rw (
      kind_test (column r 1) (row_of_cells r).kind Entry h.kind,
      text_test (column r 2) (row_of_cells r).inst inst h.inst,
      not_started (column r 8) (row_of_cells r).started h.started,
      beyond_test (column r 3) after (row_of_cells r) h.key,
    )
    (four (same_kind (row_of_cells r).kind Entry) (bytes_eq (row_of_cells r).inst inst) (not (row_of_cells r).started) (is_beyond after (row_of_cells r)))

above_after_finds : (kind : Kind) (inst above : List ℕ) (after : Option (List ℕ)) (more r : Values) → IsKeptRow r
    → passes above_after_tests (of_params kind inst (Blob above ∷ key_or_number after ∷ more)) r
    ≡ ((is_of_kind kind inst (row_of_cells r) && bytes_eq (row_of_cells r).above above) && is_beyond after (row_of_cells r))
above_after_finds kind inst above after more r h =
    rw (
      kind_test (column r 1) (row_of_cells r).kind kind h.kind,
      text_test (column r 2) (row_of_cells r).inst inst h.inst,
      blob_test (column r 4) (row_of_cells r).above above h.above,
      beyond_test (column r 3) after (row_of_cells r) h.key,
    )
    (four (same_kind (row_of_cells r).kind kind) (bytes_eq (row_of_cells r).inst inst) (bytes_eq (row_of_cells r).above above) (is_beyond after (row_of_cells r)))

pub of_own : (kind : Kind) (inst : List ℕ) (row : Row) → is_of_kind kind inst row ≡ true → (row.kind ≡ kind) × (row.inst ≡ inst)
of_own kind inst row h =
    let parts = and_parts (same_kind row.kind kind) (bytes_eq row.inst inst) h in
    (one_kind row.kind kind parts.0, (bytes_eq-Decides row.inst inst).0 parts.1)

pub and_own : (kind : Kind) (inst : List ℕ) (test : Row → Bool) (row : Row) → (is_of_kind kind inst row && test row) ≡ true → (row.kind ≡ kind) × (row.inst ≡ inst)
and_own kind inst test row h = of_own kind inst row (and_parts (is_of_kind kind inst row) (test row) h).0

both_own : (kind : Kind) (inst : List ℕ) (one other : Row → Bool) (row : Row) → ((is_of_kind kind inst row && one row) && other row) ≡ true → (row.kind ≡ kind) × (row.inst ≡ inst)
both_own kind inst one other row h = and_own kind inst one row (and_parts (is_of_kind kind inst row && one row) (other row) h).0

-- ---- the row at a place

-- rows at one place, in order, are at most one
only_first : (p : RowPlace) (rows found : List Row) → IsRising rows → AllByRecursion (λ (row : Row). row_place_of row ≡ p) rows
    → IsPermutation rows found → slice_get found 0 ≡ slice_get rows 0
unfolding IsRising
only_first p [] [] rising at h = refl
only_first p [] (x ∷ found) rising at h = absurd (let n : length (x ∷ found) ≡ 0 = length_permutation [] (x ∷ found) h in omega (arith, n))
only_first p (a ∷ []) found rising at h = ap (λ (l : List Row). slice_get l 0) (one_permutation a found h)
only_first p (a ∷ b ∷ rest) found rising at h =
    let tied : row_place_order (row_place_of a) (row_place_of b) ≡ Equal = (λ i. row_place_order (at.0 i) (at.1.0 i)) ∙ tied_itself rows_total p in
    absurd (let wrong : Less ≡ Equal = sym rising.0.0 ∙ tied in cc)

abbrev keeps_at : Kind → List ℕ → List ℕ → Row → Bool
keeps_at kind inst key row = is_of_kind kind inst row && bytes_eq row.key key

at_place : (kind : Kind) (inst key : List ℕ) (row : Row) → keeps_at kind inst key row ≡ true → row_place_of row ≡ place kind inst key
at_place kind inst key row h =
    let parts = and_parts (is_of_kind kind inst row) (bytes_eq row.key key) h in
    let whose = of_own kind inst row parts.0 in
    λ i. place (whose.0 i) (whose.1 i) ((bytes_eq-Decides row.key key).0 parts.1 i)

-- ---- the queries

pub holds_weaker : (s : State) (P Q : List Row → Type 0) → ((rows : List Row) → P rows → Q rows) → HoldsOf s P → HoldsOf s Q
holds_weaker s P Q f h = record { is_open = h.is_open; of_rows = λ rows has. f rows (h.of_rows rows has) }

-- one filter after two others
thrice : (kind : Kind) (inst : List ℕ) (one other : Row → Bool) (rows : List Row)
    → filter other (filter one (filter (is_of_kind kind inst) rows)) ≡ filter (λ row. (is_of_kind kind inst row && one row) && other row) rows
thrice kind inst one other rows =
    ap (filter other) (both_tests (is_of_kind kind inst) one rows) ∙ both_tests (λ (row : Row). is_of_kind kind inst row && one row) other rows

module _ (old new : State) (kind : Kind) (inst : List ℕ) (answer : List Values) where
  pub found_row : (key : List ℕ) → Shown row_text (of_params kind inst (Blob key ∷ [])) old new answer
      → HoldsOf old (λ rows. slice_get (map (row_shown kind inst) answer) 0 ≡ row_at kind inst key rows)
  unfolding row_at
  found_row key h = record {
    is_open = (shown_unchanged row_text (of_params kind inst (Blob key ∷ [])) old new row_silent answer h).0.was_open;
    of_rows = λ rows has.
        let params = of_params kind inst (Blob key ∷ []) in
        let s = selection 0 at_tests shown_columns [] old.now.trees params answer refl (answer_of Two row_text _ row_means params old new has.version_is.schema answer h) in
        let keeps = keeps_at kind inst key in
        let found = found_rows at_tests params kind inst keeps (at_finds kind inst key) (and_own kind inst (λ row. bytes_eq row.key key)) [] old.now rows answer has s in
        only_first (place kind inst key) (filter keeps rows) _ (IsRising-filter keeps rows has.table.rising) (each_passed _ keeps (at_place kind inst key) rows) found
        ∙ sym (first_kept keeps rows);
  }

  pub found_of : Shown of_text (of_params kind inst []) old new answer
      → HoldsOf old (λ rows. map (row_shown kind inst) answer ≡ rows_of kind inst rows)
  unfolding rows_of
  found_of h = record {
    is_open = (shown_unchanged of_text (of_params kind inst []) old new of_silent answer h).0.was_open;
    of_rows = λ rows has.
        let params = of_params kind inst [] in
        let s = selection 0 of_tests shown_columns by_id old.now.trees params answer refl (answer_of Two of_text _ of_means params old new has.version_is.schema answer h) in
        listed_rows of_tests params kind inst (is_of_kind kind inst) (of_finds kind inst []) (of_own kind inst) old.now rows answer has s;
  }

  -- what is answered stands in a window on all that pass
  pub found_window : (from most : ℕ) → Shown window_text (of_params kind inst (Int (pos most) ∷ Int (pos from) ∷ [])) old new answer
      → HoldsOf old (λ rows. map (row_shown kind inst) answer ≡ take most (drop from (rows_of kind inst rows)))
  unfolding rows_of
  found_window from most h =
      let more : Values = Int (pos most) ∷ Int (pos from) ∷ [] in
      let params : Values = of_params kind inst more in
      record {
        is_open = (shown_unchanged window_text params old new window_silent answer h).0.was_open;
        of_rows = λ rows has.
            let a = answer_of Two window_text _ window_means params old new has.version_is.schema answer h in
            let all : List Values = map (λ (o : Output). o.1) a.ordered in
            let whole : IsAnswer (selecting 0 of_tests None shown_columns by_id) (overlay old.now.trees []) params all = record {
              staged = a.staged;
              grouped = a.grouped;
              kept = a.kept;
              distinct = a.distinct;
              ordered = a.ordered;
              same = a.same;
              sorted = a.sorted;
              shown = refl;
            } in
            let s = selection 0 of_tests shown_columns by_id old.now.trees params all refl whole in
            ap (map (row_shown kind inst)) a.shown
            ∙ sym (take-map (row_shown kind inst) most (drop from all))
            ∙ ap (take most) (sym (drop-map (row_shown kind inst) from all))
            ∙ ap (λ (l : List Row). take most (drop from l)) (listed_rows of_tests params kind inst (is_of_kind kind inst) (of_finds kind inst more) (of_own kind inst) old.now rows all has s);
      }

  -- what is answered are the first of all that pass
  found_page : (tests : List Term) (at : ℕ) (text : List ℕ) → Means Two text (of_page tests at) → ShowsNoWrite text → (params : Values) (most : ℕ) → eval (col 0 at) (params ∷ []) ≡ Int (pos most)
      → (keeps : Row → Bool) → ((r : Values) → IsKeptRow r → passes tests params r ≡ keeps (row_of_cells r))
      → ((row : Row) → keeps row ≡ true → (row.kind ≡ kind) × (row.inst ≡ inst))
      → Shown text params old new answer → HoldsOf old (λ rows. map (row_shown kind inst) answer ≡ take most (filter keeps rows))
  found_page tests at text means silent params most is keeps finds own h = record {
    is_open = (shown_unchanged text params old new silent answer h).0.was_open;
    of_rows = λ rows has.
        let a = answer_of Two text _ means params old new has.version_is.schema answer h in
        let all = unlimited 0 tests shown_columns by_id (col 0 at) old.now.trees params answer a in
        let whole = without_limit 0 tests shown_columns by_id (col 0 at) old.now.trees params answer a in
        let s = selection 0 tests shown_columns by_id old.now.trees params all refl whole in
        ap (map (row_shown kind inst)) (limited_to 0 tests shown_columns by_id (col 0 at) old.now.trees params answer a most is)
        ∙ sym (take-map (row_shown kind inst) most all)
        ∙ ap (take most) (listed_rows tests params kind inst keeps finds own old.now rows all has s);
  }

  pub found_after : (key : List ℕ) (most : ℕ) → Shown after_text (of_params kind inst (Blob key ∷ Int (pos most) ∷ [])) old new answer
      → HoldsOf old (λ rows. map (row_shown kind inst) answer ≡ take most (rows_after kind inst key rows))
  unfolding rows_of rows_after
  found_after key most h =
      let after : Row → Bool = λ row. is_gt (octet_order row.key key) in
      holds_weaker old _ _ (λ rows e. e ∙ ap (take most) (sym (both_tests (is_of_kind kind inst) after rows)))
      (found_page after_tests 3 after_text after_means after_silent _ most refl (λ row. is_of_kind kind inst row && after row) (after_finds kind inst key (Int (pos most) ∷ [])) (and_own kind inst after) h)

  pub found_above_after : (above : List ℕ) (after : Option (List ℕ)) (most : ℕ)
      → Shown above_after_text (of_params kind inst (Blob above ∷ key_or_number after ∷ Int (pos most) ∷ [])) old new answer
      → HoldsOf old (λ rows. map (row_shown kind inst) answer ≡ take most (rows_behind after (rows_above kind inst above rows)))
  unfolding rows_of rows_above
  found_above_after above after most h =
      let under : Row → Bool = λ row. bytes_eq row.above above in
      holds_weaker old _ _ (λ rows e. e ∙ ap (take most) (sym (beyond_rows after _ ∙ thrice kind inst under (is_beyond after) rows)))
      (found_page above_after_tests 4 above_after_text above_after_means above_after_silent _ most refl (λ row. (is_of_kind kind inst row && under row) && is_beyond after row)
      (above_after_finds kind inst above after (Int (pos most) ∷ [])) (both_own kind inst under (is_beyond after)) h)

  pub found_above : (above : List ℕ) → Shown above_text (of_params kind inst (Blob above ∷ [])) old new answer
      → HoldsOf old (λ rows. map (row_shown kind inst) answer ≡ rows_above kind inst above rows)
  unfolding rows_of rows_above
  found_above above h = record {
    is_open = (shown_unchanged above_text (of_params kind inst (Blob above ∷ [])) old new above_silent answer h).0.was_open;
    of_rows = λ rows has.
        let params = of_params kind inst (Blob above ∷ []) in
        let under : Row → Bool = λ row. bytes_eq row.above above in
        let s = selection 0 above_tests shown_columns by_id old.now.trees params answer refl (answer_of Two above_text _ above_means params old new has.version_is.schema answer h) in
        listed_rows above_tests params kind inst (λ row. is_of_kind kind inst row && under row) (above_finds kind inst above) (and_own kind inst under) old.now rows answer has s
        ∙ sym (both_tests (is_of_kind kind inst) under rows);
  }

pub found_waiting : (old new : State) (inst : List ℕ) (answer : List Values) (after : Option (List ℕ)) (most : ℕ)
    → Shown waiting_text (of_params Entry inst (key_or_number after ∷ Int (pos most) ∷ [])) old new answer
    → HoldsOf old (λ rows. map (row_shown Entry inst) answer ≡ take most (rows_behind after (waiting_entries inst rows)))
unfolding rows_of
found_waiting old new inst answer after most h =
    let waits : Row → Bool = λ row. not row.started in
    holds_weaker old _ _ (λ rows e. e ∙ ap (take most) (sym (beyond_rows after _ ∙ thrice Entry inst waits (is_beyond after) rows)))
    (found_page old new Entry inst answer waiting_tests 3 waiting_text waiting_means waiting_silent _ most refl (λ row. (is_of_kind Entry inst row && waits row) && is_beyond after row)
    (waiting_finds inst after (Int (pos most) ∷ [])) (both_own Entry inst waits (is_beyond after)) h)

count_is : (n number : ℕ) (answer : List Values) → answer ≡ (stored_count n ∷ []) ∷ [] → IsCount answer number → number ≡ n
count_is n number answer e h =
    let shown : stored_count n ≡ Int (pos number) = subst (λ l. column (slice_index_or l 0 []) 0 ≡ Int (pos number)) e h.shown in
    let capped : min n 9223372036854775807 ≡ number = cc in
    omega (arith, capped, h.whole)

module _ (old new : State) (kind : Kind) (inst : List ℕ) (answer : List Values) (number : ℕ) where
  pub counted_of : Shown count_text (of_params kind inst []) old new answer → IsCount answer number
      → HoldsOf old (λ rows. number ≡ length (rows_of kind inst rows))
  unfolding rows_of
  counted_of h shown = record {
    is_open = (shown_unchanged count_text (of_params kind inst []) old new count_silent answer h).0.was_open;
    of_rows = λ rows has.
        let params = of_params kind inst [] in
        let one = count_answer of_tests old.now.trees params answer (answer_of Two count_text _ count_means params old new has.version_is.schema answer h) in
        count_is (length (chosen 0 of_tests old.now.trees params)) number answer one shown
        ∙ size_found of_tests params (is_of_kind kind inst) (of_finds kind inst []) old.now rows has;
  }

  pub counted_above : (above : List ℕ) → Shown count_above_text (of_params kind inst (Blob above ∷ [])) old new answer → IsCount answer number
      → HoldsOf old (λ rows. number ≡ length (rows_above kind inst above rows))
  unfolding rows_of rows_above
  counted_above above h shown = record {
    is_open = (shown_unchanged count_above_text (of_params kind inst (Blob above ∷ [])) old new count_above_silent answer h).0.was_open;
    of_rows = λ rows has.
        let params = of_params kind inst (Blob above ∷ []) in
        let under : Row → Bool = λ row. bytes_eq row.above above in
        let one = count_answer above_tests old.now.trees params answer (answer_of Two count_above_text _ count_above_means params old new has.version_is.schema answer h) in
        count_is (length (chosen 0 above_tests old.now.trees params)) number answer one shown
        ∙ size_found above_tests params (λ row. is_of_kind kind inst row && under row) (above_finds kind inst above) old.now rows has
        ∙ ap length (sym (both_tests (is_of_kind kind inst) under rows));
  }

-- ---- all rows of a table

each_passes : (params : Values) (tree : List Values) → AllByRecursion (λ r. passes [] params r ≡ true) tree
each_passes params [] = tt
each_passes params (r ∷ rest) = (refl, each_passes params rest)

shows_tree : (version : Version) (text : List ℕ) (tree : ℕ) (shown : List Term) (order : List (Term × Key)) → Means version text (selecting tree [] None shown order)
    → ShowsNoWrite text → (old new : State) → overlay old.now.trees [] tree ≡ old.now.trees tree → (answer : List Values) → Shown text [] old new answer
    → Shows version old (λ d. map (λ r. eval_all shown (with_row [] r)) (d.trees tree)) answer
shows_tree version text tree shown order means silent old new at answer h = record {
  is_open = (shown_unchanged text [] old new silent answer h).0.was_open;
  rows = λ has.
      let s = selection tree [] shown order old.now.trees [] answer at (answer_of version text _ means [] old new has answer h) in
      subst (λ l. IsPermutation (map (λ r. eval_all shown (with_row [] r)) l) answer) (filter_all (passes [] []) (old.now.trees tree) (each_passes [] (old.now.trees tree)))
      (selection_rows tree [] shown order old.now.trees [] answer s);
}

unstarted_shown : (tree : List Values) → map as_unstarted tree ≡ map selected_columns (map as_unstarted tree)
unstarted_shown [] = refl
unstarted_shown (r ∷ tree) = ap (λ l. as_unstarted r ∷ l) (unstarted_shown tree)

pub shows_rows : (version : Version) (old new : State) (answer : List Values) → Shown (all_text version) [] old new answer → Shows version old (kept_shown version) answer
shows_rows One old new answer h =
    let it = shows_tree One (all_text One) 0 (all_columns One) by_place (all_means One) all_one_silent old new refl answer h in
    record { is_open = it.is_open; rows = λ has. subst (λ l. IsPermutation l answer) (unstarted_shown (old.now.trees 0)) (it.rows has) }
shows_rows Two old new answer h = shows_tree Two (all_text Two) 0 (all_columns Two) by_place (all_means Two) all_two_silent old new refl answer h

pub shows_versions : (old new : State) (answer : List Values) → Shown version_text [] old new answer → (version : Version) → Shows version old numbers_shown answer
shows_versions old new answer h version =
    shows_tree version version_text 2 (col 1 1 ∷ []) [] (version_means version) version_silent old new refl answer h
