-- What is read of the studies that a choice takes.
use Rattle.std.proofs.Common.{◌≡◌, ℕ, ℤ, pos, Bool, true, false, not, ◌&&◌, ◌<◌, ◌≤◌, List, [], ◌∷◌, ◌++◌, None, Some, Option, MatchOption, is_some, unwrap_or, option_to_list, map, filter, length, IfOk, Result, Ok, Err, refl, sym, ◌∙◌, ap, subst, arith}
use Rattle.std.specs.Global.{Vec}
use Rattle.std.specs.List.Sorted.{IsPermutation, IsSortedByKey}
use Rattle.std.specs.Str.{bytes_eq}
use Rattle.std.proofs.lemmas.Bool.{and_parts}
use Rattle.std.proofs.lemmas.List.{map-append}
use Rattle.std.proofs.lemmas.List.Elements.{filter_agree}
use Rattle.std.proofs.lemmas.List.Filters.{length-filter_both}
use Rattle.std.proofs.lemmas.List.Sorted.{IsPermutation-trans, IsPermutation-append, IsPermutation-filter_both}
use Rattle.sqlite_value.specs.declared.value.Value.TheVariants.{Int, Blob}
use Rattle.sqlite_value.specs.declared.keys.Collation.TheVariants.{Binary}
use Rattle.sqlite_value.specs.Keys.{ascending}
use Rattle.sqlite_value.specs.Order.{Row as Values, column}
use Rattle.sqlite_sql.specs.Ops.{is_null}
use Rattle.sqlite_sql.specs.Term.{Term, col, eval}
use Rattle.sqlite.specs.State.{State, Shown}
use Rattle.dq_tables.specs.declared.choice.Choice.{Choice}
use Rattle.dq_tables.specs.declared.row.Kind.TheVariants.{Study}
use Rattle.dq_tables.specs.declared.row.Row.{Row}
use Rattle.dq_tables.specs.Rows.{record_of, octet_order}
use Rattle.dq_tables.specs.Labels.{patient_of, day_of}
use Rattle.dq_tables.specs.StudyChoices.{is_none_or, is_open_or, has_labels, is_chosen, studies_in}
use Rattle.dq_tables.specs.Lookups.{is_of_kind, row_at, rows_of}
use Rattle.dq_tables.proofs.Order.{both_tests}
use Rattle.dq_tables.proofs.StudyByKey.{chosen_of_one}
use Rattle.dq_sql.specs.declared.study_index.Label.{Label}
use Rattle.dq_sql.specs.declared.study_index.Label.TheVariants.{Patient, Day}
use Rattle.dq_sql.specs.declared.version.Version.TheVariants.{Two}
use Rattle.dq_sql.specs.Tie.{row_of_cells, IsKeptRow}
use Rattle.dq_sql.specs.RowReads.{ShowsNoWrite, HoldsOf, row_shown}
use Rattle.dq_sql.specs.StudyIndex.{says, is_of_patient, is_of_days, ShowsThose, ShowsSaying, ShowsSilent, FindsFew, EndsWithin, last_day_or_blob}
use Rattle.dq_sql.proofs.Queries.{Means, of_tests, shown_columns}
use Rattle.dq_sql.proofs.SelectAnswers.{passes, selection, unlimited, without_limit}
use Rattle.dq_sql.proofs.LimitedRows.{no_more, all_answered}
use Rattle.dq_sql.proofs.FoundRows.{found_rows}
use Rattle.dq_sql.proofs.KeyOrder.{key_of, in_key_order}
use Rattle.dq_sql.proofs.Firsts.{silent_rows}
use Rattle.dq_sql.proofs.ReadOnlyQueries.{shown_unchanged}
use Rattle.dq_sql.proofs.ReadRows.{answer_of, of_params, of_finds, of_own, and_own, holds_weaker}
use Rattle.dq_sql.proofs.StudyTests.{AreNatural, patient_finds, days_find, unsaid_patient, unsaid_day, is_from, is_until, and_false}
use Rattle.dq_sql.proofs.ChoiceTexts.{some_of, first_by, patient_text, patient_tests, patient_means, patient_silent, days_text, days_tests, days_means, days_silent, no_patient_text, no_patient_means, no_patient_silent, no_day_text, no_day_means, no_day_silent}

-- ---- one query

fewer_pass : {X : Type 0} (p : X → Bool) (xs : List X) → length (filter p xs) ≤ length xs
fewer_pass p xs =
    let n = length-filter_both p (λ x. not (p x)) (λ x. refl) xs in
    omega (arith, n)

-- All studies that pass, if so few are answered, and never more than the institution has.
record FewThose (inst : List ℕ) (test : Row → Bool) (many : ℕ) (answer : List Values) (rows : List Row) : Type 0 where
  all : length answer < many → ShowsThose inst test rows answer
  within : length answer ≤ length (rows_of Study inst rows)

module _ (old new : State) (inst : List ℕ) (answer : List Values) (many : ℕ) where
  shows_those : (text : List ℕ) (tests : List Term) (at : ℕ) → Means Two text (some_of tests at) → ShowsNoWrite text → (params : Values) → eval (col 0 at) (params ∷ []) ≡ Int (pos many)
      → (test : Row → Bool) → ((r : Values) → IsKeptRow r → passes tests params r ≡ (is_of_kind Study inst (row_of_cells r) && test (row_of_cells r)))
      → Shown text params old new answer → HoldsOf old (FewThose inst test many answer)
  unfolding rows_of
  shows_those text tests at means silent params is test finds h =
      let keeps : Row → Bool = λ row. is_of_kind Study inst row && test row in
      record {
        is_open = (shown_unchanged text params old new silent answer h).0.was_open;
        of_rows = λ rows has.
            let a = answer_of Two text _ means params old new has.version_is.schema answer h in
            let all = unlimited 0 tests shown_columns [] (col 0 at) old.now.trees params answer a in
            let s = selection 0 tests shown_columns [] old.now.trees params all refl (without_limit 0 tests shown_columns [] (col 0 at) old.now.trees params answer a) in
            let those : filter keeps rows ≡ filter test (filter (is_of_kind Study inst) rows) = sym (both_tests (is_of_kind Study inst) test rows) in
            let found = found_rows tests params Study inst keeps finds (and_own Study inst test) [] old.now rows all has s in
            let n : length answer ≤ length (filter keeps rows) = no_more tests shown_columns [] (col 0 at) params many is keeps finds old.now rows answer has a in
            let count : length (filter keeps rows) ≡ length (filter test (filter (is_of_kind Study inst) rows)) = ap length those in
            let fewer : length (filter test (filter (is_of_kind Study inst) rows)) ≤ length (filter (is_of_kind Study inst) rows) = fewer_pass test _ in
            record {
              all = λ less.
                  let whole : answer ≡ all = all_answered tests shown_columns [] (col 0 at) params many is keeps finds old.now rows answer has a less in
                  subst (λ l. IsPermutation l (map (row_shown Study inst) answer)) those
                  (subst (λ l. IsPermutation (filter keeps rows) (map (row_shown Study inst) l)) (sym whole) found);
              within = omega (arith, n, count, fewer);
            };
      }

  found_patient : (patient : List ℕ) → Shown patient_text (of_params Study inst (Blob patient ∷ Int (pos many) ∷ [])) old new answer
      → HoldsOf old (FewThose inst (λ row. is_of_patient patient row && says Patient row) many answer)
  found_patient patient h =
      shows_those patient_text patient_tests 3 patient_means patient_silent _ refl (λ row. is_of_patient patient row && says Patient row) (λ r kept. patient_finds inst r kept patient (Int (pos many) ∷ [])) h

  found_days : AreNatural → (first last : Option ℕ)
      → Shown days_text (of_params Study inst (Int (pos (unwrap_or first 0)) ∷ last_day_or_blob last ∷ Int (pos many) ∷ [])) old new answer
      → HoldsOf old (FewThose inst (λ row. is_of_days first last row && says Day row) many answer)
  found_days natural first last h =
      shows_those days_text days_tests 4 days_means days_silent _ refl (λ row. is_of_days first last row && says Day row) (λ r kept. days_find inst r kept natural first last (Int (pos many) ∷ [])) h

  -- what is taken of an answer where it has fewer rows
  few_of : (few : Option (Vec Values)) (test : Row → Bool) → MatchOption few (many ≤ length answer) (λ some. (some.items ≡ answer) × (length answer < many))
      → HoldsOf old (FewThose inst test many answer) → FindsFew many inst old few (λ some rows. ShowsThose inst test rows some.items)
  few_of None test full h = holds_weaker old _ _ (λ rows it. let n = it.within in omega (arith, full, n)) h
  few_of (Some some) test e h = holds_weaker old _ _ (λ rows it. subst (ShowsThose inst test rows) (sym e.0) (it.all e.1)) h

  pub few_of_patient : (few : Option (Vec Values)) (patient : List ℕ) → MatchOption few (many ≤ length answer) (λ some. (some.items ≡ answer) × (length answer < many))
      → Shown patient_text (of_params Study inst (Blob patient ∷ Int (pos many) ∷ [])) old new answer
      → FindsFew many inst old few (λ some rows. ShowsSaying Patient (is_of_patient patient) inst rows some.items)
  few_of_patient few patient e h = few_of few _ e (found_patient patient h)

  pub few_of_days : (few : Option (Vec Values)) (first last : Option ℕ) → AreNatural → MatchOption few (many ≤ length answer) (λ some. (some.items ≡ answer) × (length answer < many))
      → Shown days_text (of_params Study inst (Int (pos (unwrap_or first 0)) ∷ last_day_or_blob last ∷ Int (pos many) ∷ [])) old new answer
      → FindsFew many inst old few (λ some rows. ShowsSaying Day (is_of_days first last) inst rows some.items)
  few_of_days few first last natural e h = few_of few _ e (found_days natural first last h)

-- ---- those that do not say something

module _ (old new : State) (inst : List ℕ) (most : ℕ) (answer : List Values) where
  found_silent : (at : ℕ) (text : List ℕ) → Means Two text (first_by at) → ShowsNoWrite text → (label : Label)
      → ((r : Values) → IsKeptRow r → is_null (column r at) ≡ not (says label (row_of_cells r)))
      → Shown text (of_params Study inst (Int (pos most) ∷ [])) old new answer → (few : Option (Vec Values))
      → MatchOption few (most ≤ length answer) (λ silent. EndsWithin most answer silent.items)
      → FindsFew most inst old few (λ silent rows. ShowsSilent label inst rows silent.items)
  unfolding rows_of
  found_silent at text means shows label unsaid h None full =
      let params : Values = of_params Study inst (Int (pos most) ∷ []) in
      record {
        is_open = (shown_unchanged text params old new shows answer h).0.was_open;
        of_rows = λ rows has.
            let a = answer_of Two text _ means params old new has.version_is.schema answer h in
            let n = no_more of_tests (shown_columns ++ col 1 at ∷ []) ((col 1 at, ascending Binary) ∷ []) (col 0 2) params most refl (is_of_kind Study inst)
            (of_finds Study inst (Int (pos most) ∷ [])) old.now rows answer has a in
            omega (arith, full, n);
      }
  found_silent at text means shows label unsaid h (Some silent) ends =
      let more : Values = Int (pos most) ∷ [] in
      let params : Values = of_params Study inst more in
      record {
        is_open = (shown_unchanged text params old new shows answer h).0.was_open;
        of_rows = λ rows has.
            let a = answer_of Two text _ means params old new has.version_is.schema answer h in
            let got = silent_rows at params most refl Study inst (is_of_kind Study inst) (says label) (of_finds Study inst more) unsaid
            (λ row e. of_own Study inst row (and_parts (is_of_kind Study inst row) _ e).0) old.now rows answer silent.items has a ends in
            subst (λ l. IsPermutation l (map (row_shown Study inst) silent.items)) (sym (both_tests (is_of_kind Study inst) (λ row. not (says label row)) rows)) got;
      }

  pub found_no_patient : Shown no_patient_text (of_params Study inst (Int (pos most) ∷ [])) old new answer → (few : Option (Vec Values))
      → MatchOption few (most ≤ length answer) (λ silent. EndsWithin most answer silent.items) → FindsFew most inst old few (λ silent rows. ShowsSilent Patient inst rows silent.items)
  found_no_patient = found_silent 5 no_patient_text no_patient_means no_patient_silent Patient (unsaid_patient inst)

  pub found_no_day : Shown no_day_text (of_params Study inst (Int (pos most) ∷ [])) old new answer → (few : Option (Vec Values))
      → MatchOption few (most ≤ length answer) (λ silent. EndsWithin most answer silent.items) → FindsFew most inst old few (λ silent rows. ShowsSilent Day inst rows silent.items)
  found_no_day = found_silent 6 no_day_text no_day_means no_day_silent Day (unsaid_day inst)

-- what follows from what was found
pub few_weaker : {X : Type 0} (many : ℕ) (inst : List ℕ) (s : State) (few : Option X) (P Q : X → List Row → Type 0) → ((x : X) → HoldsOf s (P x) → HoldsOf s (Q x))
    → FindsFew many inst s few P → FindsFew many inst s few Q
few_weaker many inst s None P Q f h = h
few_weaker many inst s (Some x) P Q f h = f x h

-- ---- both parts

both_parts : (label : Label) (test : Row → Bool) (inst : List ℕ) (rows : List Row) (said silent : List Values)
    → ((row : Row) → (test row && not (says label row)) ≡ not (says label row))
    → ShowsSaying label test inst rows said → ShowsSilent label inst rows silent → ShowsThose inst test rows (said ++ silent)
both_parts label test inst rows said silent passed p q =
    let all : List Row = rows_of Study inst rows in
    let unsaid : Row → Bool = λ row. not (says label row) in
    let parted = IsPermutation-filter_both (says label) unsaid (λ row. refl) (filter test all) in
    let first = subst (λ l. IsPermutation l (map (row_shown Study inst) said)) (sym (both_tests test (says label) all)) p in
    let second = subst (λ l. IsPermutation l (map (row_shown Study inst) silent))
    (sym (both_tests test unsaid all ∙ filter_agree (λ (row : Row). test row && unsaid row) unsaid passed all)) q in
    subst (IsPermutation (filter test all)) (sym (map-append (row_shown Study inst) said silent))
    (IsPermutation-trans _ _ _ parted (IsPermutation-append _ _ _ _ first second))

pub ok_both : {A E : Type 0} (r : Result A E) (P Q R : A → Type 0) → ((x : A) → P x → Q x → R x) → IfOk r P → IfOk r Q → IfOk r R
ok_both (Ok x) P Q R f p q = f x p q
ok_both (Err e) P Q R f p q = tt

-- both parts in the order of their keys
pub in_order_of_both : (label : Label) (test : Row → Bool) (inst : List ℕ) (old : State) (said silent : List Values)
    → ((row : Row) → (test row && not (says label row)) ≡ not (says label row))
    → HoldsOf old (λ rows. ShowsSaying label test inst rows said) → HoldsOf old (λ rows. ShowsSilent label inst rows silent)
    → (list : List Row) → IsPermutation (map (row_shown Study inst) (said ++ silent)) list → IsSortedByKey key_of octet_order list
    → HoldsOf old (λ rows. list ≡ filter test (rows_of Study inst rows))
in_order_of_both label test inst old said silent passed p q list same order = record {
  is_open = p.is_open;
  of_rows = λ rows has.
      in_key_order Study inst test rows (map (row_shown Study inst) (said ++ silent)) list has.table.rising
      (both_parts label test inst rows said silent passed (p.of_rows rows has) (q.of_rows rows has)) same order;
}

patient_open : (patient : List ℕ) (said : Option (List ℕ)) → (is_open_or bytes_eq (Some patient) said && not (is_some said)) ≡ not (is_some said)
patient_open patient None = refl
patient_open patient (Some s) = sym (and_false (is_open_or bytes_eq (Some patient) (Some s)))

-- what is asked of a patient is met by a study that says none, and so is what is asked of a day
pub any_patient : (patient : List ℕ) (row : Row) → (is_of_patient patient row && not (says Patient row)) ≡ not (says Patient row)
any_patient patient row = patient_open patient (patient_of row)

days_open : (first last : Option ℕ) (said : Option ℤ) → ((is_from first said && is_until last said) && not (is_some said)) ≡ not (is_some said)
days_open None None None = refl
days_open None (Some l) None = refl
days_open (Some f) None None = refl
days_open (Some f) (Some l) None = refl
days_open first last (Some z) = sym (and_false (is_from first (Some z) && is_until last (Some z)))

pub any_day : (first last : Option ℕ) (row : Row) → (is_of_days first last row && not (says Day row)) ≡ not (says Day row)
any_day first last row = days_open first last (day_of row)

-- ---- those that a choice takes

abbrev chosen : Choice → Row → Bool
chosen choice row = is_chosen choice (record_of row)

asks_labels : (choice : Choice) (row : Row) → choice.uid ≡ None → chosen choice row ≡ has_labels choice (patient_of row) (day_of row)
unfolding is_chosen patient_of day_of
asks_labels choice row none = ap (λ (u : Option (List ℕ)). is_none_or (bytes_eq row.key) u && has_labels choice (patient_of row) (day_of row)) none

module _ (choice : Choice) (inst : List ℕ) (rows : List Row) (none : choice.uid ≡ None) where
  twice : (a b : Bool) → (a && (a && b)) ≡ (a && b)
  twice true b = refl
  twice false b = refl

  patient_first : (patient : List ℕ) → choice.patient ≡ Some patient → (row : Row) → (is_of_patient patient row && chosen choice row) ≡ chosen choice row
  patient_first patient some row =
      let days : Bool = is_from choice.first_day (day_of row) && is_until choice.last_day (day_of row) in
      let asks : chosen choice row ≡ (is_of_patient patient row && days) =
      asks_labels choice row none ∙ ap (λ (p : Option (List ℕ)). is_open_or bytes_eq p (patient_of row) && days) some in
      ap (λ b. is_of_patient patient row && b) asks ∙ twice (is_of_patient patient row) days ∙ sym asks

  chosen_of_patient : (patient : List ℕ) → choice.patient ≡ Some patient
      → filter (chosen choice) (filter (is_of_patient patient) (rows_of Study inst rows)) ≡ studies_in choice inst rows
  unfolding studies_in
  chosen_of_patient patient some =
      both_tests (is_of_patient patient) (chosen choice) (rows_of Study inst rows)
      ∙ filter_agree (λ (row : Row). is_of_patient patient row && chosen choice row) (chosen choice) (patient_first patient some) (rows_of Study inst rows)

  module _ (unasked : choice.patient ≡ None) where
    asks_days : (row : Row) → is_of_days choice.first_day choice.last_day row ≡ chosen choice row
    asks_days row =
        sym (asks_labels choice row none
        ∙ ap (λ (p : Option (List ℕ)). is_open_or bytes_eq p (patient_of row) && is_of_days choice.first_day choice.last_day row) unasked)

    chosen_of_days : filter (is_of_days choice.first_day choice.last_day) (rows_of Study inst rows) ≡ studies_in choice inst rows
    unfolding studies_in
    chosen_of_days = filter_agree (is_of_days choice.first_day choice.last_day) (chosen choice) asks_days (rows_of Study inst rows)

    every : (all : List Row) → filter (λ (row : Row). true) all ≡ all
    every [] = refl
    every (row ∷ all) = ap (λ (l : List Row). row ∷ l) (every all)

    pub chosen_of_all : choice.first_day ≡ None → choice.last_day ≡ None → rows_of Study inst rows ≡ studies_in choice inst rows
    chosen_of_all early late =
        sym (every (rows_of Study inst rows))
        ∙ (λ i. filter (is_of_days (sym early i) (sym late i)) (rows_of Study inst rows))
        ∙ chosen_of_days

-- ---- from what is read to what the choice takes

abbrev HoldsStudies : State → Choice → List ℕ → List Row → Type 0
HoldsStudies old choice inst list = HoldsOf old (λ rows. list ≡ studies_in choice inst rows)

module _ (old : State) (choice : Choice) (inst : List ℕ) (list : List Row) where
  pub from_key : (uid : List ℕ) (taken : List Row) → choice.uid ≡ Some uid → HoldsOf old (λ rows. list ≡ option_to_list (row_at Study inst uid rows))
      → taken ≡ filter (chosen choice) list → HoldsStudies old choice inst taken
  from_key uid taken asked h is = record {
    is_open = h.is_open;
    of_rows = λ rows has. is ∙ ap (filter (chosen choice)) (h.of_rows rows has) ∙ chosen_of_one choice inst uid rows has.table.rising asked;
  }

  pub from_patient : (patient : List ℕ) (taken : List Row) → choice.uid ≡ None → choice.patient ≡ Some patient
      → HoldsOf old (λ rows. list ≡ filter (is_of_patient patient) (rows_of Study inst rows)) → taken ≡ filter (chosen choice) list → HoldsStudies old choice inst taken
  from_patient patient taken none asked h is = record {
    is_open = h.is_open;
    of_rows = λ rows has. is ∙ ap (filter (chosen choice)) (h.of_rows rows has) ∙ chosen_of_patient choice inst rows none patient asked;
  }

  pub from_days : choice.uid ≡ None → choice.patient ≡ None → HoldsOf old (λ rows. list ≡ filter (is_of_days choice.first_day choice.last_day) (rows_of Study inst rows))
      → HoldsStudies old choice inst list
  from_days none unasked h = record { is_open = h.is_open; of_rows = λ rows has. h.of_rows rows has ∙ chosen_of_days choice inst rows none unasked }

  pub from_all : choice.uid ≡ None → choice.patient ≡ None → choice.first_day ≡ None → choice.last_day ≡ None → HoldsOf old (λ rows. list ≡ rows_of Study inst rows)
      → HoldsStudies old choice inst list
  from_all none unasked early late h = record { is_open = h.is_open; of_rows = λ rows has. h.of_rows rows has ∙ chosen_of_all choice inst rows none unasked early late }
