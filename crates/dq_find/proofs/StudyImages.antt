-- Answers that a page takes, row after row and series after series.
use Rattle.std.proofs.Common.{◌≡◌, ℕ, ◌<◌, ◌+◌, min, List, [], ◌++◌, length, get_or, drop, map, Option, Some, None, Ok, refl, sym, ap, ◌∙◌, append-nil, append_assoc}
use Rattle.std.specs.List.{filter_map, cons_option}
use Rattle.std.proofs.lemmas.List.Elements.{filter_map-append}
use Rattle.std.proofs.lemmas.Grind.{flat_map-append}
use Rattle.dq_dataset.specs.Tree.{ElementList}
use Rattle.dq_match.proofs.Parts.{from_place}
use Rattle.dq_match.specs.Parts.{with_others}
use Rattle.dq_match.specs.ShownPages.{page_most, page_octets, shown_page}
use Rattle.dq_match.specs.declared.shown_page.ShownPage.{ShownPage}
use Rattle.dq_match.specs.declared.page_collector.PageCollector.{PageCollector}
use Rattle.dq_tables.proofs.TableCalls.{reads_then, reads_right}
use Rattle.dq_tables.specs.TableStates.{State}
use Rattle.dq_tables.specs.Rows.{Record, of, record_of}
use Rattle.dq_tables.specs.Lookups.{records_above}
use Rattle.dq_tables.specs.declared.row.Kind.TheVariants.{Series as SeriesKind, Image as ImageKind}
use Rattle.dq_tables.specs.declared.row.Row.{Row}
use Rattle.dq_archive.proofs.PastLookups.{LooksSoFar, same_then}
use Rattle.dq_archive.specs.Additions.{without}
use Rattle.dq_archive.specs.PastArchives.{state_in, records_in}
use Rattle.dq_archive.specs.declared.past.Past.{Past}
use Rattle.dq_find.specs.Queries.{record_answer}
use Rattle.dq_find.specs.StudyImages.{images_of, Takes, TakesAnswers}
use Rattle.dq_find.specs.declared.query.Query.{Query}

-- A page comes to the same with what is left as it did with all.
abbrev pub StillTakes : PageCollector → List ElementList → PageCollector → List ElementList → Type 0
StillTakes now left before all =
    (others : List ElementList) → with_others now (left ++ others) ≡ with_others before (all ++ others)

-- none is taken once it is full
pub full_takes : (now before : PageCollector) (left all : List ElementList)
    → ((others : List ElementList) → with_others now others ≡ now.answers) → StillTakes now left before all → Takes before all now
full_takes now before left all full so_far others = full others ∙ sym (full (left ++ others)) ∙ so_far others

option_first : (answer : Option ElementList) (left others : List ElementList)
    → cons_option answer (left ++ others) ≡ cons_option answer left ++ others
option_first None left others = refl
option_first (Some answer) left others = refl

-- an answer was taken, where there was one
pub one_taken : (now next before : PageCollector) (answer : Option ElementList) (left all : List ElementList)
    → ((others : List ElementList) → with_others next others ≡ with_others now (cons_option answer others))
    → StillTakes now (cons_option answer left) before all → StillTakes next left before all
one_taken now next before answer left all takes so_far others =
    takes (left ++ others) ∙ ap (with_others now) (option_first answer left others) ∙ so_far others

-- some answers were taken
pub some_taken : (now next before : PageCollector) (answers left all : List ElementList) → Takes now answers next
    → StillTakes now (answers ++ left) before all → StillTakes next left before all
some_taken now next before answers left all takes so_far others =
    takes (left ++ others) ∙ ap (with_others now) (sym (append_assoc answers left others)) ∙ so_far others

-- ---- the images of some series

-- the answers of the images of some series
abbrev pub answers_of_series : List Record → List ℕ → Query → List Record → List ElementList
answers_of_series records called query series = filter_map (record_answer records called query) (images_of records series)

-- the same of those whose rows these are
abbrev pub series_answers : List Record → List ℕ → Query → List Row → List ElementList
series_answers records called query series = answers_of_series records called query (map record_of series)

-- those of some series, and those of others
pub both_series : (records : List Record) (called : List ℕ) (query : Query) (some others : List Record)
    → answers_of_series records called query (some ++ others)
    ≡ answers_of_series records called query some ++ answers_of_series records called query others
both_series records called query some others =
    ap (filter_map (record_answer records called query)) (flat_map-append (λ (one : Record). records_above ImageKind one.key records) some others)
    ∙ filter_map-append (record_answer records called query) (images_of records some) (images_of records others)

-- answers were taken after what was looked up so far
pub takes_on : {T X Z : Type 0} (state : T → State) (old mid new : Past T) (x : X) (Fact : List Record → Type 0)
    → LooksSoFar state old mid x Fact → (before after : PageCollector) (look : List Record → List ElementList)
    → TakesAnswers state mid new before after look (Ok (tt {0})) → (z : Z) (Next : List Record → Type 0)
    → ((records : List Record) → Fact records → Takes before (look records) after → Next records)
    → LooksSoFar state old new z Next
takes_on state old mid new x Fact first before after look second z Next next = record {
  same = same_then old mid new first.same second.same;
  reads = reads_right (state_in state old) (state_in state new) (tt {0}) z
      (reads_then (state_in state old) (state_in state mid) (state_in state new) x (Ok (tt {0})) first.reads second.reads);
  fact = λ h.
      (let was = second.reads.goes.was_honest h in
      let stay : records_in state mid ≡ records_in state old =
      λ i. without (first.same.later i).now (of (first.same.institution i).now.name (first.reads.same was i)) in
      next (records_in state old) (first.fact was) (λ others. second.taken h others
      ∙ ap (λ (records : List Record). with_others before (look records ++ others)) stay));
}

-- the answers of the images of one series more were taken
pub series_taken : (called : List ℕ) (query : Query) (series : List Row) (at : ℕ) (row : Row) (key : List ℕ)
    (now next before : PageCollector) (records : List Record) (all : List ElementList)
    → at < length series → row ≡ get_or series at row → key ≡ row.key
    → StillTakes now (series_answers records called query (drop at series)) before all
    → Takes now (filter_map (record_answer records called query) (records_above ImageKind key records)) next
    → StillTakes next (series_answers records called query (drop (at + 1) series)) before all
series_taken called query series at row key now next before records all within is same_key so_far takes =
    let images : List ℕ → List ElementList = λ k. filter_map (record_answer records called query) (records_above ImageKind k records) in
    let left = series_answers records called query (drop (at + 1) series) in
    let step : series_answers records called query (drop at series) ≡ images key ++ left =
    ap (λ (them : List Row). series_answers records called query them) (from_place series at row within is)
    ∙ filter_map-append (record_answer records called query) (records_above ImageKind row.key records) (images_of records (map record_of (drop (at + 1) series)))
    ∙ ap (λ (k : List ℕ). images k ++ left) (sym same_key) in
    some_taken now next before (images key) left all takes
    (λ others. ap (λ (answers : List ElementList). with_others now (answers ++ others)) (sym step) ∙ so_far others)

-- what a page comes to that took the answers of the images of a study
pub page_of_study : (study : List ℕ) (query : Query) (page : ShownPage) (start after : PageCollector) (records : List Record)
    → start ≡ record { before = page.offset; left = Some (record { answers = min page.limit page_most; octets = page_octets }); answers = [] }
    → Takes start (answers_of_series records [] query (records_above SeriesKind study records)) after
    → with_others after [] ≡ shown_page page (answers_of_series records [] query (records_above SeriesKind study records))
page_of_study study query page start after records begins takes =
    let answers = answers_of_series records [] query (records_above SeriesKind study records) in
    takes []
    ∙ ap (λ (collector : PageCollector). with_others collector (answers ++ [])) begins
    ∙ ap (shown_page page) (append-nil answers)
