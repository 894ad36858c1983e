use Rattle.std.proofs.Common.{◌∙◌, ℕ, ◌<◌, ◌≤◌, List, Option, Ok, length, take, refl, sym, ap, subst, arith}
use Rattle.std.specs.List.{filter_map}
use Rattle.std.proofs.lemmas.Bool.Decides.{nat_tests}
use Rattle.std.proofs.lemmas.List.Elements.{filter_map-append}
use Rattle.dq_dataset.specs.Tree.{ElementList}
use Rattle.dq_match.proofs.Answering.{given_of_each}
use Rattle.dq_tables.specs.declared.row.Kind.TheVariants.{Image as ImageKind}
use Rattle.dq_tables.specs.declared.row.Row.{Row}
use Rattle.dq_tables.specs.Lookups.{records_above}
use Rattle.dq_tables.specs.Rows.{Record, record_of, row_of}
use Rattle.dq_tables.proofs.TableCalls.{reads_nothing}
use Rattle.dq_archive.specs.PastArchives.{state_in, records_in}
use Rattle.dq_archive.proofs.PastLookups.{LooksSoFar, looks_alike}
use Rattle.dq_find.specs.declared.query.Query.{Query}
use Rattle.dq_find.specs.Queries.{record_answer, records_behind}
use Rattle.dq_find.proofs.PastRecords.{above_then}
use Rattle.dq_find.proofs.RowAnswers.{row_answers}
use Rattle.dq_find.proofs.PartAnswers.{LeftBehind, few_rows, few_taken, left_behind, taken_full, taken_all}
use Rattle.dq_find.proofs.study_images.take_series.Goals as goal

abbrev all_images : List ℕ → List Record → List Record
all_images series records = records_above ImageKind series records

abbrev given_by : List ℕ → Query → List Record → List Record → List ElementList
given_by called query records images = filter_map (record_answer records called query) images

pub loop-init : goal.loop-init
loop-init g c =
    let state = g.T.Tables.state in
    let it = c.args.archive.now in
    record {
      same = record { tables = refl; institution = refl; later = refl };
      reads = reads_nothing (state_in state it) tt;
      fact = λ h. (
        λ others. refl,
        above_then it.later.now it.institution.now.name (state_in state it).rows ImageKind c.args.series.now
            (c.honest_rows_are_sound.ensures.rising it.tables.now h),
      );
    }

pub returns-then-is_full : goal.returns-then-is_full
returns-then-is_full g c =
    let search = c.args.search.now in
    taken_full g.T.Tables.state c.loop.archive.institution.now.name 256 (all_images c.args.series.now) (given_by search.called.now search.query.now)
    c.args.page.now c.args.archive.now c.loop.archive c.loop.after c.loop.page c.loop.invariant (c.is_full.ensures c.if-is_full.true)

pub returns-then-len-lt-MOST_AT_ONCE : goal.returns-then-len-lt-MOST_AT_ONCE
returns-then-len-lt-MOST_AT_ONCE g c =
    let state = g.T.Tables.state in
    let old = c.args.archive.now in
    let one = c.loop.archive in
    let two = c.rows_above_after.new.self in
    let three = c.take_answers.new.archive in
    let called = c.args.search.now.called.now in
    let query = c.args.search.now.query.now in
    let name = one.institution.now.name in
    let all = all_images c.args.series.now in
    let given = given_by called query in
    let rows = c.in_ok-images.images in
    let so_far = few_taken state name 256 all given c.args.page.now (λ records xs ys. filter_map-append (record_answer records called query) xs ys) old one two three c.loop.after rows
    c.loop.page c.take_answers.new.page c.loop.invariant
    (looks_alike state one two _ (few_rows name 256 all c.loop.after) (Ok rows) c.in_ok-images.ensures
    (λ h. ap (λ (key : Option (List ℕ)). few_rows name 256 all key (records_in state one)) c.lent_key-behind.ensures))
    (λ records. row_answers records called query c.as_slice.result.now) c.in_ok-take_answers.ensures
    (λ records listed. ap (row_answers records called query) (c.as_slice.ensures ∙ listed)
    ∙ given_of_each (λ (row : Row). record_answer records called query (record_of row)) (row_of name) (take 256 (records_behind c.loop.after (all records)))) in
    let few : length rows < 256 = grind (arith, nat_tests) in
    taken_all state name 256 all given c.args.page.now old three c.loop.after rows c.take_answers.new.page so_far (λ records. refl) few

pub loop-preserved : goal.loop-preserved
loop-preserved g c =
    let state = g.T.Tables.state in
    let old = c.args.archive.now in
    let one = c.loop.archive in
    let two = c.rows_above_after.new.self in
    let three = c.take_answers.new.archive in
    let called = c.args.search.now.called.now in
    let query = c.args.search.now.query.now in
    let name = one.institution.now.name in
    let all = all_images c.args.series.now in
    let given = given_by called query in
    let rows = c.in_ok-images.images in
    let so_far = few_taken state name 256 all given c.args.page.now (λ records xs ys. filter_map-append (record_answer records called query) xs ys) old one two three c.loop.after rows
    c.loop.page c.take_answers.new.page c.loop.invariant
    (looks_alike state one two _ (few_rows name 256 all c.loop.after) (Ok rows) c.in_ok-images.ensures
    (λ h. ap (λ (key : Option (List ℕ)). few_rows name 256 all key (records_in state one)) c.lent_key-behind.ensures))
    (λ records. row_answers records called query c.as_slice.result.now) c.in_ok-take_answers.ensures
    (λ records listed. ap (row_answers records called query) (c.as_slice.ensures ∙ listed)
    ∙ given_of_each (λ (row : Row). record_answer records called query (record_of row)) (row_of name) (take 256 (records_behind c.loop.after (all records)))) in
    let many : 256 ≤ length rows = grind (arith, nat_tests) in
    let left = left_behind state name 256 all given c.args.page.now old three c.loop.after rows c.take_answers.new.page so_far (omega arith) many in
    subst (λ (key : Option (List ℕ)). LooksSoFar state old three (tt {0}) (LeftBehind all given c.args.page.now c.take_answers.new.page key))
    (sym c.last_key-after.ensures) left
