-- A page that takes the answers of the entries that wait, read after read.
use Rattle.std.proofs.Common.{◌≡◌, ℕ, ◌<◌, not, List, [], ◌++◌, map, take, Option, Some, None, Ok, refl, sym, ap, ◌∙◌}
use Rattle.std.specs.List.{filter_map}
use Rattle.std.proofs.lemmas.List.Elements.{filter_map-append}
use Rattle.dq_dataset.specs.Tree.{ElementList}
use Rattle.dq_match.specs.Parts.{with_others}
use Rattle.dq_match.specs.declared.page_collector.PageCollector.{PageCollector}
use Rattle.dq_match.proofs.Answering.{given_of_each}
use Rattle.dq_tables.specs.declared.row.Kind.TheVariants.{Entry}
use Rattle.dq_tables.specs.declared.row.Row.{Row}
use Rattle.dq_tables.specs.Rows.{Record, IsRising, of, record_of, row_of}
use Rattle.dq_tables.specs.Lookups.{records_of, records_behind, waiting_among}
use Rattle.dq_tables.specs.Records.{AreInOrder}
use Rattle.dq_tables.specs.TableStates.{State}
use Rattle.dq_tables.proofs.RecordLists.{listed_in_order, in_order_filter}
use Rattle.dq_tables.proofs.TableCalls.{reads_nothing, reads_right}
use Rattle.dq_archive.specs.declared.archive.Archive.{Archive}
use Rattle.dq_archive.specs.Archives.{QueriesOnly, state_in, records_in}
use Rattle.dq_archive.proofs.Lookups.{LooksSoFar, looks_on}
use Rattle.dq_worklist.specs.Candidates.{entry_answer}
use Rattle.dq_worklist.specs.EntryReads.{Takes, last_key, left_behind, row_answers}
use Rattle.dq_worklist.proofs.OrderedReads.{ends_with_those_behind, read_on}

pub waiting_in_order : (institution : List ℕ) (rows : List Row) → IsRising rows → AreInOrder (waiting_among (of institution rows))
waiting_in_order institution rows rising =
    in_order_filter (λ (r : Record). not r.started) (records_of Entry (of institution rows)) (listed_in_order Entry institution rows rising)

-- a page takes no more answers
abbrev pub IsFull : PageCollector → Type 0
IsFull page = (others : List ElementList) → with_others page others ≡ page.answers

-- The entries that wait are in order, and a page comes to the same with the answers of those behind a key as one did with
-- the answers of all.
pub record TakenBefore (keys : ElementList) (before now : PageCollector) (after : Option (List ℕ)) (records : List Record) : Type 0 where
  pub ordered : AreInOrder (waiting_among records)
  pub left : with_others now (filter_map (entry_answer keys) (records_behind after (waiting_among records)))
      ≡ with_others before (filter_map (entry_answer keys) (waiting_among records))

module _ (keys : ElementList) (before now : PageCollector) (after : Option (List ℕ)) (records : List Record)
    (so_far : TakenBefore keys before now after records) where
  abbrev given : List Record → List ElementList
  given entries = filter_map (entry_answer keys) entries

  abbrev waiting : List Record
  waiting = waiting_among records

  -- it is full
  pub taken_full : IsFull now → with_others now [] ≡ with_others before (given waiting)
  taken_full full = full [] ∙ sym (full (given (records_behind after waiting))) ∙ so_far.left

  -- the next were read, and it took their answers
  module _ (institution : List ℕ) (most : ℕ) (some : 0 < most) (rows : List Row) (next : PageCollector)
      (found : rows ≡ map (row_of institution) (take most (records_behind after waiting))) (takes : Takes now (row_answers keys rows) next) where
    abbrev page : List Record
    page = take most (records_behind after waiting)

    taken_then : with_others next (given (left_behind (last_key rows) waiting)) ≡ with_others before (given waiting)
    taken_then =
        takes (given (left_behind (last_key rows) waiting))
        ∙ ap (λ (answers : List ElementList). with_others now (answers ++ given (left_behind (last_key rows) waiting)))
        (ap (row_answers keys) found ∙ given_of_each (λ (row : Row). entry_answer keys (record_of row)) (row_of institution) page)
        ∙ ap (with_others now) (sym (filter_map-append (entry_answer keys) page (left_behind (last_key rows) waiting))
        ∙ ap (λ (key : Option (List ℕ)). given (page ++ left_behind key waiting)) (ap last_key found)
        ∙ ap given (sym (read_on institution most some waiting so_far.ordered (records_behind after waiting)
        (ends_with_those_behind after waiting so_far.ordered))))
        ∙ so_far.left

    -- none came
    pub taken_all : last_key rows ≡ None → with_others next [] ≡ with_others before (given waiting)
    taken_all none = sym (ap (λ (key : Option (List ℕ)). with_others next (given (left_behind key waiting))) none) ∙ taken_then

    -- the others are left
    pub taken_next : (key : List ℕ) → last_key rows ≡ Some key → TakenBefore keys before next (Some key) records
    taken_next key is = record {
      ordered = so_far.ordered;
      left = sym (ap (λ (k : Option (List ℕ)). with_others next (given (left_behind k waiting))) is) ∙ taken_then;
    }

-- ---- the same over an archive

module _ {T : Type 0} (state : T → State) (old : Archive T) (keys : ElementList) (before : PageCollector) where
  abbrev waiting_answers : List Record → List ElementList
  waiting_answers records = with_others before (filter_map (entry_answer keys) (waiting_among records))

  abbrev pub SoFar : Archive T → PageCollector → Option (List ℕ) → Type 0
  SoFar mid now after = LooksSoFar state old mid (tt {0}) (TakenBefore keys before now after)

  -- nothing was read
  pub taken_none : ((state_in state old).honest → IsRising (state_in state old).rows) → SoFar old before None
  taken_none rising = record {
    same = record { tables = refl; institution = refl };
    reads = reads_nothing (state_in state old) tt;
    fact = λ h. record { ordered = waiting_in_order old.institution.now.name (state_in state old).rows (rising h); left = refl };
  }

  module _ (mid : Archive T) (now : PageCollector) (after : Option (List ℕ)) (so_far : SoFar mid now after) where
    pub full_answers : (answers : List ElementList) → IsFull now → answers ≡ with_others now [] → QueriesOnly state old mid waiting_answers (Ok answers)
    full_answers answers full are = record {
      same = so_far.same;
      reads = reads_right (state_in state old) (state_in state mid) tt answers so_far.reads;
      answered = λ h. are ∙ taken_full keys before now after (records_in state old) (so_far.fact h) full;
    }

    module _ (new : Archive T) (most : ℕ) (some : 0 < most) (rows : List Row) (next : PageCollector)
        (read : QueriesOnly state mid new
        (λ records. map (row_of mid.institution.now.name) (take most (records_behind after (waiting_among records)))) (Ok rows))
        (takes : Takes now (row_answers keys rows) next) where
      abbrev look : List Record → List Row
      look records = map (row_of mid.institution.now.name) (take most (records_behind after (waiting_among records)))

      pub all_answers : (answers : List ElementList) → last_key rows ≡ None → answers ≡ with_others next []
          → QueriesOnly state old new waiting_answers (Ok answers)
      all_answers answers none are =
          let looked : LooksSoFar state old new answers (λ records. answers ≡ waiting_answers records) =
          looks_on state old mid new tt (TakenBefore keys before now after) so_far rows answers look (λ records. answers ≡ waiting_answers records) read
          (λ records fact found. are ∙ taken_all keys before now after records fact mid.institution.now.name most some rows next found takes none) in
          record { same = looked.same; reads = looked.reads; answered = looked.fact }

      pub next_so_far : (key : List ℕ) → last_key rows ≡ Some key → SoFar new next (Some key)
      next_so_far key is =
          looks_on state old mid new tt (TakenBefore keys before now after) so_far rows tt look (TakenBefore keys before next (Some key)) read
          (λ records fact found. taken_next keys before now after records fact mid.institution.now.name most some rows next found takes key is)
