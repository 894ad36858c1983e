-- A page that the performed procedure steps of an institution are taken into, read after read.
use Rattle.std.proofs.Common.{◌≡◌, ℕ, List, [], ◌∷◌, ◌++◌, map, take, drop, min, Option, Some, None, Ok, refl, sym, ap, ◌∙◌, arith}
use Rattle.std.proofs.lemmas.List.{drop-map, map-append}
use Rattle.dq_dataset.specs.Tree.{ElementList}
use Rattle.dq_match.specs.Parts.{with_others}
use Rattle.dq_match.specs.ShownPages.{shown_page, page_most, page_octets}
use Rattle.dq_match.specs.declared.page_collector.PageCollector.{PageCollector}
use Rattle.dq_match.specs.declared.shown_page.ShownPage.{ShownPage}
use Rattle.dq_tables.specs.declared.row.Kind.TheVariants.{Step}
use Rattle.dq_tables.specs.declared.row.Row.{Row}
use Rattle.dq_tables.specs.Rows.{Record, IsRising, of, row_of}
use Rattle.dq_tables.specs.Lookups.{records_of}
use Rattle.dq_tables.specs.Records.{AreInOrder, data_set_of}
use Rattle.dq_tables.specs.TableStates.{State, Reads}
use Rattle.dq_tables.proofs.RecordLists.{listed_in_order}
use Rattle.dq_tables.proofs.TableCalls.{reads_nothing, reads_then, reads_right}
use Rattle.dq_worklist.specs.EntryReads.{Takes, last_key, left_behind}
use Rattle.dq_worklist.proofs.OrderedReads.{EndsWith, ends_with_dropped, ends_with_those_behind, read_on}
use Rattle.dq_core.specs.Showing.{steps_in}
use Rattle.dq_core.specs.StepReads.{data_sets_of_rows, steps_at_once, steps_left}

abbrev pub data_sets : List Record → List ElementList
data_sets records = map (λ (r : Record). data_set_of r.octets) records

of_rows : (h : List ℕ) (records : List Record) → data_sets_of_rows (map (row_of h) records) ≡ data_sets records
of_rows h [] = refl
of_rows h (r ∷ records) = ap (λ (sets : List ElementList). data_set_of r.octets ∷ sets) (of_rows h records)

ends_with_left : (from : ℕ) (after : Option (List ℕ)) (steps : List Record) → AreInOrder steps → EndsWith steps (steps_left from after steps)
ends_with_left from None steps ordered = ends_with_dropped from steps
ends_with_left from (Some key) steps ordered = ends_with_those_behind (Some key) steps ordered

-- what a read finds
abbrev pub found_of : List ℕ → ℕ → Option (List ℕ) → List Row → List Row
found_of h from after rows = map (row_of h) (take steps_at_once (steps_left from after (records_of Step (of h rows))))

-- A page comes to the same with the steps that are left as the page that is shown, and nothing changed.
pub record TakenBefore {T : Type 0} (state : T → State) (old now : T) (h : List ℕ) (page : ShownPage) (after : Option (List ℕ))
    (taken : PageCollector) : Type 0 where
  pub reads : Reads (state old) (state now) (Ok (tt {0}))
  pub left : (state now).honest → with_others taken (data_sets (steps_left page.offset after (records_of Step (of h (state old).rows))))
      ≡ shown_page page (steps_in (of h (state old).rows))

module _ {T : Type 0} (state : T → State) (old : T) (h : List ℕ) (page : ShownPage) where
  abbrev steps : List Record
  steps = records_of Step (of h (state old).rows)

  abbrev all_shown : List ElementList
  all_shown = shown_page page (steps_in (of h (state old).rows))

  pub taken_none : (first : PageCollector)
      → first ≡ record { before = 0; left = Some (record { answers = min page.limit page_most; octets = page_octets }); answers = [] }
      → TakenBefore state old old h page None first
  unfolding steps_in
  taken_none first is = record {
    reads = reads_nothing (state old) tt;
    left = λ honest.
        ap (λ (part : PageCollector). with_others part (data_sets (drop page.offset steps))) is
        ∙ ap (λ (sets : List ElementList). shown_page (record { offset = 0; limit = page.limit }) sets)
        (sym (drop-map (λ (r : Record). data_set_of r.octets) page.offset steps));
  }

  module _ (now : T) (after : Option (List ℕ)) (taken : PageCollector) (so_far : TakenBefore state old now h page after taken) where
    -- it is full
    pub taken_full : ((others : List ElementList) → with_others taken others ≡ taken.answers) → (state now).honest → with_others taken [] ≡ all_shown
    taken_full full honest = full [] ∙ sym (full (data_sets (steps_left page.offset after steps))) ∙ so_far.left honest

    -- the next were read, and it took them
    module _ (new : T) (rows : List Row) (next : PageCollector) (reads : Reads (state now) (state new) (Ok rows))
        (found : (state new).honest → rows ≡ found_of h page.offset after (state now).rows)
        (takes : Takes taken (data_sets_of_rows rows) next) (rising : (state old).honest → IsRising (state old).rows) where
      abbrev left : List Record
      left = steps_left page.offset after steps

      abbrev read : List Record
      read = take steps_at_once left

      found_first : (state new).honest → rows ≡ map (row_of h) read
      found_first honest =
          found honest
          ∙ ap (found_of h page.offset after) (so_far.reads.same (reads.goes.was_honest honest))

      taken_then : (state new).honest → with_others next (data_sets (left_behind (last_key rows) steps)) ≡ all_shown
      taken_then honest =
          let was = reads.goes.was_honest honest in
          let ordered : AreInOrder steps = listed_in_order Step h (state old).rows (rising (so_far.reads.goes.was_honest was)) in
          takes (data_sets (left_behind (last_key rows) steps))
          ∙ (λ i. with_others taken (data_sets_of_rows (found_first honest i) ++ data_sets (left_behind (last_key (found_first honest i)) steps)))
          ∙ ap (λ (sets : List ElementList). with_others taken (sets ++ data_sets (left_behind (last_key (map (row_of h) read)) steps))) (of_rows h read)
          ∙ ap (with_others taken) (sym (map-append (λ (r : Record). data_set_of r.octets) read (left_behind (last_key (map (row_of h) read)) steps))
          ∙ ap data_sets (sym (read_on h steps_at_once (omega arith) steps ordered left (ends_with_left page.offset after steps ordered))))
          ∙ so_far.left was

      -- none came
      pub taken_all : last_key rows ≡ None → (state new).honest → with_others next [] ≡ all_shown
      taken_all none honest =
          sym (ap (λ (key : Option (List ℕ)). with_others next (data_sets (left_behind key steps))) none) ∙ taken_then honest

      -- the others are left
      pub taken_next : (key : List ℕ) → last_key rows ≡ Some key → TakenBefore state old new h page (Some key) next
      taken_next key is = record {
        reads = reads_right (state old) (state new) rows tt (reads_then (state old) (state now) (state new) tt (Ok rows) so_far.reads reads);
        left = λ honest. sym (ap (λ (k : Option (List ℕ)). with_others next (data_sets (left_behind k steps))) is) ∙ taken_then honest;
      }
