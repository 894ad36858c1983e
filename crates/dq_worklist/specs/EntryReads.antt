-- Rows that are read a few at a time, and a page that takes the answers of each read. This is there for the prover: what
-- is answered is `answers_of_entries` of Queries.
use Rattle.std.specs.Prelude.{◌≡◌, ℕ, List, [], ◌∷◌, ◌++◌, filter, Option, Some, None}
use Rattle.std.specs.List.{filter_map}
use Rattle.std.specs.Ordering.{is_gt}
use Rattle.dq_dataset.specs.Tree.{ElementList}
use Rattle.dq_match.specs.Parts.{with_others}
use Rattle.dq_match.specs.declared.page_collector.PageCollector.{PageCollector}
use Rattle.dq_tables.specs.declared.row.Row.{Row}
use Rattle.dq_tables.specs.Rows.{Record, octet_order, record_of}
use Rattle.dq_worklist.specs.Candidates.{entry_answer}

-- the key of the last of some rows
abbrev pub last_key : List Row → Option (List ℕ)
last_key [] = None
last_key (row ∷ []) = Some row.key
last_key (row ∷ (next ∷ others)) = last_key (next ∷ others)

-- those of some records that are left behind a read which ends with a key: none if it found none
abbrev pub left_behind : Option (List ℕ) → List Record → List Record
left_behind None records = []
left_behind (Some key) records = filter (λ (r : Record). is_gt (octet_order r.key key)) records

-- the answers that rows of entries give to keys
abbrev pub row_answers : ElementList → List Row → List ElementList
row_answers keys rows = filter_map (λ (row : Row). entry_answer keys (record_of row)) rows

-- A page took these answers: what it comes to with others is what it came to with these before them.
abbrev pub Takes : PageCollector → List ElementList → PageCollector → Type 0
Takes before answers after =
    (others : List ElementList) → with_others after others ≡ with_others before (answers ++ others)
