-- A search that is open: its answers are found a page at a time. What is left of it are the answers
-- of the records that it has still to look at.
use Rattle.std.specs.Prelude.{◌≡◌, ◌+◌, ℕ, List, [], ◌∷◌, ◌++◌, length, take, drop, Option, Some, None, Result, IfOk, IfSome, OnOk, OnErr}
use Rattle.std.specs.List.{filter, filter_map}
use Rattle.std.specs.Ordering.{is_gt}
use Rattle.dq_dataset.specs.Tree.{ElementList}
use Rattle.dq_match.specs.declared.page_collector.PageCollector.{PageCollector}
use Rattle.dq_tables.specs.declared.fault.TableFault.{TableFault}
use Rattle.dq_tables.specs.declared.row.Row.{Row}
use Rattle.dq_tables.specs.Rows.{Record, octet_order}
use Rattle.dq_tables.specs.TableStates.{State, Reads}
use Rattle.dq_archive.specs.declared.past.Past.{Past}
use Rattle.dq_archive.specs.PastArchives.{IsSame, state_in, records_in}
use Rattle.dq_find.specs.declared.open_search.SearchCursor.{SearchCursor}
use Rattle.dq_find.specs.declared.open_search.SearchCursor.TheVariants.{Under, Named, Nothing}
use Rattle.dq_find.specs.declared.open_search.OpenSearch.{OpenSearch}
use Rattle.dq_find.specs.declared.query.Query.{Query}
use Rattle.dq_find.specs.Candidates.{named_record, query_candidates}
use Rattle.dq_find.specs.Queries.{record_answer, asked_records, records_behind, answers_behind}
use Rattle.dq_find.specs.StudyImages.{Takes}

-- the records that are still to be looked at
abbrev pub candidates_left : List Record → Query → SearchCursor → List Record
candidates_left records query (Under after) = records_behind after (asked_records records query)
candidates_left records query (Named keys from) = filter_map (named_record records query) (drop from keys)
candidates_left records query Nothing = []

-- the answers that are left
unfoldable pub left_of : OpenSearch → List Record → List ElementList
left_of search records =
    filter_map (record_answer records search.called search.query)
    (candidates_left records search.query search.cursor)

-- the records that are looked at next, at most so many
abbrev pub next_candidates : ℕ → List Record → Query → SearchCursor → List Record
next_candidates most records query (Under after) = take most (records_behind after (asked_records records query))
next_candidates most records query (Named keys from) =
    filter_map (named_record records query) (take most (drop from keys))
next_candidates most records query Nothing = []

-- the key of the last of some rows
abbrev pub last_key : List Row → Option (List ℕ)
last_key [] = None
last_key (row ∷ []) = Some row.key
last_key (row ∷ (next ∷ others)) = last_key (next ∷ others)

-- what is left once some rows were looked at
abbrev pub under_after : Option (List ℕ) → SearchCursor
under_after None = Nothing
under_after (Some key) = Under (Some key)

abbrev pub left_after : ℕ → List Row → SearchCursor → SearchCursor
left_after most rows (Under after) = under_after (last_key rows)
left_after most rows (Named keys from) = Named keys (from + length (take most (drop from keys)))
left_after most rows Nothing = Nothing

-- These keys, if there are any, name in their order the records that a query looks at. A key that no record has
-- names none.
pub record NamesCandidates {T : Type 0} (state : T → State) (old new : Past T) (query : Query)
    (result : Result (Option (List (List ℕ))) TableFault) : Type 0 where
  pub same : IsSame old new
  pub reads : Reads (state_in state old) (state_in state new) result
  pub named : (state_in state new).honest → IfOk result (λ few. IfSome few (λ keys.
      filter_map (named_record (records_in state old) query) keys ≡ query_candidates (records_in state old) query))

-- those of some keys that come behind a key in the order of octets; all where there is no key
abbrev pub keys_behind : Option (List ℕ) → List (List ℕ) → List (List ℕ)
keys_behind None keys = keys
keys_behind (Some after) keys = filter (λ (key : List ℕ). is_gt (octet_order key after)) keys

-- A search began: it asks what it was given, and the answers of all records behind a key are left.
pub record Begins {T : Type 0} (state : T → State) (old new : Past T) (called : List ℕ)
    (query : Query) (after : Option (List ℕ)) (result : Result OpenSearch TableFault) : Type 0 where
  pub same : IsSame old new
  pub reads : Reads (state_in state old) (state_in state new) result
  pub asked : IfOk result (λ search. (search.called ≡ called) × (search.query ≡ query))
  pub all : (state_in state new).honest → IfOk result (λ search.
      left_of search (records_in state old) ≡ answers_behind after (records_in state old) called query)

-- Some of the first answers were passed over, and the result says how many of the count are still to be. The query
-- stays.
pub record Skips {T : Type 0} (state : T → State) (old new : Past T) (count : ℕ)
    (before after : OpenSearch) (result : Result ℕ TableFault) : Type 0 where
  pub same : IsSame old new
  pub reads : Reads (state_in state old) (state_in state new) result
  pub asked : (after.called ≡ before.called) × (after.query ≡ before.query)
  pub passed : (state_in state new).honest → IfOk result (λ more.
      drop more (left_of after (records_in state old)) ≡ drop count (left_of before (records_in state old)))

-- So many of the records that were left were looked at, or all of them, and the others are left.
abbrev pub LookedAt : ℕ → List Record → OpenSearch → OpenSearch → Type 0
LookedAt most records before after =
    candidates_left records before.query before.cursor
    ≡ next_candidates most records before.query before.cursor
    ++ candidates_left records after.query after.cursor

-- the answers of the records that are looked at next, at most so many
abbrev pub next_answers : ℕ → OpenSearch → List Record → List ElementList
next_answers most search records =
    filter_map (record_answer records search.called search.query)
    (next_candidates most records search.query search.cursor)

-- The records that come next were looked at, and a page took their answers, which stood first among those that were
-- left. The others are left. What is asked stays. With a fault nothing was looked at.
pub record TakesNext {T : Type 0} (state : T → State) (old new : Past T) (most : ℕ) (before after : OpenSearch)
    (page filled : PageCollector) (result : Result (Unit {0}) TableFault) : Type 0 where
  pub same : IsSame old new
  pub reads : Reads (state_in state old) (state_in state new) result
  pub asked : (after.called ≡ before.called) × (after.query ≡ before.query)
  pub kept : OnErr result (after ≡ before)
  pub taken : (state_in state new).honest
      → OnOk result (Takes page (next_answers most before (records_in state old)) filled)
  pub left : (state_in state new).honest → OnOk result (left_of before (records_in state old)
      ≡ next_answers most before (records_in state old) ++ left_of after (records_in state old))
  pub looked : (state_in state new).honest
      → OnOk result (LookedAt most (records_in state old) before after)

-- A page was taken of a search: its answers stood first among those that were left, in this order, and
-- the others are left. What is asked stays. With a fault nothing was taken.
pub record TakesPage {T : Type 0} (state : T → State) (old new : Past T) (most : ℕ)
    (before after : OpenSearch) (result : Result (List ElementList) TableFault) : Type 0 where
  pub same : IsSame old new
  pub reads : Reads (state_in state old) (state_in state new) result
  pub asked : (after.called ≡ before.called) × (after.query ≡ before.query)
  pub kept : OnErr result (after ≡ before)
  pub page : (state_in state new).honest → IfOk result (λ page.
      left_of before (records_in state old) ≡ page ++ left_of after (records_in state old))
  pub looked : (state_in state new).honest
      → OnOk result (LookedAt most (records_in state old) before after)
