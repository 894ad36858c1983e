-- The answers to a query, found as they are asked for.
use Rattle.std.specs.Prelude.{◌≡◌, ◌≤◌, ◌⊎◌, ℕ, List, [], ◌++◌, length, Option, IsSomeAnd, Result, Ok, Err, IfOk, OnOk}
use Rattle.dq_dataset.specs.Tree.{ElementList}
use Rattle.dq_dimse.specs.Statuses.{success}
use Rattle.dq_match.specs.Answers.{refused_with}
use Rattle.dq_match.specs.declared.responses.Found.{Found}
use Rattle.dq_tables.specs.declared.fault.TableFault.{TableFault}
use Rattle.dq_tables.specs.Rows.{Record}
use Rattle.dq_tables.specs.TableStates.{State, Reads}
use Rattle.dq_archive.specs.declared.past.Past.{Past}
use Rattle.dq_archive.specs.PastArchives.{IsSame, state_in, records_in}
use Rattle.dq_find.specs.declared.query.Query.{Query}
use Rattle.dq_find.specs.PartialAnswers.{PartialAnswers}
use Rattle.dq_find.specs.Queries.{found_by}
use Rattle.dq_find.specs.OpenSearches.{LookedAt, left_of}

-- The answers that were found and not given yet, and those that are left of the search: what a query
-- that is answered as it is asked stands for, over the records of the moment at which it began.
abbrev pub answers_then : PartialAnswers → List Record → List ElementList
answers_then lazy records = lazy.found ++ left_of lazy.search records

-- the same with the status that refuses a query, or that of one which is answered
abbrev pub found_then : Result PartialAnswers ℕ → List Record → Found
found_then (Err status) records = refused_with status
found_then (Ok lazy) records = record {
  status = success;
  optional = lazy.search.query.optional;
  answers = answers_then lazy records;
}

-- A query began, unless it is refused: what is found then is what is found now.
pub record BeginsAt {T : Type 0} (state : T → State) (old new : Past T) (called : List ℕ)
    (asked : Result Query ℕ) (result : Result (Result PartialAnswers ℕ) TableFault) : Type 0 where
  pub same : IsSame old new
  pub reads : Reads (state_in state old) (state_in state new) result
  pub found : (state_in state new).honest → IfOk result (λ begun.
      found_then begun (records_in state old) ≡ found_by (records_in state old) called asked)

-- At least so many answers were found, or none is left to find. Without a number, none is left.
abbrev pub HasFound : Option ℕ → PartialAnswers → Type 0
HasFound number lazy =
    IsSomeAnd number (λ n. n ≤ length lazy.found) ⊎ ((records : List Record) → left_of lazy.search records ≡ [])

-- More was looked at, and the answers are those that they were.
pub record LooksFurther {T : Type 0} (state : T → State) (old new : Past T) (most : ℕ)
    (before after : PartialAnswers) (result : Result (Unit {0}) TableFault) : Type 0 where
  pub same : IsSame old new
  pub reads : Reads (state_in state old) (state_in state new) result
  pub asked : after.search.query ≡ before.search.query
  pub stays : (state_in state new).honest → OnOk result (
      answers_then after (records_in state old) ≡ answers_then before (records_in state old))
  pub looked : (state_in state new).honest
      → OnOk result (LookedAt most (records_in state old) before.search after.search)

-- So many answers were found, or all, and the answers are those that they were.
pub record Finds {T : Type 0} (state : T → State) (old new : Past T) (number : Option ℕ)
    (before after : PartialAnswers) (result : Result (Unit {0}) TableFault) : Type 0 where
  pub same : IsSame old new
  pub reads : Reads (state_in state old) (state_in state new) result
  pub asked : after.search.query ≡ before.search.query
  pub stays : (state_in state new).honest → OnOk result (
      answers_then after (records_in state old) ≡ answers_then before (records_in state old))
  pub enough : OnOk result (HasFound number after)
