-- The open query that a held query stands for, over the records that there were when it began. This is for the prover.
use Rattle.std.specs.Prelude.{◌≡◌, ◌≤◌, ◌⊎◌, ℕ, Bool, true, List, [], ◌∷◌, ◌++◌, length, drop, Option, Some, None, IsSomeAnd, option_map, Result, OnOk}
use Rattle.dq_dataset.specs.Tree.{ElementList}
use Rattle.dq_dimse.specs.declared.command.Command.{Command}
use Rattle.dq_dimse.specs.Sending.{command_set, cut_into_pdus}
use Rattle.dq_dimse.specs.Statuses.{success}
use Rattle.dq_assoc.specs.declared.agreement.AcceptedContext.{AcceptedContext}
use Rattle.dq_config.specs.declared.config.Institution.{Institution}
use Rattle.dq_match.specs.declared.responses.Found.{Found}
use Rattle.dq_tables.specs.declared.fault.TableFault.{TableFault}
use Rattle.dq_tables.specs.declared.row.Row.{Row}
use Rattle.dq_tables.specs.Rows.{Record, of}
use Rattle.dq_tables.specs.TableStates.{State, Reads}
use Rattle.dq_archive.specs.declared.additions.Addition.{Addition}
use Rattle.dq_archive.specs.declared.past.Past.{Past}
use Rattle.dq_archive.specs.Additions.{without, IsTold}
use Rattle.dq_archive.specs.PastArchives.{IsSame, state_in, records_in}
use Rattle.dq_find.specs.OpenSearches.{left_of}
use Rattle.dq_core.specs.declared.answers.Answers.{Answers}
use Rattle.dq_core.specs.declared.answers.Answers.TheVariants as answers
use Rattle.dq_core.specs.declared.answers.MessageOutcome.{MessageOutcome}
use Rattle.dq_core.specs.declared.answers.MessageOutcome.TheVariants as outcome
use Rattle.dq_core.specs.declared.pages.OpenQuery.{OpenQuery as HeldQuery}
use Rattle.dq_core.specs.Services.{response_command, responses, status_alone}
use Rattle.dq_core.specs.Pages.{OpenQuery}

-- the answers that were found and not sent
abbrev pub at_hand : Answers → List ElementList
at_hand (answers.Found queue) = queue.answers
at_hand (answers.Lazy lazy) = lazy.found

-- and those that are still to be found
abbrev pub to_be_found : List Record → Answers → List ElementList
to_be_found records (answers.Found queue) = []
to_be_found records (answers.Lazy lazy) = left_of lazy.search records

abbrev pub status_of : Answers → ℕ
status_of (answers.Found queue) = queue.status
status_of (answers.Lazy lazy) = success

abbrev pub optional_of : Answers → Bool
optional_of (answers.Found queue) = queue.optional
optional_of (answers.Lazy lazy) = lazy.search.query.optional

-- what is left of what is found
abbrev pub found_left : List Record → Answers → Found
found_left records it = record {
  status = status_of it;
  optional = optional_of it;
  answers = at_hand it ++ to_be_found records it;
}

-- what is found for a message, by its outcome
abbrev pub outcome_found : List Record → MessageOutcome → Found
outcome_found records (outcome.Status status) = status_alone status
outcome_found records (outcome.Answers it) = found_left records it

-- the responses that a query which is held has left
abbrev pub open_query_of : List Record → HeldQuery → OpenQuery
open_query_of records query = record {
  context = query.context.id;
  limit = query.limit;
  left = responses query.context query.command (found_left records query.answers);
}

abbrev pub open_query_in : List Record → Option HeldQuery → Option OpenQuery
open_query_in records query = option_map (open_query_of records) query

-- An institution's records without those that were logged after so many.
abbrev pub records_since : List ℕ → List Row → List Addition → ℕ → List Record
records_since name rows log since = without (drop since log) (of name rows)

-- the responses that are left of a query of an institution, by its records and what was logged
abbrev pub query_then : List ℕ → List Row → List Addition → Option HeldQuery → Option OpenQuery
query_then name rows log query =
    option_map (λ (q : HeldQuery). open_query_of (records_since name rows log q.since) q) query

-- a query began when no more was logged than now
abbrev pub IsBegun : List Addition → Option HeldQuery → Type 0
IsBegun log None = Unit {0}
IsBegun log (Some query) = query.since ≤ length log

-- the same for the institution that has a connection, if one has
abbrev pub query_by : Option Institution → List Row → List Addition → Option HeldQuery → Option OpenQuery
query_by None rows log query = open_query_in [] query
query_by (Some i) rows log query = query_then i.name rows log query

-- what was added to it is told, and to nobody nothing is added
abbrev pub IsToldBy : Option Institution → List Row → List Row → List Addition → List Addition → Type 0
IsToldBy None before after old new = after ≡ before
IsToldBy (Some i) before after old new = IsTold i.name before after old new

-- So many answers are at hand, or all; all where there is no number.
abbrev pub AreAtHand : Option ℕ → Answers → Type 0
AreAtHand number it =
    IsSomeAnd number (λ n. n ≤ length (at_hand it)) ⊎ ((records : List Record) → to_be_found records it ≡ [])

-- a look at an archive as it was, at which nothing changes
pub record LooksBack {T A : Type 0} (state : T → State) (old new : Past T)
    (result : Result A TableFault) : Type 0 where
  pub same : IsSame old new
  pub reads : Reads (state_in state old) (state_in state new) result

-- So many answers are at hand, or all, and what is left is what was.
pub record Brings {T : Type 0} (state : T → State) (old new : Past T) (number : Option ℕ)
    (before after : Answers) (result : Result (Unit {0}) TableFault) : Type 0 where
  pub looks : LooksBack state old new result
  pub stays : (state_in state new).honest → OnOk result
      (found_left (records_in state old) after ≡ found_left (records_in state old) before)
  pub enough : OnOk result (AreAtHand number after)

-- The first answer at hand was given, and the others are left.
pub record Gives (before : Answers) (answer : ElementList) (after : Answers) : Type 0 where
  pub hand : at_hand before ≡ answer ∷ at_hand after
  pub others : (records : List Record) → to_be_found records after ≡ to_be_found records before
  pub status : status_of after ≡ status_of before
  pub optional : optional_of after ≡ optional_of before

-- the octets of a response before its data set
abbrev pub command_octets : AcceptedContext → ℕ → Command → ℕ → Bool → List ℕ
command_octets context limit command status with_data =
    cut_into_pdus context.id true limit
    (command_set (response_command context.class command status with_data))
