-- The answer to a request, over the rows that are there.
use Rattle.std.specs.Prelude.{◌≡◌, ◌⊎◌, ◌==◌, ℕ, Bool, true, false, if◌then◌else◌, List, [], ◌∷◌, length, map, Option, Some, None, Result, Ok, Err, OnOk}
use Rattle.std.specs.Allocator.{alloc_error}
use Rattle.std.specs.List.{list_any}
use Rattle.std.specs.Str.{bytes_eq}
use Rattle.std.specs.declared.alloc.AllocError.{AllocError}
use Rattle.dq_config.specs.declared.config.Institution.{Institution}
use Rattle.dq_dataset.specs.Tree.{ElementList}
use Rattle.dq_dimse.specs.Statuses.{success}
use Rattle.dq_match.specs.declared.responses.Found.{Found}
use Rattle.dq_tables.specs.declared.row.Kind.TheVariants as kind
use Rattle.dq_tables.specs.declared.row.Row.{Row}
use Rattle.dq_tables.specs.declared.fault.TableFault.{TableFault}
use Rattle.dq_tables.specs.declared.fault.TableFault.TheVariants as table_fault
use Rattle.dq_tables.specs.Lookups.{rows_of}
use Rattle.dq_tables.specs.TableStates.{State}
use Rattle.dq_core.specs.declared.event.Event.{Event}
use Rattle.dq_core.specs.declared.event.Event.TheVariants as event
use Rattle.dq_core.specs.declared.event.Reply.{Reply}
use Rattle.dq_core.specs.declared.event.Reply.TheVariants as reply
use Rattle.dq_core.specs.declared.fault.Fault.{Fault}
use Rattle.dq_core.specs.declared.fault.Fault.TheVariants as fault
use Rattle.dq_core.specs.declared.showing.SearchKind.{SearchKind}
use Rattle.dq_core.specs.declared.showing.SearchKind.TheVariants as among
use Rattle.dq_core.specs.Looking.{Looked, FailsToLook}
use Rattle.dq_core.specs.Showing.{found_for, steps_for}
use Rattle.dq_core.specs.ServerView.{ServerView}
use Rattle.dq_wires.specs.ServerSteps.{Stepped, Fails}
use Rattle.dq_request.specs.declared.request.Request.{Request}
use Rattle.dq_request.specs.declared.request.Request.TheVariants as request
use Rattle.dq_request.specs.declared.response.Cause.TheVariants as cause
use Rattle.dq_request.specs.declared.response.Counted.{Counted}
use Rattle.dq_request.specs.declared.response.Counts.{Counts}
use Rattle.dq_request.specs.declared.response.Response.{Response}
use Rattle.dq_request.specs.declared.response.Response.TheVariants as response
use Rattle.dq_request.specs.declared.response.BackupError.{BackupError}
use Rattle.dq_request.specs.declared.search.Search.{Search}
use Rattle.dq_request.specs.declared.search.Subject.{Subject}
use Rattle.dq_request.specs.declared.search.Subject.TheVariants.{StudyImages, Worklist, Steps}
use Rattle.dq_request.specs.Searches.{identifier_of}
use Rattle.dq_console.specs.declared.answer_error.AnswerError.{AnswerError}
use Rattle.dq_console.specs.declared.answer_error.AnswerError.TheVariants.{NoMemory, Server}

-- ---- searches

-- among what is searched; studies, series and images of a series begin after a key, if there is one
abbrev pub kind_of : Subject → Option (List ℕ) → SearchKind
kind_of Worklist after = among.Worklist
kind_of StudyImages after = among.StudyImages
kind_of subject after = among.StudyRoot after

-- what was found; the status of a search that is refused; or that no institution has the name
abbrev pub found_response : Option Found → Response
found_response None = response.Refused cause.Institution
found_response (Some found) =
    if found.status == success then response.Found found.answers
    else response.Refused (cause.Search found.status)

abbrev pub steps_response : Option (List ElementList) → Response
steps_response None = response.Refused cause.Institution
steps_response (Some steps) = response.Found steps

abbrev pub is_steps : Subject → Bool
is_steps Steps = true
is_steps subject = false

-- The answer to a search over rows: a page of the procedure steps of the institution that it names, or of what its keys
-- find there, as in a C-FIND (PS3.4 sections C.4.1 and K.4.1).
abbrev pub search_response : List Institution → List Row → Search → Response
search_response institutions rows search =
    if is_steps search.subject
    then steps_response (steps_for institutions search.institution rows search.page)
    else found_response (found_for institutions search.institution rows (kind_of search.subject search.after)
    (identifier_of search.subject search.keys) search.page)

-- ---- counts

abbrev pub counts_of : List Row → List ℕ → Counts
counts_of rows name = record {
  studies = length (rows_of kind.Study name rows);
  series = length (rows_of kind.Series name rows);
  images = length (rows_of kind.Image name rows);
  entries = length (rows_of kind.Entry name rows);
  steps = length (rows_of kind.Step name rows);
}

abbrev pub institution_counts : List Row → List ℕ → Counted
institution_counts rows name = record { institution = name; counts = counts_of rows name }

abbrev pub is_among : List (List ℕ) → List ℕ → Bool
is_among names name = list_any (λ it. bytes_eq it name) names

-- how much an institution keeps, if it is one of these
abbrev pub counts_response : List (List ℕ) → List Row → List ℕ → Response
counts_response names rows name =
    if is_among names name then response.Counted (institution_counts rows name ∷ [])
    else response.Refused cause.Institution

-- how much each of these keeps, in their order
abbrev pub report_response : List (List ℕ) → List Row → Response
report_response names rows = response.Counted (map (institution_counts rows) names)

-- ---- orders

-- the order of the console that is asked for
abbrev pub order_in : Request → Option Event
order_in (request.Schedule institution octets) = Some (event.Schedule institution octets)
order_in (request.Withdraw institution id) = Some (event.Withdraw institution id)
order_in other = None

-- The answer to an order: that it is done, or its refusal. No order has another reply, which would be no refusal's
-- number.
abbrev pub order_response : Reply → Response
order_response reply.Done = response.Done
order_response (reply.Refused number) = response.Refused (cause.Order number)
order_response other = response.Refused (cause.Order 0)

-- a copy that is made, or its refusal
abbrev pub backup_response : Result (Unit {0}) BackupError → Response
backup_response (Ok made) = response.Done
backup_response (Err refusal) = response.Refused (cause.Copy refusal)

-- ---- what is done for a request

-- An order was stepped, and its reply is the answer.
abbrev pub Orders : {Tables : Type 0} → (Tables → State) → ServerView Tables → ServerView Tables
    → Event → Response → Type 0
Orders state old new event response =
    (reply : Reply) × Stepped state old new event reply × (response ≡ order_response reply)

-- The rows were looked at, and the answer is of them.
abbrev pub Shows : {Tables : Type 0} → (Tables → State) → ServerView Tables → ServerView Tables
    → (List Row → Response) → Response → Type 0
Shows state old new answer response = Looked state old new
    × ((state new.tables).honest → response ≡ answer (state old.tables).rows)

-- A copy of all rows was asked for. The server is as it was, whether it is made or not. `Done` says that what a
-- copy of these rows is is there.
pub record BacksUp {Tables : Type 0} (state : Tables → State) (copied : List Row → Type 0)
    (old new : ServerView Tables) (answer : Response) : Type 0 where
  pub looked : Looked state old new
  pub made : Result (Unit {0}) BackupError
  pub answer_is : answer ≡ backup_response made
  pub is_copied : (state new.tables).honest → OnOk made (copied (state old.tables).rows)

-- The answer to a request, by a server of institutions with these names.
module _ {Tables : Type 0} (state : Tables → State) (copied : List Row → Type 0)
    (names : List (List ℕ)) where
  abbrev pub Answered : ServerView Tables → ServerView Tables → Request → Response → Type 0
  Answered old new (request.Search search) answer =
      Shows state old new (λ rows. search_response old.institutions rows search) answer
  Answered old new (request.Counts name) answer =
      Shows state old new (λ rows. counts_response names rows name) answer
  Answered old new request.Report answer = Shows state old new (report_response names) answer
  Answered old new (request.Schedule institution octets) answer =
      Orders state old new (event.Schedule institution octets) answer
  Answered old new (request.Withdraw institution id) answer =
      Orders state old new (event.Withdraw institution id) answer
  Answered old new (request.Backup path) answer = BacksUp state copied old new answer

-- ---- what is left if there is no answer

-- So it is unless the server failed.
abbrev pub GoesOn : {Answer : Type 0} → Result Answer AnswerError → Type 0 → Type 0
GoesOn (Ok answer) it = it
GoesOn (Err error) it = error ≡ NoMemory → it

abbrev pub fault_of : AnswerError → Fault
fault_of NoMemory = fault.NoMemory
fault_of (Server why) = why

-- Want of memory is seen in place of what a look sees, and is no fault.
abbrev pub IsIfMemory : {Seen : Type 0} → Result Seen TableFault → Result (Result Seen AllocError) TableFault → Type 0
IsIfMemory (Ok seen) result = result ≡ Ok (Ok seen)
IsIfMemory (Err table_fault.NoMemory) result = result ≡ Ok (Err alloc_error)
IsIfMemory (Err table_fault.Store) result = result ≡ Err table_fault.Store

module _ {Tables : Type 0} (state : Tables → State) where
  -- A server failed, at an event or at a look.
  abbrev pub HasFailed : ServerView Tables → ServerView Tables → Type 0
  HasFailed old new = ((event : Event) × (why : Fault) × Fails state old new event why)
      ⊎ ((why : Fault) × FailsToLook state old new why)

  -- The state in which a server is left when its service stops: it is as it was, or it failed.
  abbrev pub IsLeft : ServerView Tables → ServerView Tables → Type 0
  IsLeft old new = (new ≡ old) ⊎ HasFailed old new

  -- There is no memory for an answer, and the server is as it was; or it failed at a look.
  abbrev pub IsLeftBy : AnswerError → ServerView Tables → ServerView Tables → Type 0
  IsLeftBy NoMemory last new = new ≡ last
  IsLeftBy (Server why) last new = FailsToLook state last new why

  -- some looks, and then that
  abbrev pub LooksInPart : ServerView Tables → ServerView Tables → AnswerError → Type 0
  LooksInPart old new error = (last : ServerView Tables) × Looked state old last × IsLeftBy error last new

  -- There is no memory for an order, and nothing came about, or for its answer once it was stepped; or it failed.
  abbrev pub OrdersInPart : ServerView Tables → ServerView Tables → Event → AnswerError → Type 0
  OrdersInPart old new event NoMemory = (new ≡ old) ⊎ ((reply : Reply) × Stepped state old new event reply)
  OrdersInPart old new event (Server why) = Fails state old new event why

  -- A request is not answered: its order was done in part, or nothing but looks came about.
  abbrev pub Unanswered : ServerView Tables → ServerView Tables → Request → AnswerError → Type 0
  Unanswered old new (request.Schedule institution octets) error =
      OrdersInPart old new (event.Schedule institution octets) error
  Unanswered old new (request.Withdraw institution id) error =
      OrdersInPart old new (event.Withdraw institution id) error
  Unanswered old new other error = LooksInPart old new error
