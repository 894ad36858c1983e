-- The program's behaviour on its words, a configuration and a capture.
use Rattle.std.specs.Prelude.{◌≡◌, ◌≢◌, ℕ, zero, suc, ◌<◌, ◌≤◌, ◌==◌, ◌⊎◌, if◌then◌else◌, codes, IfSome}
use Rattle.std.specs.Prelude.{List, [], ◌∷◌, ◌++◌, length, take, Option, None, Some, Ok, Err}
use Rattle.std.specs.Str.{IsUtf8}
use Rattle.std.specs.Io.KnownBytes.{Keeps, Appends}
use Rattle.dq_config.specs.declared.config.Institution.{Institution}
use Rattle.dq_config.specs.declared.fault.ConfigFault.{ConfigFault}
use Rattle.dq_config.specs.declared.fault.ConfigFault.TheVariants as config
use Rattle.dq_config.specs.Conditions.{configuration}
use Rattle.dq_config.specs.Document.{built_in}
use Rattle.dq_config.specs.Faults.{config_fault_number as config_number}
use Rattle.dq_core.specs.declared.event.Event.{Event}
use Rattle.dq_core.specs.declared.event.Reply.{Reply}
use Rattle.dq_core.specs.declared.fault.Fault.{Fault}
use Rattle.dq_core.specs.declared.fault.Fault.TheVariants as fault
use Rattle.dq_core.specs.Faults.{server_fault_number as fault_number}
use Rattle.dq_core.specs.Runs.{FaultsAfter}
use Rattle.dq_core.specs.Shared.{replies, world_after}
use Rattle.dq_captures.specs.declared.capture.CaptureFault.{CaptureFault}
use Rattle.dq_captures.specs.declared.capture.CaptureFault.TheVariants as capture
use Rattle.dq_app.specs.declared.network.ListenError.{ListenError}
use Rattle.dq_app.specs.declared.network.ListenError.TheVariants as listen_error
use Rattle.dq_captures.specs.declared.surroundings.Unread.{Unread}
use Rattle.dq_captures.specs.declared.surroundings.Unread.TheVariants as unread
use Rattle.dq_app.specs.declared.stop.Misfit.{Misfit}
use Rattle.dq_app.specs.declared.stop.Stop.{Stop}
use Rattle.dq_app.specs.declared.stop.Stop.TheVariants as stop
use Rattle.dq_captures.specs.Captures.{line_feed, lines_of, AreCapture, IsFirstBadLine}
use Rattle.dq_captures.specs.ReplyLines.{numbered_line, reply_lines}
use Rattle.dq_app.specs.Places.{IsAtLine}
use Rattle.dq_captures.specs.Reports.{names_of, report_text}
use Rattle.dq_captures.specs.Surroundings.{AppendsPart, BreaksOff}
use Rattle.dq_app.specs.declared.stores.OpenError.{OpenError}
use Rattle.dq_app.specs.declared.stores.OpenError.TheVariants as open_error
use Rattle.dq_cli.specs.declared.parsed_command.Task.{Task}
use Rattle.dq_cli.specs.declared.parsed_command.Task.TheVariants.{Replay, Report}
use Rattle.dq_cli.specs.CommandLine.{Request, RowsPlace, InMemory, InNewStore, InStore}
use Rattle.dq_tables.specs.declared.row.Row.{Row}
use Rattle.dq_tables.specs.TableStates.{State}
use Rattle.dq_wires.specs.declared.fault.TurnFault.{TurnFault}
use Rattle.dq_wires.specs.declared.fault.TurnFault.TheVariants as turning

-- the most octets that a capture may have
abbrev pub capture_limit : ℕ
capture_limit = 67108864

-- ---- numbers of faults, and what is told of them

abbrev pub no_memory : ℕ
no_memory = fault_number fault.NoMemory

-- how faults stop the program
abbrev pub stop_of_config : ConfigFault → Stop
stop_of_config config.NoMemory = stop.Fault no_memory
stop_of_config other = stop.Config (config_number other)

abbrev pub stop_of_capture : CaptureFault → Stop
stop_of_capture (capture.Line number) = stop.Capture number
stop_of_capture capture.NoMemory = stop.Fault no_memory

-- a file that is not read, and a capture
abbrev pub stop_of_file : Unread → Stop
stop_of_file unread.Failed = stop.Config 0
stop_of_file unread.NoMemory = stop.Fault no_memory

abbrev pub stop_of_input : Unread → Stop
stop_of_input unread.Failed = stop.Capture 0
stop_of_input unread.NoMemory = stop.Fault no_memory

-- a store that is not had
abbrev pub stop_of_store : OpenError → Stop
stop_of_store (open_error.Store number) = stop.Store number
stop_of_store open_error.NoMemory = stop.Fault no_memory

-- turns that stop, and no connections
abbrev pub stop_of_turning : TurnFault → Stop
stop_of_turning turning.NoMemory = stop.Fault no_memory
stop_of_turning (turning.Server why) = stop.Fault (fault_number why)
stop_of_turning turning.Network = stop.Network

abbrev pub stop_of_listening : ListenError → Stop
stop_of_listening listen_error.Failed = stop.Network
stop_of_listening (listen_error.Keys line) = stop.Keys line
stop_of_listening listen_error.NoMemory = stop.Fault no_memory

-- exit statuses
abbrev pub status_of : Stop → ℕ
status_of stop.Usage = 1
status_of (stop.Config number) = 2
status_of (stop.Unfit misfit) = 2
status_of (stop.Keys line) = 2
status_of (stop.Capture number) = 3
status_of (stop.Store number) = 4
status_of (stop.Fault number) = 4
status_of stop.Output = 4
status_of stop.Network = 5

-- The error of a configuration in words, by the number of its fault.
abbrev pub config_words : ℕ → List ℕ
config_words number =
    if number == 0 then codes "the file cannot be read, or is not UTF-8"
    else if number == 1 then codes "it is not TOML, or a key is missing, unknown or not of its type"
    else if number == 2 then codes "a name is not 1 to 16 of A to Z, 0 to 9 and the underscore"
    else if number == 3
    then codes "a title is not 1 to 16 printable characters of ASCII, or has a backslash"
    else if number == 4 then codes "two institutions have one name"
    else if number == 5 then codes "two routes have the same pair of titles"
    else codes "a limit is not 1 to 1000000, or of associations not 1 to 64"

-- where it is wrong, if that is known
abbrev pub place_text : ℕ → List ℕ
place_text line =
    if line == 0 then [] else numbered_line (codes "in the institution of line ") line

-- what is told of a configuration that is checked
abbrev pub misfit_text : Misfit → List ℕ
misfit_text misfit = place_text misfit.line
    ++ numbered_line (config_words misfit.number ++ line_feed ∷ codes "config ") misfit.number

-- The text of a stop on standard error. For usage that is the command line's own text.
abbrev pub stop_text : Stop → List ℕ
stop_text stop.Usage = []
stop_text (stop.Config number) = numbered_line (codes "config ") number
stop_text (stop.Unfit misfit) = misfit_text misfit
stop_text (stop.Keys line) = numbered_line (codes "keys line ") line
stop_text (stop.Capture number) = numbered_line (codes "capture line ") number
stop_text (stop.Store number) = numbered_line (codes "store ") number
stop_text (stop.Fault number) = numbered_line (codes "fault ") number
stop_text stop.Output = []
stop_text stop.Network = codes "network" ++ line_feed ∷ []

-- ---- what a task goes by

-- The configuration is the one of the file, or the one that is built in. What is held at a path, if
-- that is known, is what `held` says.
abbrev pub IsConfigured : (List ℕ → Option (List ℕ)) → Option (List ℕ) → List Institution → Type 0
IsConfigured held None institutions = institutions ≡ built_in
IsConfigured held (Some path) institutions =
    IfSome (held path) (λ octets. IsUtf8 octets × (configuration octets ≡ Ok institutions))

-- The octets are a text of the right size, whose lines tell the events.
pub record TellsEvents (octets : List ℕ) (events : List Event) : Type 0 where
  pub bounded : length octets ≤ capture_limit
  pub text : IsUtf8 octets
  pub lines : AreCapture (lines_of octets) events

-- ---- refusals

-- The number of a refused configuration is that of its fault. 0 stands for a file that may be
-- unreadable, or is no text.
abbrev pub IsBadConfig : Type 0 → Option (List ℕ) → ℕ → Type 0
IsBadConfig may_fail held zero = may_fail ⊎ IfSome held (λ octets. IsUtf8 octets → ⊥)
IsBadConfig may_fail held (suc number) = IfSome held (λ octets.
    IsUtf8 octets × (fault : ConfigFault) × (fault ≢ config.NoMemory)
    × (configuration octets ≡ Err fault) × (config_number fault ≡ suc number))

-- Line 0 stands for an input that may be unreadable, is too long, or is no text.
abbrev pub IsBadCapture : Type 0 → Option (List ℕ) → ℕ → Type 0
IsBadCapture may_fail input zero = may_fail
    ⊎ IfSome input (λ octets. (capture_limit < length octets) ⊎ (IsUtf8 octets → ⊥))
IsBadCapture may_fail input (suc number) = IfSome input (λ octets. (length octets ≤ capture_limit)
    × IsUtf8 octets × IsFirstBadLine (lines_of octets) (suc number))

-- how a configuration is refused
abbrev pub RefusesConfig : Type 0 → Option (List ℕ) → Stop → Type 0
RefusesConfig may_fail held (stop.Config number) = IsBadConfig may_fail held number
RefusesConfig may_fail held (stop.Fault number) = number ≡ no_memory
RefusesConfig may_fail held other = ⊥

-- The line that is told is that of the institution with which the text is refused by this fault; 0
-- stands for none.
abbrev pub IsPlaced : Misfit → List ℕ → Type 0
IsPlaced misfit octets = (misfit.line ≡ 0)
    ⊎ ((fault : ConfigFault) × (config_number fault ≡ misfit.number)
    × IsAtLine octets fault misfit.line)

-- how one that is checked is refused
abbrev pub RefusesChecked : Type 0 → Option (List ℕ) → Stop → Type 0
RefusesChecked may_fail held (stop.Unfit misfit) =
    IsBadConfig may_fail held misfit.number × IfSome held (IsPlaced misfit)
RefusesChecked may_fail held (stop.Fault number) = number ≡ no_memory
RefusesChecked may_fail held other = ⊥

-- how the file of a configuration is refused, or the configuration that is built in
abbrev pub RefusesFile : (List ℕ → Type 0) → (List ℕ → Option (List ℕ)) → Option (List ℕ) → Stop
    → Type 0
RefusesFile may_fail held (Some path) cause = RefusesConfig (may_fail path) (held path) cause
RefusesFile may_fail held None cause = cause ≡ stop.Fault no_memory

-- how a capture is refused
abbrev pub RefusesCapture : Type 0 → Option (List ℕ) → Stop → Type 0
RefusesCapture may_fail input (stop.Capture number) = IsBadCapture may_fail input number
RefusesCapture may_fail input (stop.Fault number) = number ≡ no_memory
RefusesCapture may_fail input other = ⊥

-- how a store is refused
abbrev pub RefusesStore : Stop → Type 0
RefusesStore (stop.Store number) = Unit {0}
RefusesStore (stop.Fault number) = number ≡ no_memory
RefusesStore other = ⊥

-- All was done and printed, but the log of the store is not copied into its database file.
abbrev pub unclosed_store : Stop
unclosed_store = stop.Store 5

-- ---- what is printed

-- the fault of a run: memory ran out, or what keeps the rows failed
abbrev pub IsRunFault : ℕ → Type 0
IsRunFault number =
    (number ≡ fault_number fault.NoMemory) ⊎ (number ≡ fault_number fault.Store)

-- what may end a task early: the fault of a run, or an output that may fail
abbrev pub EndsTask : Type 0 → Stop → Type 0
EndsTask may_fail (stop.Fault number) = IsRunFault number
EndsTask may_fail stop.Output = may_fail
EndsTask may_fail other = ⊥

-- A fault of this number ended a run that had answered so many events: it came in the next of them,
-- which is none that takes no memory; or there was no room to begin.
abbrev pub FaultsAt : List Institution → List Row → List Event → ℕ → ℕ → Type 0
FaultsAt institutions rows events answered number = (answered < length events)
    × (FaultsAfter institutions rows events answered
    ⊎ ((answered ≡ 0) × (number ≡ no_memory)))

-- The replies of a run: all, or where a fault came those before it.
pub record AreGiven (institutions : List Institution) (rows : List Row) (events : List Event)
    (given : List Reply) (end : Option Fault) : Type 0 where
  pub whole : end ≡ None → given ≡ replies institutions rows events
  pub first : given ≡ take (length given) (replies institutions rows events)
  pub ends : (why : Fault) → end ≡ Some why
      → FaultsAt institutions rows events (length given) (fault_number why)

-- How replies that were given are cut short: a fault came, and all of them were printed before it is
-- told; or the output failed, and the first octets of their lines were.
abbrev pub CutsGiven : Option (List ℕ) → Option (List ℕ) → List Reply → Option Fault → Stop
    → Type 0
CutsGiven before after given end (stop.Fault number) = (why : Fault) × (end ≡ Some why)
    × (number ≡ fault_number why) × Appends before after (reply_lines given)
CutsGiven before after given end stop.Output = AppendsPart before after (reply_lines given)
CutsGiven before after given end other = ⊥

-- How the replies to events are cut short: at a fault of the run the lines of those before it were
-- printed, all of them; where the output fails, the first octets of the lines.
abbrev pub Cuts : Option (List ℕ) → Option (List ℕ) → List Institution → List Row → List Event
    → Stop → Type 0
Cuts before after institutions rows events (stop.Fault number) = (answered : ℕ)
    × FaultsAt institutions rows events answered number
    × Appends before after (reply_lines (take answered (replies institutions rows events)))
Cuts before after institutions rows events stop.Output =
    AppendsPart before after (reply_lines (replies institutions rows events))
Cuts before after institutions rows events other = ⊥

-- How a text that is printed at once is cut short: at a fault nothing was printed; where the output
-- fails, its first octets.
abbrev pub Breaks : Option (List ℕ) → Option (List ℕ) → List ℕ → Stop → Type 0
Breaks before after text (stop.Fault number) = Keeps before after
Breaks before after text stop.Output = AppendsPart before after text
Breaks before after text other = ⊥

-- ---- tasks

-- A task begins with these rows: those that the store holds which is there, and else none.
abbrev pub BeginsWith : (List ℕ → List Row → Type 0) → RowsPlace → List Row → Type 0
BeginsWith stored InMemory rows = rows ≡ []
BeginsWith stored (InNewStore path) rows = rows ≡ []
BeginsWith stored (InStore path) rows = (held : List Row) → stored path held → rows ≡ held

-- It is so as far as what kept the rows returned what was written: tables were left that say whether they did.
abbrev pub AsFarAsHonest : {Tables : Type 0} → (Tables → State) → Type 0 → Type 0
AsFarAsHonest {Tables} state IsSo = (tables : Tables) × ((state tables).honest → IsSo)

-- The rows are as they were, as far as these tables are still honest.
abbrev pub AreOnlyRead : State → State → Type 0
AreOnlyRead old new = new.honest → old.honest × (new.rows ≡ old.rows)

-- It is so of rows at a place, in a file as far as these are honest. Rows in memory always are.
abbrev pub AsFarAsKept : {File : Type 0} → (File → State) → RowsPlace → Type 0 → Type 0
AsFarAsKept state InMemory IsSo = IsSo
AsFarAsKept state (InNewStore path) IsSo = AsFarAsHonest state IsSo
AsFarAsKept state (InStore path) IsSo = AsFarAsHonest state IsSo

-- It is so of the rows that a task begins with.
abbrev pub IsOver : {File : Type 0} → (File → State) → (List ℕ → List Row → Type 0) → RowsPlace
    → (List Row → Type 0) → Type 0
IsOver state stored place IsSo =
    (first : List Row) × AsFarAsKept state place (BeginsWith stored place first × IsSo first)

-- The output of a task: for a replay the replies, and for a report how many rows each institution has after the events.
abbrev pub text_of : Task → List Institution → List Row → List Event → List ℕ
text_of Replay institutions rows events = reply_lines (replies institutions rows events)
text_of Report institutions rows events =
    report_text (world_after institutions rows events).rows (names_of institutions)

-- rows are kept in a store
abbrev pub IsInStore : RowsPlace → Type 0
IsInStore InMemory = ⊥
IsInStore (InNewStore path) = Unit {0}
IsInStore (InStore path) = Unit {0}

-- A task printed its whole text. If its rows are kept in a store, that was closed with the rows after the events.
abbrev pub IsTaskDone : {File : Type 0} → (File → State) → (List ℕ → List Row → Type 0)
    → (List Row → Type 0) → Option (List ℕ) → Option (List ℕ) → RowsPlace → Task → List Institution
    → List Event → Type 0
IsTaskDone state stored closed before after place task institutions events =
    (kept : List Row) × (IsInStore place → closed kept) × IsOver state stored place (λ rows.
    Appends before after (text_of task institutions rows events)
    × (kept ≡ (world_after institutions rows events).rows))

-- how it is cut short
abbrev pub CutsTask : Task → Option (List ℕ) → Option (List ℕ) → List Institution → List Row
    → List Event → Stop → Type 0
CutsTask Replay before after institutions rows events =
    Cuts before after institutions rows events
CutsTask Report before after institutions rows events =
    Breaks before after (text_of Report institutions rows events)

-- what is printed once a store is migrated
abbrev pub migrated_line : List ℕ
migrated_line = codes "migrated" ++ line_feed ∷ []

-- The reasons why a migration stops: a refused store, when nothing was printed; an output that fails, after the first
-- octets of the line; or a new store that is not closed, after the line.
abbrev pub EndsMigration : Type 0 → Option (List ℕ) → Option (List ℕ) → Stop → Type 0
EndsMigration may_fail before after stop.Output =
    may_fail × AppendsPart before after migrated_line
EndsMigration may_fail before after cause = (Keeps before after × RefusesStore cause)
    ⊎ ((cause ≡ unclosed_store) × Appends before after migrated_line)

-- It is so by some configuration of the file and some events that the input tells.
abbrev pub IsBy : (List ℕ → Option (List ℕ)) → Option (List ℕ) → Option (List ℕ)
    → (List Institution → List Event → Type 0) → Type 0
IsBy held file input IsSo = (institutions : List Institution) × (events : List Event)
    × IsConfigured held file institutions × IfSome input (λ octets. TellsEvents octets events)
    × IsSo institutions events

-- there is a configuration, and events are told
abbrev pub HasConfig : (List ℕ → Option (List ℕ)) → Option (List ℕ) → Type 0
HasConfig held file = (institutions : List Institution) × IsConfigured held file institutions

-- A task was done by the configuration and the capture. A store that is closed has all rows alone in its
-- database file.
abbrev pub IsReplayed : {File : Type 0} → (File → State) → (List ℕ → Option (List ℕ))
    → (List ℕ → List Row → Type 0) → (List Row → Type 0) → Option (List ℕ) → Option (List ℕ)
    → Option (List ℕ) → Request → Type 0
IsReplayed state held stored closed input before after request =
    IsBy held request.config input
    (IsTaskDone state stored closed before after request.place request.task)

-- The reasons why a task stops: a refused configuration, capture or store, when nothing was printed; an early end; or a
-- store that is not closed, when all was printed.
module _ {File : Type 0} (state : File → State) (request : Request) (file_fails : List ℕ → Type 0)
    (held : List ℕ → Option (List ℕ)) (stored : List ℕ → List Row → Type 0) (input_fails : Type 0)
    (input : Option (List ℕ)) (fails : Type 0) (before after : Option (List ℕ)) where
  abbrev pub EndsPlay : Stop → List Institution → List Event → Type 0
  EndsPlay cause institutions events = (Keeps before after × RefusesStore cause)
      ⊎ (EndsTask fails cause × IsOver state stored request.place (λ rows.
      CutsTask request.task before after institutions rows events cause))
      ⊎ (IsInStore request.place × (cause ≡ unclosed_store) × IsOver state stored request.place
      (λ rows. Appends before after (text_of request.task institutions rows events)))

  abbrev pub StopsPlay : Stop → Type 0
  StopsPlay cause = (Keeps before after × RefusesFile file_fails held request.config cause)
      ⊎ (Keeps before after × HasConfig held request.config × RefusesCapture input_fails input cause)
      ⊎ IsBy held request.config input (EndsPlay cause)

-- a stop is told by its line, or by the first octets of it where that fails
abbrev pub IsTold : Type 0 → Option (List ℕ) → Option (List ℕ) → Stop → Type 0
IsTold may_fail before after cause =
    Appends before after (stop_text cause) ⊎ BreaksOff may_fail before after (stop_text cause)

-- what is told of a word that is no text
abbrev pub no_text_line : List ℕ
no_text_line = codes "a word of the command line is not UTF-8" ++ line_feed ∷ []
