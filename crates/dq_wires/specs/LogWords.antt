-- The words of a log's lines, and what is counted for them.
use Rattle.std.specs.Prelude.{◌==◌, ◌++◌, ◌+◌, ◌-◌, ◌-ℤ◌, ◌^◌, ◌||◌, ℕ, ℤ, pos, negsuc, min, int_div, codes, Bool, if◌then◌else◌, List, Option, Some, None, option_map}
use Rattle.std.specs.Int.{w64, saturate_signed}
use Rattle.std.specs.Net.Text.{socket_text}
use Rattle.std.specs.declared.net.socket_addr.SocketAddr.{SocketAddr}
use Rattle.jiff.specs.Types.{Timestamp}
use Rattle.dq_dimse.specs.Statuses.{success, elements_discarded}
use Rattle.dq_assoc.specs.declared.classes.Service.{Service}
use Rattle.dq_assoc.specs.declared.classes.Service.TheVariants.{Verification, Storage, StudyRootFind, WorklistFind, PerformedProcedureStep}
use Rattle.dq_assoc.specs.declared.negotiation.Rejection.{Rejection}
use Rattle.dq_assoc.specs.declared.negotiation.Rejection.TheVariants as rejection
use Rattle.dq_assoc.specs.declared.association_end.Party.{Party}
use Rattle.dq_assoc.specs.declared.association_end.Party.TheVariants.{Peer, Server}
use Rattle.dq_assoc.specs.declared.association_end.AssociationEnd.TheVariants.{Rejected, Released, Aborted}
use Rattle.dq_core.specs.declared.notes.LogEvent.{LogEvent}
use Rattle.dq_core.specs.declared.notes.LogEvent.TheVariants.{Accepted, Closed, Ended, Served}
use Rattle.dq_wires.specs.declared.given_up.GivenUp.{GivenUp}
use Rattle.dq_wires.specs.declared.given_up.Reason.{Reason}
use Rattle.dq_wires.specs.declared.given_up.Reason.TheVariants.{Artim, Quiet, PeerConnections}
use Rattle.dq_wires.specs.declared.log.log_end.Paper.{Paper}
use Rattle.dq_wires.specs.declared.log.log_end.Paper.TheVariants as paper
use Rattle.dq_wires.specs.declared.watched.Opened.{Opened}
use Rattle.dq_wires.specs.declared.watched.ServedCounts.{ServedCounts}
use Rattle.dq_wires.specs.SocketTurns.{one_more}

-- ---- where lines go

abbrev pub IsStandardError : Paper → Type 0
IsStandardError (paper.Errors errors) = Unit {0}
IsStandardError (paper.File file) = ⊥

abbrev pub IsFile : Paper → Type 0
IsFile (paper.Errors errors) = ⊥
IsFile (paper.File file) = Unit {0}

-- ---- words

-- why an association was rejected (PS3.8 section 9.3.4)
abbrev pub rejection_words : Rejection → List ℕ
rejection_words rejection.ProtocolVersion = codes "another protocol version"
rejection_words rejection.ApplicationContext = codes "another application context than DICOM's"
rejection_words rejection.MaximumLength = codes "a maximum length below 8"
rejection_words rejection.Titles = codes "no institution has these titles"
rejection_words rejection.Associations = codes "the institution has as many associations as it may"

-- How an association ended: by a release (PS3.8 section 9.3.7), by an abort (section 9.3.8), or with its
-- connection.
abbrev pub ending_word : LogEvent → List ℕ
ending_word (Closed titles Released) = codes "released"
ending_word (Closed titles (Rejected rejection)) = codes "aborted"
ending_word (Closed titles (Aborted party source reason)) = codes "aborted"
ending_word Ended = codes "lost"
ending_word (Accepted institution titles contexts) = codes "lost"
ending_word (Served service status answers query) = codes "lost"

-- who aborts
abbrev pub party_word : Party → List ℕ
party_word Peer = codes "peer"
party_word Server = codes "server"

-- what a C-FIND searches
abbrev pub searched_word : Service → List ℕ
searched_word WorklistFind = codes "worklist"
searched_word StudyRootFind = codes "study"
searched_word Verification = codes "study"
searched_word Storage = codes "study"
searched_word PerformedProcedureStep = codes "study"

-- why a connection was given up
abbrev pub reason_word : Reason → List ℕ
reason_word Artim = codes "artim"
reason_word Quiet = codes "quiet"
reason_word PeerConnections = codes "peer-connections"

-- the address of a peer, and a hyphen where it is not known
abbrev pub peer_text : Option SocketAddr → List ℕ
peer_text None = codes "-"
peer_text (Some peer) = socket_text peer

-- what is written of a connection that was given up
abbrev pub given_up_text : GivenUp → List ℕ
given_up_text end = codes "given up " ++ peer_text end.peer ++ codes " " ++ reason_word end.reason

-- ---- counts

abbrev pub more : ℕ → ℕ → ℕ
more count by = min (count + by) (2 ^ 64 - 1)

-- It was served: with success, or with a warning that some elements were not kept.
abbrev pub is_served : ℕ → Bool
is_served status = status == success || status == elements_discarded

-- One message of a service more. An echo is not counted.
abbrev pub counted_for : Service → ℕ → ServedCounts → ServedCounts
counted_for Verification answers counts = counts
counted_for Storage answers counts = record counts { stores = one_more counts.stores }
counted_for StudyRootFind answers counts =
    record counts { searches = one_more counts.searches; answers = more counts.answers answers }
counted_for WorklistFind answers counts =
    record counts { searches = one_more counts.searches; answers = more counts.answers answers }
counted_for PerformedProcedureStep answers counts = record counts { steps = one_more counts.steps }

-- one answered message more, by its status
abbrev pub counted : Service → ℕ → ℕ → ServedCounts → ServedCounts
counted service status answers counts =
    if is_served status then counted_for service answers counts
    else record counts { refused = one_more counts.refused }

abbrev pub no_counts : ServedCounts
no_counts = record { stores = 0; searches = 0; answers = 0; steps = 0; refused = 0 }

-- The association that is open after a note, before one is ended by it. An accepted one has served
-- nothing yet.
abbrev pub counted_in : LogEvent → Timestamp → Option Opened → Option Opened
counted_in (Accepted institution titles contexts) time opened =
    Some (record { since = time; counts = no_counts })
counted_in (Served service status answers query) time opened = option_map
    (λ (o : Opened). record o { counts = counted service status answers o.counts }) opened
counted_in (Closed titles end) time opened = opened
counted_in Ended time opened = opened

-- ---- times

abbrev pub not_negative : ℤ → ℕ
not_negative (pos count) = count
not_negative (negsuc count) = 0

-- whole milliseconds since 1970, without the part of one
abbrev pub milliseconds_of : Timestamp → ℤ
milliseconds_of time = int_div time.nanosecond (pos 1_000_000)

-- how many passed, and none if the clock was set back
abbrev pub milliseconds_between : Timestamp → Timestamp → ℕ
milliseconds_between from to =
    not_negative (saturate_signed w64 (milliseconds_of to -ℤ milliseconds_of from))
