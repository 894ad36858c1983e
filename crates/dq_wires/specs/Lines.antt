-- Which lines of a log a note of the server leads to.
use Rattle.std.specs.Prelude.{Bool, true, false, if◌then◌else◌, Option, None}
use Rattle.dq_assoc.specs.declared.classes.Service.{Service}
use Rattle.dq_assoc.specs.declared.classes.Service.TheVariants.{StudyRootFind, WorklistFind}
use Rattle.dq_core.specs.declared.notes.LogEvent.{LogEvent}
use Rattle.dq_assoc.specs.declared.association_end.AssociationEnd.TheVariants.{Rejected, Released, Aborted}
use Rattle.dq_core.specs.declared.notes.LogEvent.TheVariants.{Accepted, Closed, Ended, Served}
use Rattle.dq_wires.specs.declared.watched.Opened.{Opened}

abbrev pub is_search : Service → Bool
is_search StudyRootFind = true
is_search WorklistFind = true
is_search _ = false

-- It has a line of its own: of messages only those on a presentation context of a query.
abbrev pub has_line : LogEvent → Bool
has_line (Accepted institution titles contexts) = true
has_line (Closed titles (Rejected rejection)) = true
has_line (Closed titles (Aborted party source reason)) = true
has_line (Closed titles Released) = false
has_line Ended = false
has_line (Served service status answers query) = is_search service

-- It ends an association, if one is open.
abbrev pub ends_association : LogEvent → Bool
ends_association (Accepted institution titles contexts) = false
ends_association (Closed titles end) = true
ends_association Ended = true
ends_association (Served service status answers query) = false

-- the association whose end is told
abbrev pub ended_by : LogEvent → Option Opened → Option Opened
ended_by noted opened = if ends_association noted then opened else None

-- the association that is open after the note
abbrev pub open_after : LogEvent → Option Opened → Option Opened
open_after noted opened = if ends_association noted then None else opened
