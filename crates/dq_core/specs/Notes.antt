-- What is noted for a log: of which connection, and which part of the values in a C-FIND's identifier.
use Rattle.std.specs.Prelude.{◌≡◌, ℕ, List, [], ◌∷◌, ◌++◌, map, take, Option, Some, None}
use Rattle.dq_vr.specs.declared.Tag.{Tag}
use Rattle.dq_vr.specs.Tags.{modality, modalities_in_study, study_date}
use Rattle.dq_vr.specs.Tags.{scheduled_procedure_step_sequence, scheduled_station_ae_title, scheduled_procedure_step_start_date}
use Rattle.dq_dataset.specs.Tree.{ElementList}
use Rattle.dq_dataset.specs.Values.{element_at, element_octets}
use Rattle.dq_tables.specs.Keys.{sole_item_at}
use Rattle.dq_assoc.specs.declared.classes.Service.{Service}
use Rattle.dq_assoc.specs.declared.classes.Service.TheVariants.{WorklistFind}
use Rattle.dq_pdu.specs.declared.pdu.Request.{Request}
use Rattle.dq_core.specs.declared.notes.LogEvent.{LogEvent}
use Rattle.dq_core.specs.declared.notes.Note.{Note}
use Rattle.dq_core.specs.declared.notes.QuerySummary.{QuerySummary}
use Rattle.dq_core.specs.declared.notes.Titles.{Titles}

abbrev pub note_on : ℕ → LogEvent → Note
note_on number event = record { number = number; noted = event }

-- Notes of some events on the connection with a number come after those of before.
abbrev pub AddsNotesOf : ℕ → List Note → List Note → Type 0
AddsNotesOf number old new = (events : List LogEvent) × (new ≡ old ++ map (note_on number) events)

-- the titles of a request (PS3.8 section 9.3.2)
abbrev pub titles_of : Request → Titles
titles_of request = record { called = request.called; calling = request.calling }

-- so many octets of a value
abbrev pub noted_most : ℕ
noted_most = 64

-- of an element that is absent, in a data set or in none, and of a sequence there are none
abbrev pub noted_octets : Tag → Option ElementList → List ℕ
noted_octets tag None = []
noted_octets tag (Some d) = take noted_most (element_octets (element_at tag d))

abbrev pub or_else : List ℕ → List ℕ → List ℕ
or_else [] others = others
or_else (octet ∷ octets) others = octet ∷ octets

-- The modality, the station and the day that are asked.
pub record QueriedValues : Type 0 where
  pub modality : List ℕ
  pub station : List ℕ
  pub day : List ℕ

abbrev pub values_asked : QuerySummary → QueriedValues
values_asked query =
    record { modality = query.modality; station = query.station; day = query.day }

-- of a query of the worklist those of its only scheduled procedure step (PS3.4 annex K)
abbrev pub asked_in : Option ElementList → QueriedValues
asked_in step = record {
  modality = noted_octets modality step;
  station = noted_octets scheduled_station_ae_title step;
  day = noted_octets scheduled_procedure_step_start_date step;
}

abbrev pub asked_of_entries : ElementList → QueriedValues
asked_of_entries d = asked_in (sole_item_at scheduled_procedure_step_sequence d)

-- of a query of studies those of the study, or of a series of it (PS3.4 annex C)
abbrev pub asked_of_studies : ElementList → QueriedValues
asked_of_studies d = record {
  modality = or_else (noted_octets modalities_in_study (Some d)) (noted_octets modality (Some d));
  station = [];
  day = noted_octets study_date (Some d);
}

-- by its service
abbrev pub asked_by : Service → ElementList → QueriedValues
asked_by WorklistFind d = asked_of_entries d
asked_by _ d = asked_of_studies d
