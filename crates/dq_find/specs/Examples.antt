-- A worked example: what a C-FIND at the level of studies is answered.
use Rattle.std.specs.Prelude.{ℕ, true, false, List, [], ◌∷◌, codes}
use Rattle.dq_vr.specs.declared.Vr.TheVariants.{AE, CS, PN}
use Rattle.dq_vr.specs.Tags as tags
use Rattle.dq_dataset.specs.declared.header.Syntax.TheVariants.{Explicit}
use Rattle.dq_dataset.specs.Canonical.{canonical}
use Rattle.dq_dataset.specs.Tree.{ElementList, no_elements, element}
use Rattle.dq_dimse.specs.Received.{Message}
use Rattle.dq_match.specs.declared.responses.Found.{Found}
use Rattle.dq_dimse.specs.Statuses.{success}
use Rattle.dq_tables.specs.declared.row.Kind.TheVariants as kind
use Rattle.dq_tables.specs.Rows.{Record}

-- a C-FIND request with an Identifier
abbrev pub query_request : ElementList → Message
query_request identifier = record {
  context = 1;
  command = record {
    code = 0x0020;
    id = 1;
    sop_class = codes "1.2.840.10008.5.1.4.1.2.2.1";
    sop_instance = [];
    with_data = true;
    status = 0;
  };
  octets = canonical Explicit identifier;
  over = false;
}

-- studies of patients whose names begin with D, and their modalities
abbrev pub identifier : ElementList
identifier =
    element tags.query_retrieve_level CS (codes "STUDY ")
    (element tags.modalities_in_study CS [] (element tags.patient_name PN (codes "d*") no_elements))

-- a study of a patient
abbrev pub study : List ℕ → List ℕ → Record
study name uid = record {
  kind = kind.Study;
  key = uid;
  above = [];
  octets = canonical Explicit (element tags.patient_name PN name no_elements);
  started = false;
}

-- a series of a study
abbrev pub series : List ℕ → List ℕ → List ℕ → Record
series modality uid above = record {
  kind = kind.Series;
  key = uid;
  above = above;
  octets = canonical Explicit (element tags.modality CS modality no_elements);
  started = false;
}

-- a study of Jane Doe with a CT and an MR series, and a study of Richard Roe
abbrev pub kept_studies : List Record
kept_studies =
    study (codes "DOE^JANE") (codes "1.2") ∷ study (codes "ROE^RICHARD ") (codes "1.3")
    ∷ series (codes "MR") (codes "1.2.1") (codes "1.2")
    ∷ series (codes "CT") (codes "1.2.2") (codes "1.2") ∷ []

-- the answer that Jane Doe's study gives to who calls the title ARCHIVE
abbrev pub jane_doe_answer : ElementList
jane_doe_answer =
    element tags.query_retrieve_level CS (codes "STUDY ")
    (element tags.retrieve_ae_title AE (codes "ARCHIVE ")
    (element tags.instance_availability CS (codes "UNAVAILABLE ")
    (element tags.modalities_in_study CS (codes "CT\\MR ")
    (element tags.patient_name PN (codes "DOE^JANE") no_elements))))

-- answers, after which status 0000 ends the operation; all keys are supported
abbrev pub found_studies : List ElementList → Found
found_studies answers = record { status = success; optional = false; answers = answers }
