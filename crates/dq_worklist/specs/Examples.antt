-- A worked example: what a worklist C-FIND is answered.
use Rattle.std.specs.Prelude.{ℕ, false, true, List, [], codes}
use Rattle.dq_vr.specs.declared.Vr.TheVariants.{CS, PN, SH, SQ, TM}
use Rattle.dq_vr.specs.Tags as tags
use Rattle.dq_dataset.specs.declared.header.Syntax.TheVariants.{Explicit}
use Rattle.dq_dataset.specs.Canonical.{canonical}
use Rattle.dq_dataset.specs.Tree.{ElementList, no_elements, element, sequence, no_items, item}
use Rattle.dq_dimse.specs.Received.{Message}
use Rattle.dq_dimse.specs.Statuses.{success}
use Rattle.dq_match.specs.declared.responses.Found.{Found}
use Rattle.dq_tables.specs.declared.row.Kind.TheVariants.{Entry}
use Rattle.dq_tables.specs.Rows.{Record}

-- a C-FIND request with an Identifier
abbrev pub worklist_request : ElementList → Message
worklist_request identifier = record {
  context = 1;
  command = record {
    code = 0x0020;
    id = 1;
    sop_class = codes "1.2.840.10008.5.1.4.31";
    sop_instance = [];
    with_data = true;
    status = 0;
  };
  octets = canonical Explicit identifier;
  over = false;
}

-- a patient's name and a scheduled procedure step
abbrev pub worklist_item : List ℕ → ElementList → ElementList
worklist_item name step =
    element tags.patient_name PN name
    (sequence tags.scheduled_procedure_step_sequence SQ (item step no_items) no_elements)

-- of the steps of a modality, the names of the patients and when they start
abbrev pub asked_steps : List ℕ → ElementList
asked_steps modality = worklist_item []
    (element tags.modality CS modality
    (element tags.scheduled_procedure_step_start_time TM [] no_elements))

-- Jane Doe's CT at 10:30
abbrev pub entry : Record
entry = record {
  kind = Entry;
  key = codes "S1";
  above = [];
  octets = canonical Explicit (worklist_item (codes "DOE^JANE")
      (element tags.modality CS (codes "CT")
      (element tags.scheduled_procedure_step_start_time TM (codes "1030")
      (element tags.scheduled_procedure_step_id SH (codes "S1") no_elements))));
  started = false;
}

abbrev pub example_answer : ElementList
example_answer = worklist_item (codes "DOE^JANE")
    (element tags.modality CS (codes "CT")
    (element tags.scheduled_procedure_step_start_time TM (codes "1030") no_elements))

-- answers, after which status 0000 ends the operation; all keys are supported
abbrev pub found_entries : List ElementList → Found
found_entries answers = record { status = success; optional = false; answers = answers }
