-- The attributes of a performed procedure step that its creation asks for, and those that no N-SET
-- changes (PS3.4 table F.7.2-1).
use Rattle.std.specs.Prelude.{ℕ, Bool, ◌||◌, nat_eq, List, [], ◌∷◌}
use Rattle.dq_vr.specs.declared.Tag.{Tag}
use Rattle.dq_vr.specs.Tags.{modality, performed_station_ae_title, performed_procedure_step_start_date, performed_procedure_step_start_time, performed_procedure_step_status, performed_procedure_step_id, scheduled_step_attributes_sequence}
use Rattle.dq_dataset.specs.declared.data_set.Element.{Element}
use Rattle.dq_dataset.specs.Editing.{is_listed}

abbrev pub fixed_attributes : List Tag
fixed_attributes =
    modality ∷ performed_station_ae_title ∷ performed_procedure_step_start_date
    ∷ performed_procedure_step_start_time ∷ performed_procedure_step_id
    ∷ scheduled_step_attributes_sequence ∷ []

abbrev pub required_attributes : List Tag
required_attributes = performed_procedure_step_status ∷ fixed_attributes

-- the attributes of the patient
abbrev pub patient_group : ℕ
patient_group = 0x0010

abbrev pub is_fixed : Element → Bool
is_fixed e = nat_eq e.tag.group patient_group || is_listed fixed_attributes e
