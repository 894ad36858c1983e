-- The Study Root information model (PS3.4 section C.6.2): which attributes each level has, of those
-- in the tables of the standard. The levels below a study have the keys that lead to them, too.
use Rattle.std.specs.Prelude.{List, [], ◌∷◌, ◌++◌}
use Rattle.dq_vr.specs.declared.Tag.{Tag}
use Rattle.dq_vr.specs.Tags.{specific_character_set, image_type, sop_class_uid, sop_instance_uid, study_date, series_date, content_date, study_time, series_time, content_time, accession_number, modality, modalities_in_study, referring_physician_name, study_description, series_description, patient_name, patient_id, issuer_of_patient_id, patient_birth_date, patient_sex, body_part_examined, study_instance_uid, series_instance_uid, study_id, series_number, instance_number, number_of_study_related_series, number_of_study_related_instances, number_of_series_related_instances, rows, columns}

-- the attributes of a study that stored objects say (PS3.4 section C.6.2.1.2, table C.6-5)
abbrev pub study_level : List Tag
study_level =
    study_date ∷ study_time ∷ accession_number
    ∷ referring_physician_name ∷ study_description
    ∷ patient_name ∷ patient_id ∷ issuer_of_patient_id ∷ patient_birth_date ∷ patient_sex
    ∷ study_instance_uid ∷ study_id ∷ []

-- those of a series (PS3.4 section C.6.2.1.3, table C.6-3)
abbrev pub series_level : List Tag
series_level =
    series_date ∷ series_time ∷ modality
    ∷ series_description ∷ body_part_examined
    ∷ study_instance_uid ∷ series_instance_uid ∷ series_number ∷ []

-- those of an image (PS3.4 section C.6.2.1.4, table C.6-4)
abbrev pub image_level : List Tag
image_level =
    image_type ∷ sop_class_uid ∷ sop_instance_uid
    ∷ content_date ∷ content_time
    ∷ study_instance_uid ∷ series_instance_uid ∷ instance_number ∷ rows ∷ columns ∷ []

-- the attributes of a study that are computed of what it has (PS3.4 section C.3.4)
abbrev pub computed_of_study : List Tag
computed_of_study =
    modalities_in_study ∷ number_of_study_related_series ∷ number_of_study_related_instances ∷ []

-- those of a series
abbrev pub computed_of_series : List Tag
computed_of_series = number_of_series_related_instances ∷ []

-- what is kept of what is stored, at each level: its attributes, and Specific Character Set, which
-- says how their text is encoded (PS3.3 section C.12.1.1.2)
abbrev pub study_attributes : List Tag
study_attributes = specific_character_set ∷ study_level

abbrev pub series_attributes : List Tag
series_attributes = specific_character_set ∷ series_level

abbrev pub image_attributes : List Tag
image_attributes = specific_character_set ∷ image_level

-- the attributes that are kept at any level
abbrev pub kept_attributes : List Tag
kept_attributes = study_attributes ++ (series_attributes ++ image_attributes)
