-- The tags of which definitions speak, by their keywords (PS3.6, chapter 6): those of the code.
use Rattle.dq_vr.specs.declared.Tag.{Tag}
use Rattle.dq_vr.specs.declared.tags.TheConstants as code

abbrev pub specific_character_set : Tag
specific_character_set = code.SPECIFIC_CHARACTER_SET

abbrev pub image_type : Tag
image_type = code.IMAGE_TYPE

abbrev pub sop_class_uid : Tag
sop_class_uid = code.SOP_CLASS_UID

abbrev pub sop_instance_uid : Tag
sop_instance_uid = code.SOP_INSTANCE_UID

abbrev pub study_date : Tag
study_date = code.STUDY_DATE

abbrev pub series_date : Tag
series_date = code.SERIES_DATE

abbrev pub content_date : Tag
content_date = code.CONTENT_DATE

abbrev pub study_time : Tag
study_time = code.STUDY_TIME

abbrev pub series_time : Tag
series_time = code.SERIES_TIME

abbrev pub content_time : Tag
content_time = code.CONTENT_TIME

abbrev pub accession_number : Tag
accession_number = code.ACCESSION_NUMBER

abbrev pub query_retrieve_level : Tag
query_retrieve_level = code.QUERY_RETRIEVE_LEVEL

abbrev pub retrieve_ae_title : Tag
retrieve_ae_title = code.RETRIEVE_AE_TITLE

abbrev pub instance_availability : Tag
instance_availability = code.INSTANCE_AVAILABILITY

abbrev pub modality : Tag
modality = code.MODALITY

abbrev pub modalities_in_study : Tag
modalities_in_study = code.MODALITIES_IN_STUDY

abbrev pub referring_physician_name : Tag
referring_physician_name = code.REFERRING_PHYSICIAN_NAME

abbrev pub code_value : Tag
code_value = code.CODE_VALUE

abbrev pub coding_scheme_designator : Tag
coding_scheme_designator = code.CODING_SCHEME_DESIGNATOR

abbrev pub coding_scheme_version : Tag
coding_scheme_version = code.CODING_SCHEME_VERSION

abbrev pub code_meaning : Tag
code_meaning = code.CODE_MEANING

abbrev pub study_description : Tag
study_description = code.STUDY_DESCRIPTION

abbrev pub series_description : Tag
series_description = code.SERIES_DESCRIPTION

abbrev pub admitting_diagnoses_description : Tag
admitting_diagnoses_description = code.ADMITTING_DIAGNOSES_DESCRIPTION

abbrev pub referenced_study_sequence : Tag
referenced_study_sequence = code.REFERENCED_STUDY_SEQUENCE

abbrev pub referenced_patient_sequence : Tag
referenced_patient_sequence = code.REFERENCED_PATIENT_SEQUENCE

abbrev pub referenced_sop_class_uid : Tag
referenced_sop_class_uid = code.REFERENCED_SOP_CLASS_UID

abbrev pub referenced_sop_instance_uid : Tag
referenced_sop_instance_uid = code.REFERENCED_SOP_INSTANCE_UID

abbrev pub patient_name : Tag
patient_name = code.PATIENT_NAME

abbrev pub patient_id : Tag
patient_id = code.PATIENT_ID

abbrev pub issuer_of_patient_id : Tag
issuer_of_patient_id = code.ISSUER_OF_PATIENT_ID

abbrev pub patient_birth_date : Tag
patient_birth_date = code.PATIENT_BIRTH_DATE

abbrev pub patient_sex : Tag
patient_sex = code.PATIENT_SEX

abbrev pub patient_weight : Tag
patient_weight = code.PATIENT_WEIGHT

abbrev pub medical_alerts : Tag
medical_alerts = code.MEDICAL_ALERTS

abbrev pub allergies : Tag
allergies = code.ALLERGIES

abbrev pub pregnancy_status : Tag
pregnancy_status = code.PREGNANCY_STATUS

abbrev pub patient_comments : Tag
patient_comments = code.PATIENT_COMMENTS

abbrev pub body_part_examined : Tag
body_part_examined = code.BODY_PART_EXAMINED

abbrev pub study_instance_uid : Tag
study_instance_uid = code.STUDY_INSTANCE_UID

abbrev pub series_instance_uid : Tag
series_instance_uid = code.SERIES_INSTANCE_UID

abbrev pub study_id : Tag
study_id = code.STUDY_ID

abbrev pub series_number : Tag
series_number = code.SERIES_NUMBER

abbrev pub instance_number : Tag
instance_number = code.INSTANCE_NUMBER

abbrev pub number_of_study_related_series : Tag
number_of_study_related_series = code.NUMBER_OF_STUDY_RELATED_SERIES

abbrev pub number_of_study_related_instances : Tag
number_of_study_related_instances = code.NUMBER_OF_STUDY_RELATED_INSTANCES

abbrev pub number_of_series_related_instances : Tag
number_of_series_related_instances = code.NUMBER_OF_SERIES_RELATED_INSTANCES

abbrev pub rows : Tag
rows = code.ROWS

abbrev pub columns : Tag
columns = code.COLUMNS

abbrev pub requesting_physician : Tag
requesting_physician = code.REQUESTING_PHYSICIAN

abbrev pub requesting_service : Tag
requesting_service = code.REQUESTING_SERVICE

abbrev pub requested_procedure_description : Tag
requested_procedure_description = code.REQUESTED_PROCEDURE_DESCRIPTION

abbrev pub requested_procedure_code_sequence : Tag
requested_procedure_code_sequence = code.REQUESTED_PROCEDURE_CODE_SEQUENCE

abbrev pub admission_id : Tag
admission_id = code.ADMISSION_ID

abbrev pub special_needs : Tag
special_needs = code.SPECIAL_NEEDS

abbrev pub current_patient_location : Tag
current_patient_location = code.CURRENT_PATIENT_LOCATION

abbrev pub patient_state : Tag
patient_state = code.PATIENT_STATE

abbrev pub scheduled_station_ae_title : Tag
scheduled_station_ae_title = code.SCHEDULED_STATION_AE_TITLE

abbrev pub scheduled_procedure_step_start_date : Tag
scheduled_procedure_step_start_date = code.SCHEDULED_PROCEDURE_STEP_START_DATE

abbrev pub scheduled_procedure_step_start_time : Tag
scheduled_procedure_step_start_time = code.SCHEDULED_PROCEDURE_STEP_START_TIME

abbrev pub scheduled_performing_physician_name : Tag
scheduled_performing_physician_name = code.SCHEDULED_PERFORMING_PHYSICIAN_NAME

abbrev pub scheduled_procedure_step_description : Tag
scheduled_procedure_step_description = code.SCHEDULED_PROCEDURE_STEP_DESCRIPTION

abbrev pub scheduled_protocol_code_sequence : Tag
scheduled_protocol_code_sequence = code.SCHEDULED_PROTOCOL_CODE_SEQUENCE

abbrev pub scheduled_procedure_step_id : Tag
scheduled_procedure_step_id = code.SCHEDULED_PROCEDURE_STEP_ID

abbrev pub scheduled_station_name : Tag
scheduled_station_name = code.SCHEDULED_STATION_NAME

abbrev pub scheduled_procedure_step_location : Tag
scheduled_procedure_step_location = code.SCHEDULED_PROCEDURE_STEP_LOCATION

abbrev pub pre_medication : Tag
pre_medication = code.PRE_MEDICATION

abbrev pub scheduled_procedure_step_status : Tag
scheduled_procedure_step_status = code.SCHEDULED_PROCEDURE_STEP_STATUS

abbrev pub scheduled_procedure_step_sequence : Tag
scheduled_procedure_step_sequence = code.SCHEDULED_PROCEDURE_STEP_SEQUENCE

abbrev pub performed_station_ae_title : Tag
performed_station_ae_title = code.PERFORMED_STATION_AE_TITLE

abbrev pub performed_procedure_step_start_date : Tag
performed_procedure_step_start_date = code.PERFORMED_PROCEDURE_STEP_START_DATE

abbrev pub performed_procedure_step_start_time : Tag
performed_procedure_step_start_time = code.PERFORMED_PROCEDURE_STEP_START_TIME

abbrev pub performed_procedure_step_status : Tag
performed_procedure_step_status = code.PERFORMED_PROCEDURE_STEP_STATUS

abbrev pub performed_procedure_step_id : Tag
performed_procedure_step_id = code.PERFORMED_PROCEDURE_STEP_ID

abbrev pub scheduled_step_attributes_sequence : Tag
scheduled_step_attributes_sequence = code.SCHEDULED_STEP_ATTRIBUTES_SEQUENCE

abbrev pub requested_procedure_id : Tag
requested_procedure_id = code.REQUESTED_PROCEDURE_ID

abbrev pub reason_for_the_requested_procedure : Tag
reason_for_the_requested_procedure = code.REASON_FOR_THE_REQUESTED_PROCEDURE

abbrev pub requested_procedure_priority : Tag
requested_procedure_priority = code.REQUESTED_PROCEDURE_PRIORITY

abbrev pub patient_transport_arrangements : Tag
patient_transport_arrangements = code.PATIENT_TRANSPORT_ARRANGEMENTS

abbrev pub requested_procedure_comments : Tag
requested_procedure_comments = code.REQUESTED_PROCEDURE_COMMENTS

abbrev pub placer_order_number_imaging_service_request : Tag
placer_order_number_imaging_service_request = code.PLACER_ORDER_NUMBER_IMAGING_SERVICE_REQUEST

abbrev pub filler_order_number_imaging_service_request : Tag
filler_order_number_imaging_service_request = code.FILLER_ORDER_NUMBER_IMAGING_SERVICE_REQUEST
