-- The keys that are supported at each level (PS3.4 tables C.6-3 to C.6-5 and K.6-1).
use Rattle.std.specs.Prelude.{Bool, false, not, List, [], ◌∷◌, ◌++◌, ◌||◌, if◌then◌else◌}
use Rattle.std.specs.List.{list_any}
use Rattle.dq_vr.specs.declared.Tag.{Tag}
use Rattle.dq_vr.specs.StudyRoot.{study_level, series_level, image_level, computed_of_study, computed_of_series}
use Rattle.dq_vr.specs.Tags as tags
use Rattle.dq_dataset.specs.Tree.{ElementList, no_elements, element, sequence, ItemList, no_items, item}
use Rattle.dq_dataset.specs.View.{items_of, list_of}
use Rattle.dq_dataset.specs.declared.data_set.Element.{Element}
use Rattle.dq_dataset.specs.declared.data_set.Value.{Value}
use Rattle.dq_dataset.specs.declared.data_set.Value.TheVariants.{Octets, Items}
use Rattle.dq_match.specs.declared.supported.KeyList.{KeyList}
use Rattle.dq_match.specs.declared.supported.KeyList.TheVariants.{Study, Series, Image, Entry}
use Rattle.dq_match.specs.declared.supported.KeyScope.{KeyScope}
use Rattle.dq_match.specs.declared.supported.KeyScope.TheVariants.{Identifier, Step, Code, Reference, Other}
use Rattle.dq_match.specs.Keys.{is_tag, other_than_keys}

abbrev pub is_tag_among : Tag → List Tag → Bool
is_tag_among tag listed = list_any (λ one. is_tag one tag) listed

-- the keys of a level of the Study Root model are its attributes
abbrev pub study_keys : List Tag
study_keys = study_level ++ computed_of_study

abbrev pub series_keys : List Tag
series_keys = series_level ++ computed_of_series

abbrev pub image_keys : List Tag
image_keys = image_level

abbrev pub entry_keys : List Tag
entry_keys =
    tags.accession_number ∷ tags.referring_physician_name ∷ tags.admitting_diagnoses_description
    ∷ tags.referenced_study_sequence ∷ tags.referenced_patient_sequence ∷ tags.patient_name
    ∷ tags.patient_id ∷ tags.issuer_of_patient_id ∷ tags.patient_birth_date ∷ tags.patient_sex
    ∷ tags.patient_weight ∷ tags.medical_alerts ∷ tags.allergies ∷ tags.pregnancy_status
    ∷ tags.patient_comments ∷ tags.study_instance_uid ∷ tags.requesting_physician
    ∷ tags.requesting_service ∷ tags.requested_procedure_description
    ∷ tags.requested_procedure_code_sequence ∷ tags.admission_id ∷ tags.special_needs
    ∷ tags.current_patient_location ∷ tags.patient_state ∷ tags.scheduled_procedure_step_sequence
    ∷ tags.requested_procedure_id ∷ tags.reason_for_the_requested_procedure
    ∷ tags.requested_procedure_priority ∷ tags.patient_transport_arrangements
    ∷ tags.requested_procedure_comments ∷ tags.placer_order_number_imaging_service_request
    ∷ tags.filler_order_number_imaging_service_request ∷ []

abbrev pub step_keys : List Tag
step_keys =
    tags.modality ∷ tags.scheduled_station_ae_title ∷ tags.scheduled_procedure_step_start_date
    ∷ tags.scheduled_procedure_step_start_time ∷ tags.scheduled_performing_physician_name
    ∷ tags.scheduled_procedure_step_description ∷ tags.scheduled_protocol_code_sequence
    ∷ tags.scheduled_procedure_step_id ∷ tags.scheduled_station_name
    ∷ tags.scheduled_procedure_step_location ∷ tags.pre_medication
    ∷ tags.scheduled_procedure_step_status ∷ []

abbrev pub code_keys : List Tag
code_keys =
    tags.code_value ∷ tags.coding_scheme_designator ∷ tags.coding_scheme_version ∷ tags.code_meaning
    ∷ []

abbrev pub reference_keys : List Tag
reference_keys = tags.referenced_sop_class_uid ∷ tags.referenced_sop_instance_uid ∷ []

unfoldable pub key_tags : KeyList → List Tag
key_tags Study = study_keys
key_tags Series = series_keys
key_tags Image = image_keys
key_tags Entry = entry_keys

-- An element that is not a key stays in an identifier too. A worklist query has no level and no
-- retrieval, so of that it has the character set alone.
unfoldable pub leaves : KeyList → Tag → Bool
leaves Study tag = is_tag_among tag other_than_keys
leaves Series tag = is_tag_among tag other_than_keys
leaves Image tag = is_tag_among tag other_than_keys
leaves Entry tag = is_tag tags.specific_character_set tag

unfoldable pub is_supported : KeyScope → Tag → Bool
is_supported (Identifier list) tag = is_tag_among tag (key_tags list) || leaves list tag
is_supported Step tag = is_tag_among tag step_keys
is_supported Code tag = is_tag_among tag code_keys
is_supported Reference tag = is_tag_among tag reference_keys
is_supported Other tag = false

abbrev pub is_reference : Tag → Bool
is_reference tag =
    is_tag tags.referenced_study_sequence tag || is_tag tags.referenced_patient_sequence tag

-- the scope of a sequence's items
abbrev pub below_entry : Tag → KeyScope
below_entry tag =
    if is_tag tags.scheduled_procedure_step_sequence tag then Step
    else (if is_tag tags.requested_procedure_code_sequence tag then Code
    else (if is_reference tag then Reference else Other))

abbrev pub below_step : Tag → KeyScope
below_step tag = if is_tag tags.scheduled_protocol_code_sequence tag then Code else Other

unfoldable pub below : KeyScope → Tag → KeyScope
below (Identifier Entry) tag = below_entry tag
below (Identifier Study) tag = Other
below (Identifier Series) tag = Other
below (Identifier Image) tag = Other
below Step tag = below_step tag
below Code tag = Other
below Reference tag = Other
below Other tag = Other

-- an identifier without the elements that are not supported, inside items too
abbrev mutual
  pub supported_part : KeyScope → ElementList → ElementList
  supported_part scope no_elements = no_elements
  supported_part scope (element tag vr octets rest) =
      if is_supported scope tag then element tag vr octets (supported_part scope rest)
      else supported_part scope rest
  supported_part scope (sequence tag vr items rest) =
      if is_supported scope tag
      then sequence tag vr (supported_items (below scope tag) items) (supported_part scope rest)
      else supported_part scope rest

  pub supported_items : KeyScope → ItemList → ItemList
  supported_items scope no_items = no_items
  supported_items scope (item d rest) = item (supported_part scope d) (supported_items scope rest)

-- some element is not supported
abbrev mutual
  pub has_unsupported : KeyScope → ElementList → Bool
  has_unsupported scope no_elements = false
  has_unsupported scope (element tag vr octets rest) =
      not (is_supported scope tag) || has_unsupported scope rest
  has_unsupported scope (sequence tag vr items rest) =
      (not (is_supported scope tag) || have_unsupported (below scope tag) items)
      || has_unsupported scope rest

  pub have_unsupported : KeyScope → ItemList → Bool
  have_unsupported scope no_items = false
  have_unsupported scope (item d rest) = has_unsupported scope d || have_unsupported scope rest

-- the same of the value of one element
abbrev pub supported_value : KeyScope → Value → Value
supported_value scope (Octets octets) = Octets octets
supported_value scope (Items items) = Items (list_of (supported_items scope (items_of items)))

-- an element that stays: of a sequence the items, each without what is not supported there
abbrev pub supported_element : KeyScope → Element → Element
supported_element scope e =
    record { tag = e.tag; vr = e.vr; value = supported_value (below scope e.tag) e.value }

abbrev pub value_has_unsupported : KeyScope → Value → Bool
value_has_unsupported scope (Octets octets) = false
value_has_unsupported scope (Items items) = have_unsupported scope (items_of items)
