-- C-STORE over the records and the limits of one institution (PS3.4 section B.2.3 and table B.2-1).
use Rattle.std.specs.Prelude.{ℕ, Bool, false, not, ◌&&◌, ◌||◌, nat_le, List, [], ◌∷◌, ◌++◌, length, if◌then◌else◌, Option, Some, None, is_some, is_none, unwrap_or, Result, is_err}
use Rattle.std.specs.List.{list_all}
use Rattle.std.specs.Result.{result_unwrap_or}
use Rattle.std.specs.Str.{bytes_eq}
use Rattle.dq_vr.specs.declared.Tag.{Tag}
use Rattle.dq_vr.specs.Tags.{sop_class_uid, sop_instance_uid, study_instance_uid, series_instance_uid}
use Rattle.dq_dataset.specs.declared.fault.ReadFault.{ReadFault}
use Rattle.dq_dataset.specs.declared.header.Syntax.{Syntax}
use Rattle.dq_dataset.specs.declared.header.Syntax.TheVariants.{Explicit}
use Rattle.dq_dataset.specs.declared.data_set.Element.{Element}
use Rattle.dq_dataset.specs.Tree.{ElementList, no_elements}
use Rattle.dq_dataset.specs.View.{elements_of}
use Rattle.dq_dataset.specs.DataSetReader.{data_set_read}
use Rattle.dq_dataset.specs.Canonical.{canonical}
use Rattle.dq_dataset.specs.Editing.{cut_out, is_listed}
use Rattle.dq_dataset.specs.Same.{has_element}
use Rattle.dq_dataset.specs.Sieve.{is_over_limit}
use Rattle.dq_vr.specs.StudyRoot.{kept_attributes}
use Rattle.dq_dimse.specs.declared.command.Command.{Command}
use Rattle.dq_dimse.specs.Limits.{store_limit}
use Rattle.dq_dimse.specs.Received.{Message}
use Rattle.dq_dimse.specs.Receiving.{is_over}
use Rattle.dq_dimse.specs.Statuses.{success, out_of_resources, does_not_match_sop_class, cannot_understand, instance_kept_elsewhere, series_kept_elsewhere, elements_discarded}
use Rattle.dq_config.specs.Limits.{Limits}
use Rattle.dq_tables.specs.declared.row.Kind.{Kind}
use Rattle.dq_tables.specs.declared.row.Kind.TheVariants.{Study, Series, Image}
use Rattle.dq_tables.specs.Rows.{Record, Edit, Put}
use Rattle.dq_tables.specs.Lookups.{record_at, records_of}
use Rattle.dq_tables.specs.Keys.{uid_at}
use Rattle.dq_tables.specs.Records.{data_set_of}
use Rattle.dq_tables.specs.ServiceEffects.{first_refusal, refusal_or}
use Rattle.dq_tables.specs.Sound.{is_value}
use Rattle.dq_vr.specs.StudyRoot.{study_attributes, series_attributes, image_attributes}

-- ---- what is sent

-- a data set, with the UIDs of its study, its series and its image
pub record Instance : Type 0 where
  pub elements : ElementList
  pub study : List ℕ
  pub series : List ℕ
  pub image : List ℕ

abbrev pub uid_in : Tag → ElementList → List ℕ
uid_in tag d = unwrap_or (uid_at tag d) []

abbrev pub instance_in : ElementList → Instance
instance_in d = record {
  elements = d;
  study = uid_in study_instance_uid d;
  series = uid_in series_instance_uid d;
  image = uid_in sop_instance_uid d;
}

-- Each UID is there exactly once, and class and instance are those of the command.
unfoldable pub names_instance : Command → ElementList → Bool
names_instance command d =
    (is_value (uid_at sop_class_uid d) command.sop_class
    && is_value (uid_at sop_instance_uid d) command.sop_instance)
    && (is_some (uid_at study_instance_uid d) && is_some (uid_at series_instance_uid d))

-- The canonical Explicit spelling of the elements kept of the data set is over the limit of a sieve.
abbrev pub keeps_too_much : ElementList → Bool
keeps_too_much d = is_over_limit (cut_out kept_attributes d)

-- ---- what is kept already

-- the records of the study, the series and the image that are sent
pub record Kept : Type 0 where
  pub study : Option Record
  pub series : Option Record
  pub image : Option Record

abbrev pub kept_among : List Record → Instance → Kept
kept_among records sent = record {
  study = record_at Study sent.study records;
  series = record_at Series sent.series records;
  image = record_at Image sent.image records;
}

-- the record, if there is one, is under another one than that
abbrev pub is_under_another : Option Record → List ℕ → Bool
is_under_another None above = false
is_under_another (Some r) above = not (bytes_eq r.above above)

-- The instance is kept under another series, or its series under another study.
unfoldable pub is_kept_elsewhere : Kept → Instance → Bool
is_kept_elsewhere kept sent =
    is_some kept.image
    && (is_under_another kept.image sent.series || is_under_another kept.series sent.study)

-- The instance is new, and its series is kept under another study.
unfoldable pub has_series_elsewhere : Kept → Instance → Bool
has_series_elsewhere kept sent = is_none kept.image && is_under_another kept.series sent.study

-- The record is new, and those of its kind are at their limit.
abbrev pub finds_no_room : Option Record → ℕ → ℕ → Bool
finds_no_room kept limit count = is_none kept && nat_le limit count

abbrev pub count_of : Kind → List Record → ℕ
count_of kind records = length (records_of kind records)

-- ---- what is refused

abbrev pub kept_refusals : Kept → Instance → List (Bool × ℕ)
kept_refusals kept sent =
    (is_kept_elsewhere kept sent, instance_kept_elsewhere)
    ∷ (has_series_elsewhere kept sent, series_kept_elsewhere)
    ∷ []

abbrev pub limit_refusals : Limits → List Record → Kept → List (Bool × ℕ)
limit_refusals limits records kept =
    (finds_no_room kept.study limits.studies (count_of Study records), out_of_resources)
    ∷ (finds_no_room kept.image limits.images (count_of Image records), out_of_resources)
    ∷ []

-- those of an instance that was read
abbrev pub instance_refusals : Limits → List Record → Instance → List (Bool × ℕ)
instance_refusals limits records sent =
    kept_refusals (kept_among records sent) sent
    ++ limit_refusals limits records (kept_among records sent)

-- The refusals in their order, each with its status.
abbrev pub storage_refusals
    : Limits → List Record → Message → Result ElementList ReadFault → List (Bool × ℕ)
storage_refusals limits records message data_set =
    let sent = result_unwrap_or data_set no_elements in
    (is_over store_limit message, out_of_resources)
    ∷ (is_err data_set, cannot_understand)
    ∷ (keeps_too_much sent, out_of_resources)
    ∷ (not (names_instance message.command sent), does_not_match_sop_class)
    ∷ instance_refusals limits records (instance_in sent)

-- ---- what is kept

-- the record of a data set at a level
abbrev pub cut_record : Kind → List ℕ → List ℕ → List Tag → ElementList → Record
cut_record kind key above tags d =
    record {
      kind = kind;
      key = key;
      above = above;
      octets = canonical Explicit (cut_out tags d);
      started = false;
    }

abbrev pub study_record : Instance → Record
study_record sent = cut_record Study sent.study [] study_attributes sent.elements

abbrev pub series_record : Instance → Record
series_record sent = cut_record Series sent.series sent.study series_attributes sent.elements

abbrev pub image_record : Instance → Record
image_record sent = cut_record Image sent.image sent.series image_attributes sent.elements

abbrev pub put_new : Option Record → Record → List Edit
put_new None new = Put new ∷ []
put_new (Some kept) new = []

-- A repeated instance changes nothing. The first instance that is stored makes the records of its
-- study and its series.
unfoldable pub stored_edits : Kept → Instance → List Edit
stored_edits kept sent =
    if is_some kept.image then []
    else put_new kept.study (study_record sent)
    ++ (put_new kept.series (series_record sent) ++ Put (image_record sent) ∷ [])

-- the data set of the record that is there afterwards: of the kept one, or of the one that is made
abbrev pub data_set_afterwards : Option Record → List Tag → ElementList → ElementList
data_set_afterwards (Some kept) tags sent = data_set_of kept.octets
data_set_afterwards None tags sent = cut_out tags sent

abbrev pub is_in_one_of : ElementList → ElementList → ElementList → Element → Bool
is_in_one_of study series image e =
    has_element study e || (has_element series e || has_element image e)

-- Each element that was sent is one of those that are kept of a stored object, and the record of the
-- study, of the series or of the image has it with equal octets.
unfoldable pub is_kept_whole : ElementList → ElementList → ElementList → ElementList → Bool
is_kept_whole study series image sent =
    list_all (λ (e : Element). is_listed kept_attributes e && is_in_one_of study series image e)
    (elements_of sent)

unfoldable pub stored_status : Kept → Instance → ℕ
stored_status kept sent =
    let study = data_set_afterwards kept.study study_attributes sent.elements in
    let series = data_set_afterwards kept.series series_attributes sent.elements in
    let image = data_set_afterwards kept.image image_attributes sent.elements in
    if is_kept_whole study series image sent.elements then success else elements_discarded

-- An instance that is not refused is kept, and the status tells whether it is kept whole.
unfoldable pub store_outcome : Limits → List Record → Message → Syntax → ℕ × List Edit
store_outcome limits records message syntax =
    let data_set = data_set_read syntax message.octets in
    let sent = instance_in (result_unwrap_or data_set no_elements) in
    let kept = kept_among records sent in
    refusal_or (first_refusal (storage_refusals limits records message data_set))
    (stored_status kept sent, stored_edits kept sent)
