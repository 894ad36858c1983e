-- Between what the code holds and the definitions.
use Rattle.std.specs.Prelude.{◌≡◌, ℕ, Bool, if◌then◌else◌, List, Option, Some, None, option_map, Result, Ok, Err}
use Rattle.dq_vr.specs.Tags.{sop_instance_uid, study_instance_uid, series_instance_uid}
use Rattle.dq_dimse.specs.Statuses.{elements_discarded}
use Rattle.dq_config.specs.Limits.{Limits}
use Rattle.dq_tables.specs.declared.change.Change.{Change}
use Rattle.dq_tables.specs.declared.change.Change.TheVariants.{Stored}
use Rattle.dq_tables.specs.declared.row.Row.{Row}
use Rattle.dq_tables.specs.Rows.{Record, Edit, record_of, row_of}
use Rattle.dq_tables.specs.Keys.{uid_at}
use Rattle.dq_tables.specs.ServiceEffects.{first_refusal, refusal_or}
use Rattle.dq_store.specs.declared.instance.Instance.{Instance as SentInstance}
use Rattle.dq_store.specs.declared.kept_rows.KeptRows.{KeptRows}
use Rattle.dq_store.specs.CStore.{Instance, Kept, kept_among, instance_refusals, study_record, series_record, image_record, stored_status, stored_edits}

abbrev pub instance_of : SentInstance → Instance
instance_of sent = record {
  elements = sent.data_set.now;
  study = sent.study.now;
  series = sent.series.now;
  image = sent.image.now;
}

abbrev pub records_kept : KeptRows → Kept
records_kept rows = record {
  study = option_map record_of rows.study;
  series = option_map record_of rows.series;
  image = option_map record_of rows.image;
}

-- the rows that are kept already under an institution's name
abbrev pub rows_among : List ℕ → List Record → Instance → KeptRows
rows_among name records sent = record {
  study = option_map (row_of name) (kept_among records sent).study;
  series = option_map (row_of name) (kept_among records sent).series;
  image = option_map (row_of name) (kept_among records sent).image;
}

-- the rows, or the status that refuses
abbrev pub unless_refused : Option ℕ → KeptRows → Result KeptRows ℕ
unless_refused None kept = Ok kept
unless_refused (Some status) kept = Err status

-- the UIDs are those of the data set
pub record HasUids (sent : SentInstance) : Type 0 where
  pub study : uid_at study_instance_uid sent.data_set.now ≡ Some sent.study.now
  pub series : uid_at series_instance_uid sent.data_set.now ≡ Some sent.series.now
  pub image : uid_at sop_instance_uid sent.data_set.now ≡ Some sent.image.now

-- the status of what is kept of an instance, by whether another element was sent
abbrev pub kept_status : Bool → Kept → Instance → ℕ
kept_status other kept sent = if other then elements_discarded else stored_status kept sent

-- what is left to answer of what is kept of an instance
unfoldable pub instance_stored : Limits → List Record → Bool → Instance → ℕ × List Edit
instance_stored limits records other sent =
    refusal_or (first_refusal (instance_refusals limits records sent))
    (kept_status other (kept_among records sent) sent, stored_edits (kept_among records sent) sent)

-- a row of its own where none is kept
abbrev pub new_if : List ℕ → Option Record → Record → Option Row
new_if name None new = Some (row_of name new)
new_if name (Some kept) new = None

-- the change that keeps an instance which is new
abbrev pub new_rows : List ℕ → Kept → Instance → Change
new_rows name kept sent =
    Stored (new_if name kept.study (study_record sent))
    (new_if name kept.series (series_record sent)) (row_of name (image_record sent))
