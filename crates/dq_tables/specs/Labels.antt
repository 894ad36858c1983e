-- The patient and the day in the data set of a study.
use Rattle.std.specs.Prelude.{ℕ, ℤ, pos, ◌+ℤ◌, ◌*ℤ◌, unsigned_abs, List, Option, None, option_and_then, option_map}
use Rattle.dq_vr.specs.Tags.{patient_id, study_date}
use Rattle.dq_value.specs.Day.{Ymd, date_in}
use Rattle.dq_dataset.specs.Tree.{ElementList}
use Rattle.dq_dataset.specs.Values.{sole_at}
use Rattle.dq_tables.specs.declared.row.Kind.{Kind}
use Rattle.dq_tables.specs.declared.row.Kind.TheVariants.{Study}
use Rattle.dq_tables.specs.declared.row.Row.{Row}
use Rattle.dq_tables.specs.Records.{data_set_of}

-- the number that the digits YYYYMMDD of a date are
abbrev pub date_number : Ymd → ℤ
date_number date = pos 10_000 *ℤ date.0 +ℤ (pos 100 *ℤ pos date.1 +ℤ pos date.2)

-- the same of octets that spell a date
unfoldable pub day_named : List ℕ → Option ℕ
day_named octets = option_map (λ date. unsigned_abs (date_number date)) (date_in octets)

-- the only value of Patient ID (0010,0020)
abbrev pub patient_in : Kind → ElementList → Option (List ℕ)
patient_in Study d = sole_at patient_id d
patient_in kind d = None

-- the only value of Study Date (0008,0020), where that is a date of the calendar
abbrev pub day_in : Kind → ElementList → Option ℤ
day_in Study d = option_map date_number (option_and_then date_in (sole_at study_date d))
day_in kind d = None

unfoldable pub patient_of : Row → Option (List ℕ)
patient_of row = patient_in row.kind (data_set_of row.octets)

unfoldable pub day_of : Row → Option ℤ
day_of row = day_in row.kind (data_set_of row.octets)
