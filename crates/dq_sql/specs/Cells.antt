-- The columns in which a store holds a row.
use Rattle.std.specs.Prelude.{Bool, pos, [], ◌∷◌, if◌then◌else◌}
use Rattle.sqlite_value.specs.declared.value.Value.{Value}
use Rattle.sqlite_value.specs.declared.value.Value.TheVariants.{Int, Text, Blob}
use Rattle.sqlite_value.specs.Order.{Row as Values}
use Rattle.sqlite.specs.Values.{or_null}
use Rattle.dq_tables.specs.declared.row.Row.{Row}
use Rattle.dq_tables.specs.Rows.{number_of_kind}
use Rattle.dq_tables.specs.Labels as labels

-- the patient and the day of a study
unfoldable pub patient_cell : Row → Value
patient_cell row = or_null Blob (labels.patient_of row)

unfoldable pub day_cell : Row → Value
day_cell row = or_null Int (labels.day_of row)

-- whether an entry is started
abbrev pub flag : Bool → Value
flag started = Int (if started then pos 1 else pos 0)

-- the columns of a row, after its rowid
abbrev pub columns_of : Row → Values
columns_of row =
    Int (pos (number_of_kind row.kind)) ∷ Text row.inst ∷ Blob row.key ∷ Blob row.above
    ∷ patient_cell row ∷ day_cell row ∷ Blob row.octets ∷ flag row.started ∷ []
