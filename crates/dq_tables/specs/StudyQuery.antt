-- The key, the patient and the day that a query of studies asks for.
use Rattle.std.specs.Prelude.{ℕ, List, Option, Some, None, unwrap_or, option_and_then}
use Rattle.dq_value.specs.Range.{Ends, range_ends}
use Rattle.dq_tables.specs.declared.choice.Choice.{Choice}
use Rattle.dq_tables.specs.Labels.{day_named}

-- the ends of a range of dates, and of one date the date (PS3.4 section C.2.2.2.5)
abbrev pub ends_asked : List ℕ → Ends
ends_asked date = unwrap_or (range_ends date) (Some date, Some date)

-- the first and the last day that a value of a date key asks for
abbrev pub days_asked : Option (List ℕ) → Option ℕ × Option ℕ
days_asked None = (None, None)
days_asked (Some date) =
    (option_and_then day_named (ends_asked date).0, option_and_then day_named (ends_asked date).1)

abbrev pub choice_asking : Option (List ℕ) → Option (List ℕ) → Option (List ℕ) → Choice
choice_asking uid patient date = record {
  uid = uid;
  patient = patient;
  first_day = (days_asked date).0;
  last_day = (days_asked date).1;
}
