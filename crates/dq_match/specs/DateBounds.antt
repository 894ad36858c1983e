-- The bounds of a range of dates as day numbers.
use Rattle.std.specs.Prelude.{ℤ, option_map}
use Rattle.jiff.specs.Words.{epoch_day}
use Rattle.jiff_core.specs.declared.civil.date.Date.{Date}
use Rattle.dq_match.specs.Ranges.{Bounds}

abbrev pub days_of : Bounds Date → Bounds ℤ
days_of range = (option_map epoch_day range.0, option_map epoch_day range.1)
