use Rattle.std.proofs.Common.{[], arith}
use Rattle.std.proofs.lemmas.Bool.{and_parts}
use Rattle.std.proofs.lemmas.Int.{ints}
use Rattle.dq_value.specs.Day.{day}
use Rattle.dq_match.proofs.Moments.{le_true, true_le}
use Rattle.dq_match.specs.Ranges.{has_day, date_meets}
use Rattle.dq_match.proofs.Between.{no_day, unread, closed, from_on, until, single}
use Rattle.dq_match.proofs.laws.a_range_of_dates_is_met_between_its_ends.Goals as goal

pub returns-clause-closed : goal.returns-clause-closed
unfolding date_meets
returns-clause-closed c = λ key from to value first last found range is_first is_last is.
    rw (closed day no_day has_day key value found is from to first last (c.range_law.ensures.read key from to range) is_first is_last)
    (grind (arith, ints, le_true, true_le, and_parts))

pub returns-clause-from : goal.returns-clause-from
unfolding date_meets
returns-clause-from c = λ key from value first found range is_first is.
    rw (from_on day no_day has_day key value found is from first (c.range_law.ensures.read key from [] range) is_first)
    (grind (arith, ints, le_true, true_le, and_parts))

pub returns-clause-until : goal.returns-clause-until
unfolding date_meets
returns-clause-until c = λ key to value last found range is_last is.
    rw (until day no_day has_day key value found is to last (c.range_law.ensures.read key [] to range) is_last)
    (grind (arith, ints, le_true, true_le, and_parts))

pub returns-clause-single : goal.returns-clause-single
unfolding date_meets
returns-clause-single c = λ key value asked found one is_asked is.
    rw (single day no_day has_day key value found is asked one is_asked) (grind (arith, ints, le_true, true_le, and_parts))

pub returns-clause-unread : goal.returns-clause-unread
unfolding date_meets
returns-clause-unread c = λ key value. unread has_day _ _
