use Rattle.std.proofs.Common.{[], arith}
use Rattle.std.proofs.lemmas.Bool.{and_parts}
use Rattle.std.proofs.lemmas.Bool.Decides.{nat_tests}
use Rattle.dq_value.specs.Time.{span}
use Rattle.dq_match.specs.Ranges.{has_time, time_meets}
use Rattle.dq_match.proofs.Between.{no_time, unread, closed, from_on, until, single}
use Rattle.dq_match.proofs.laws.a_range_of_times_is_met_between_its_ends.Goals as goal

pub returns-clause-closed : goal.returns-clause-closed
unfolding time_meets
returns-clause-closed c = λ key from to value first last found range is_first is_last is.
    rw (closed span no_time has_time key value found is from to first last (c.range_law.ensures.read key from to range) is_first is_last)
    (grind (arith, nat_tests, and_parts))

pub returns-clause-from : goal.returns-clause-from
unfolding time_meets
returns-clause-from c = λ key from value first found range is_first is.
    rw (from_on span no_time has_time key value found is from first (c.range_law.ensures.read key from [] range) is_first)
    (grind (arith, nat_tests, and_parts))

pub returns-clause-until : goal.returns-clause-until
unfolding time_meets
returns-clause-until c = λ key to value last found range is_last is.
    rw (until span no_time has_time key value found is to last (c.range_law.ensures.read key [] to range) is_last)
    (grind (arith, nat_tests, and_parts))

pub returns-clause-single : goal.returns-clause-single
unfolding time_meets
returns-clause-single c = λ key value asked found one is_asked is.
    rw (single span no_time has_time key value found is asked one is_asked) (grind (arith, nat_tests, and_parts))

pub returns-clause-unread : goal.returns-clause-unread
unfolding time_meets
returns-clause-unread c = λ key value. unread has_time _ _
