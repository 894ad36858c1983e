use Rattle.std.proofs.Common.{rules}
use Rattle.dq_console.proofs.console.request_note.Goals as goal

pub returns-in_ok-format-in-Schedule : goal.returns-in_ok-format-in-Schedule
returns-in_ok-format-in-Schedule c =
    rw c.in-Schedule.is (c.noted_name-name.result.now, rw c.as_slice.ensures at c.noted_name-name.ensures, search rules)

pub returns-in_ok-format-in-Withdraw : goal.returns-in_ok-format-in-Withdraw
returns-in_ok-format-in-Withdraw c =
    rw c.in-Withdraw.is
    (c.noted_name-name-in-Withdraw.result.now, rw c.as_slice-in-Withdraw.ensures at c.noted_name-name-in-Withdraw.ensures, search rules)
