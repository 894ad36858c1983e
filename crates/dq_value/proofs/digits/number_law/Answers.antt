use Rattle.dq_value.proofs.Spelled.{number-digits, number-only}
use Rattle.dq_value.proofs.digits.number_law.Goals as goal

pub returns-clause-read : goal.returns-clause-read
returns-clause-read c = number-digits

pub returns-clause-only : goal.returns-clause-only
returns-clause-only c = number-only
