use Rattle.dq_core.proofs.Looking.{looked-none, looked-then}
use Rattle.dq_core.proofs.laws.looks_are_one_look.Goals as goal

pub returns-clause-no_look : goal.returns-clause-no_look
returns-clause-no_look g c = λ server. looked-none server

pub returns-clause-another : goal.returns-clause-another
returns-clause-another g c = λ old mid new first later. looked-then first later
