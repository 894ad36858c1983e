use Rattle.dq_captures.proofs.Lines.{no_schedule}
use Rattle.dq_captures.proofs.capture.schedule_of.Goals as goal

pub returns-in-None : goal.returns-in-None
returns-in-None c = λ line begins event spells.
    let none = rw c.in-None.is at c.in_ok-inst.ensures in
    no_schedule line c.args.rest.now none begins event spells
