use Rattle.std.proofs.Common.{false}
use Rattle.dq_core.specs.Queries.{command_octets}
use Rattle.dq_core.proofs.Sending.{final-sent}
use Rattle.dq_core.proofs.pages.OpenQuery.send_final.Goals as goal

pub returns : goal.returns
returns c = λ records.
    let self = c.args.self.now in
    final-sent c.args.out.now.items c.put_command.new.out.items (command_octets self.context self.limit self.command c.args.status false)
    (rw (c.recipient.ensures.0, c.recipient.ensures.1, c.recipient.ensures.2) at c.in_ok-put_command.ensures)
