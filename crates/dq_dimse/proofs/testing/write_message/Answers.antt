use Rattle.std.proofs.Common.{ℕ, List, Bor, option_map, ap}
use Rattle.dq_dimse.specs.declared.command.Command.{Command}
use Rattle.dq_dimse.specs.Sending.{message_pdus}
use Rattle.dq_dimse.proofs.testing.write_message.Goals as goal

pub returns : goal.returns
returns c =
    let octets = option_map (λ (o : Bor (List ℕ)). o.now) c.args.octets in
    rw (c.in_ok-put_data.ensures, c.in_ok-append_command.ensures, c.new-written.ensures.items)
    (ap (λ (r : Command). message_pdus c.args.context r octets c.args.limit) c.lent.ensures)
