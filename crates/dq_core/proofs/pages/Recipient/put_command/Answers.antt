use Rattle.std.proofs.Common.{ℕ, List, ◌++◌, true, ap, ◌∙◌}
use Rattle.dq_dimse.specs.declared.command.Command.{Command}
use Rattle.dq_dimse.specs.Sending.{command_set, cut_into_pdus}
use Rattle.dq_core.specs.Services.{response_command}
use Rattle.dq_core.proofs.pages.Recipient.put_command.Goals as goal

pub returns : goal.returns
returns c =
    let to = c.args.self in
    let out : List ℕ = c.args.out.now.items in
    c.in_ok-append_command.ensures
    ∙ ap (λ (r : Command). out ++ cut_into_pdus to.context.id true c.octets.result (command_set r)) c.response_command-response.ensures
    ∙ ap (λ (n : ℕ). out ++ cut_into_pdus to.context.id true n (command_set (response_command to.context.class to.command.now c.args.status c.args.with_data)))
    c.octets.ensures.same
