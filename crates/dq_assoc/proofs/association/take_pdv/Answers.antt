use Rattle.dq_assoc.proofs.HeldAssociations.{took_message}
use Rattle.dq_assoc.proofs.association.take_pdv.Goals as goal

pub returns-in_ok-push-in-Ok-Some-clause-messages : goal.returns-in_ok-push-in-Ok-Some-clause-messages
returns-in_ok-push-in-Ok-Some-clause-messages c = λ assembly before h stand.
    took_message c.args.assembler.now.accepted c.args.messages.now c.push.new.self before c.in-Ok-Some.field-0 c.in-Ok-Some.message _
    c.in-Ok-Some.field-0-is (c.in-Ok-Some.ensures.exact assembly h) stand c.in_ok-push-in-Ok-Some.ensures.ok
