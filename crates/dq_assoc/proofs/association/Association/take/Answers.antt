use Rattle.std.proofs.Common.{IsTrue, Some, ap, subst, ◌∙◌}
use Rattle.dq_assoc.specs.declared.association.Held.{Held}
use Rattle.dq_assoc.specs.Holding.{is_unspent}
use Rattle.dq_assoc.specs.Roles.{role_of}
use Rattle.dq_assoc.proofs.HeldAssociations.{carried_step, closed_default}
use Rattle.dq_assoc.proofs.OnePdu.{carries-data}
use Rattle.dq_assoc.proofs.association.Association.take.Goals as goal

pub returns-in-PData-clause-step : goal.returns-in-PData-clause-step
returns-in-PData-clause-step c = λ association stands.
    carried_step c.take_pdvs.result c.args.self.now c.in-Open.agreement c.in-Open.assembler (role_of c.args.pdu) c.in-PData.pdvs c.as_slice.result.now
    association (c.in-Open.ensures.value ∙ c.self.view_is) (ap role_of c.in-PData.is) c.as_slice.ensures stands c.take_pdvs.ensures.step

pub returns : goal.returns
returns c =
    let left = closed_default c.closing_step-in_default.result c.args.self.now c.hold.new.self c.in-Open.agreement c.in-Open.assembler (role_of c.args.pdu)
    c.empty-messages.result (Some c.by_pdu.result) (c.in-Open.ensures.value ∙ c.self.view_is) c.hold.ensures
    (subst (λ (x : Held). IsTrue (is_unspent x)) c.self.view_is c.self.invariant)
    (λ pdvs e. c.in_default.not-PData pdvs (carries-data c.args.pdu pdvs e)) c.empty-messages.ensures c.by_pdu.ensures c.closing_step-in_default.ensures in
    record { step = left.step; close = left.close; next = left.exact; agreement = left.agreement }
