use Rattle.std.proofs.Common.{sym, ◌∙◌}
use Rattle.dq_dimse.specs.Assembling.{messages_from, assembly_from}
use Rattle.dq_assoc.proofs.Sound.{pdvs-closed, pdvs-open}
use Rattle.dq_assoc.proofs.HeldAssociations.{on_ok, pdvs_read}
use Rattle.dq_assoc.proofs.association.Association.take_pdvs.Goals as goal

pub returns-then-read-clause-exact : goal.returns-then-read-clause-exact
returns-then-read-clause-exact c = λ a h e.
    rw c.hold.ensures (on_ok c.closing_step.result _ _
    (sym (pdvs-closed c.args.agreement a c.args.pdvs.now (sym (c.in_ok-read.ensures.fault a h) ∙ c.if-read.true))))

pub returns-clause-step : goal.returns-clause-step
returns-clause-step c = λ a h.
    pdvs_read c.args.assembler.accepted c.in_ok-read.read.messages c.empty.result (messages_from a c.args.pdvs.now) (c.in_ok-read.ensures.messages a h)
    c.empty.ensures (sym (c.in_ok-read.ensures.fault a h) ∙ c.if-read.false)

pub returns-clause-exact : goal.returns-clause-exact
returns-clause-exact c = λ a h e. rw c.hold-2.ensures (
  assembly_from a c.args.pdvs.now,
  sym (pdvs-open c.args.agreement a c.args.pdvs.now (sym (c.in_ok-read.ensures.fault a h) ∙ c.if-read.false)),
  c.in_ok-read.ensures.next a h c.if-read.false,
  c.in_ok-read.ensures.keeps ∙ e,
)
