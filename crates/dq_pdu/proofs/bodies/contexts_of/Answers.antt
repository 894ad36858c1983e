use Rattle.std.proofs.Common.{ap, sym, ◌∙◌}
use Rattle.dq_pdu.specs.Octets.{bodies, each_given}
use Rattle.dq_pdu.proofs.ItemBodies.{StandsAt, each_here, each_past}
use Rattle.dq_pdu.proofs.bodies.contexts_of.Goals as goal
use Rattle.dq_pdu.proofs.bodies.contexts_of.Goals.{then-item-kind+in_ok-read+in_ok-push, else-item-kind}

pub loop-item-preserved : goal.loop-item-preserved
loop-item-preserved g c =
    let items = c.args.items.now in
    let kind = c.args.kind in
    let context_of = g.C.Context.context_of in
    let at : StandsAt items c.loop-item.item-index c.item-item.result = record { within = c.loop-item-test.true; is = c.item-item.is } in
    elim c.if-item-kind.branch [
      | then-item-kind+in_ok-read+in_ok-push w ↦ rw (w.contexts-is, w.in_ok-push.ensures.items)
          (each_here context_of kind items c.loop-item.item-index c.item-item.result c.loop-item.contexts.items _ (each_given context_of
          (bodies kind items)) at w.if-item-kind.true (ap context_of (sym (w.deref.ensures.value ∙ w.inner.ensures))
          ∙ w.in_ok-read.ensures) c.loop-item.invariant)
      | else-item-kind w ↦ rw w.contexts-is
          (each_past context_of kind items c.loop-item.item-index c.item-item.result c.loop-item.contexts.items (each_given context_of
          (bodies kind items)) at w.if-item-kind.false c.loop-item.invariant)
    ]
