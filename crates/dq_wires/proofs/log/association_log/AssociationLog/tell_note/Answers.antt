use Rattle.std.proofs.Common.{None, refl, ap, ◌∙◌}
use Rattle.std.proofs.Math.Seq.{map-set_same}
use Rattle.dq_wires.specs.declared.watched.Watched.{Watched}
use Rattle.dq_wires.specs.Watching.{without_associations}
use Rattle.dq_wires.proofs.log.association_log.AssociationLog.tell_note.Goals as goal
use Rattle.dq_wires.proofs.log.association_log.AssociationLog.tell_note.Goals.{then-watched-number, else-watched-number}

pub loop-watched-preserved : goal.loop-watched-preserved
loop-watched-preserved g c =
    let alone : Watched → Watched = λ w. record w { opened = None } in
    let items = c.loop-watched.watched-items in
    let item = c.watched-item.result in
    elim c.if-watched-number.branch [
      | then-watched-number w ↦
          ap without_associations w.watched-items-is ∙ map-set_same alone items _ _ item (ap alone w.close-ended.ensures.left ∙ ap alone w.count.ensures)
          ∙ c.loop-watched.invariant
      | else-watched-number w ↦
          ap without_associations w.watched-items-is ∙ map-set_same alone items _ _ item refl ∙ c.loop-watched.invariant
    ]
