use Rattle.std.proofs.Common.{rules}
use Rattle.dq_tables.specs.Keys.{id_of}
use Rattle.dq_tables.proofs.Edits.{made_more}
use Rattle.dq_tables.proofs.step_references.ids_named.Goals as goal

pub loop-item-preserved : goal.loop-item-preserved
loop-item-preserved c =
    made_more id_of c.items_at-item-items.result.now c.loop-item.item-index c.item-item.result c.loop-item.ids c.add_id.new.ids c.loop-item-test.true
    (search rules) c.loop-item.invariant (search rules)
