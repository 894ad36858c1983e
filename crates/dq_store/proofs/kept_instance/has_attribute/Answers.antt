use Rattle.std.proofs.Common.{◌∙◌}
use Rattle.dq_store.proofs.LevelAttributes.{listed_has, unlisted_has}
use Rattle.dq_store.proofs.kept_instance.has_attribute.Goals as goal

-- src/kept.rt:151:1
pub returns-then-is_listed : goal.returns-then-is_listed
returns-then-is_listed c =
    c.has.ensures
    ∙ listed_has c.args.tags.now c.args.data_set.now c.args.element.now c.is_listed.result c.is_listed.ensures c.if-is_listed.true

-- src/kept.rt:151:1
pub returns-else-is_listed : goal.returns-else-is_listed
returns-else-is_listed c =
    unlisted_has c.args.tags.now c.args.data_set.now c.args.element.now c.is_listed.result c.is_listed.ensures c.if-is_listed.false
