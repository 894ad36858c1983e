use Rattle.std.proofs.Common.{◌∷◌, refl}
use Rattle.dq_tables.specs.declared.row.Kind.TheVariants.{Entry}
use Rattle.dq_counts.proofs.RightCounts.{stored_right, new_right, gone_right, step_right, changed_right}
use Rattle.dq_counts.proofs.counts.Counts.follow.Goals as goal

pub returns-in-Stored : goal.returns-in-Stored
returns-in-Stored c rows rising fits right =
    let it = c.in-Stored in
    rw it.is (stored_right it.study it.series it.image rows c.add_if.new.self c.add_if-in-Stored.new.self c.add.new.self rising (rw it.is at fits)
    (c.add_if.ensures rows right) c.add_if-in-Stored.ensures c.add.ensures)

pub returns-in-EntryAdded : goal.returns-in-EntryAdded
returns-in-EntryAdded c rows rising fits right =
    let it = c.in-EntryAdded in
    rw it.is (new_right rows rising Entry it.row c.add-in-EntryAdded.new.self (rw it.is at fits) (c.add-in-EntryAdded.ensures rows right))

pub returns-in-EntryRemoved : goal.returns-in-EntryRemoved
returns-in-EntryRemoved c rows rising fits right =
    let it = c.in-EntryRemoved in
    rw it.is (gone_right it.institution it.field-1 rows c.args.self.now c.change.new.self rising (rw it.is at fits) right
    (λ row others kind inst. c.change.ensures row (row ∷ others) others kind (rw c.as_slice.ensures inst) refl))

pub returns-in-StepAdded : goal.returns-in-StepAdded
returns-in-StepAdded c rows rising fits right =
    let it = c.in-StepAdded in
    rw it.is (step_right it.row it.field-1 rows c.add-in-StepAdded.new.self rising (rw it.is at fits) (c.add-in-StepAdded.ensures rows right))

pub returns-in-StepChanged : goal.returns-in-StepChanged
returns-in-StepChanged c rows rising fits right =
    let it = c.in-StepChanged in
    rw it.is (changed_right it.field-0 rows c.args.self.now rising (rw it.is at fits) right)
