use Rattle.dq_dataset.proofs.WalkSteps.{waits, waits_on}
use Rattle.dq_dataset.proofs.sieve.walk.Walk.waiting.Goals as goal

pub returns-then-is_full : goal.returns-then-is_full
returns-then-is_full c =
    waits c.args.self c.requires.come c.requires.part (rw (c.is_full.ensures, c.reach.ensures, c.left_behind-left.ensures) at c.if-is_full.true)

pub returns : goal.returns
returns c = waits_on c.args.self c.requires.come c.requires.part (rw (c.is_full.ensures, c.reach.ensures, c.left_behind-left.ensures) at c.if-is_full.false)
