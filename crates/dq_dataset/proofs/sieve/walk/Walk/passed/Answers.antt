use Rattle.std.proofs.Common.{refl, arith}
use Rattle.dq_dataset.specs.declared.sieve.walk.Walk.{Walk}
use Rattle.dq_dataset.proofs.WalkSteps.{passes}
use Rattle.dq_dataset.proofs.sieve.walk.Walk.passed.Goals as goal

pub settled-requires : goal.settled-requires
settled-requires c =
    let w = c.args.self in
    let next : Walk = record { left = c.saturating_sub-2.result; place = w.place; around = w.around; front = w.front } in
    (passes w next c.args.until c.args.octets.now c.min-count.result c.requires.walk c.requires.place
    (omega (arith, c.min-count.ensures, c.saturating_sub.ensures)) (omega (arith, c.min-count.ensures)) c.saturating_sub-2.ensures
    refl refl refl).settling

pub returns-clause-leads : goal.returns-clause-leads
returns-clause-leads c =
    let w = c.args.self in
    let next : Walk = record { left = c.saturating_sub-2.result; place = w.place; around = w.around; front = w.front } in
    (passes w next c.args.until c.args.octets.now c.min-count.result c.requires.walk c.requires.place
    (omega (arith, c.min-count.ensures, c.saturating_sub.ensures)) (omega (arith, c.min-count.ensures)) c.saturating_sub-2.ensures
    refl refl refl).on c.settled.result c.settled.ensures
