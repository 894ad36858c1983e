use Rattle.dq_dataset.specs.declared.sieve.walk.Walk.{Walk}
use Rattle.dq_dataset.proofs.WalkSteps.{enters}
use Rattle.dq_dataset.proofs.sieve.walk.Walk.entered.Goals as goal

pub settled-requires : goal.settled-requires
settled-requires c =
    let next : Walk = record { left = c.args.left; place = c.args.inner; around = c.push.new.self; front = c.clear.new.self } in
    (enters c.args.self next c.args.behind c.requires.nested c.requires.leads c.in_ok-push.ensures.items c.clear.ensures.items).settling

pub returns : goal.returns
returns c =
    let next : Walk = record { left = c.args.left; place = c.args.inner; around = c.push.new.self; front = c.clear.new.self } in
    (enters c.args.self next c.args.behind c.requires.nested c.requires.leads c.in_ok-push.ensures.items c.clear.ensures.items).on
    c.settled.result c.settled.ensures
