use Rattle.std.proofs.Common.{refl, arith}
use Rattle.std.proofs.lemmas.List.{nil_from_length}
use Rattle.dq_dataset.specs.declared.sieve.walk.Walk.{Walk}
use Rattle.dq_dataset.proofs.WalkSteps.{ends_in, ends_over}
use Rattle.dq_dataset.proofs.sieve.walk.Walk.ended.Goals as goal

pub settled-requires : goal.settled-requires
settled-requires c =
    let w = c.args.self in
    let next : Walk = record { left = c.left_behind.result; place = c.in-Some.place; around = c.pop.new.self; front = c.clear.new.self } in
    (ends_in w c.requires.come c.requires.ends next c.pop.new.self.items c.in-Some.ensures.items c.left_behind.ensures refl c.clear.ensures.items).settling

pub returns-in-Some : goal.returns-in-Some
returns-in-Some c =
    let w = c.args.self in
    let next : Walk = record { left = c.left_behind.result; place = c.in-Some.place; around = c.pop.new.self; front = c.clear.new.self } in
    (ends_in w c.requires.come c.requires.ends next c.pop.new.self.items c.in-Some.ensures.items c.left_behind.ensures refl c.clear.ensures.items).on c.settled.result c.settled.ensures

pub returns-in-None : goal.returns-in-None
returns-in-None c =
    ends_over c.args.self c.requires.come c.requires.ends
    (nil_from_length c.args.self.around.items (omega (arith, c.in-None.ensures.cases, c.args.self.around.ok.0)))
