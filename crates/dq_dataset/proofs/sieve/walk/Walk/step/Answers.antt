use Rattle.std.proofs.Common.{get_or, refl}
use Rattle.dq_dataset.specs.declared.sieve.walk.Walk.{Walk}
use Rattle.dq_dataset.proofs.WalkSteps.{comes}
use Rattle.dq_dataset.proofs.sieve.walk.Walk.step.Goals as goal

pub item_came-requires-clause-come : goal.item_came-requires-clause-come
item_came-requires-clause-come c =
    let w = c.args.self in
    let next : Walk = record { left = w.left; place = w.place; around = w.around; front = c.push.new.self } in
    (comes w next c.args.octets.now (get_or c.args.octets.now 0 0) c.requires.walk c.requires.some refl refl refl refl
    c.in_ok-push-in-InItems.ensures.items).0

pub returns-in_ok-item_came-in-InItems-clause-leads : goal.returns-in_ok-item_came-in-InItems-clause-leads
returns-in_ok-item_came-in-InItems-clause-leads c =
    let w = c.args.self in
    let next : Walk = record { left = w.left; place = w.place; around = w.around; front = c.push.new.self } in
    (comes w next c.args.octets.now (get_or c.args.octets.now 0 0) c.requires.walk c.requires.some refl refl refl refl
    c.in_ok-push-in-InItems.ensures.items).1 _ c.in_ok-item_came-in-InItems.ensures

pub element_came-requires-clause-come : goal.element_came-requires-clause-come
element_came-requires-clause-come c =
    let w = c.args.self in
    let next : Walk = record { left = w.left; place = w.place; around = w.around; front = c.push-in-InElements.new.self } in
    (comes w next c.args.octets.now (get_or c.args.octets.now 0 0) c.requires.walk c.requires.some refl refl refl refl
    c.in_ok-push-in-InElements.ensures.items).0

pub returns-in_ok-element_came-in-InElements-clause-leads : goal.returns-in_ok-element_came-in-InElements-clause-leads
returns-in_ok-element_came-in-InElements-clause-leads c =
    let w = c.args.self in
    let next : Walk = record { left = w.left; place = w.place; around = w.around; front = c.push-in-InElements.new.self } in
    (comes w next c.args.octets.now (get_or c.args.octets.now 0 0) c.requires.walk c.requires.some refl refl refl refl
    c.in_ok-push-in-InElements.ensures.items).1 _ c.in_ok-element_came-in-InElements.ensures
