use Rattle.std.proofs.Common.{sym, subst}
use Rattle.dq_dataset.specs.declared.sieve.walk.Cursor.{Cursor}
use Rattle.dq_dataset.specs.Sifting.{IsPart}
use Rattle.dq_dataset.proofs.WalkHeaders.{item_ends, item_fails, item_too_long, item_nested, item_leads}
use Rattle.dq_dataset.proofs.sieve.walk.Walk.item_came.Goals as goal

pub waiting-requires-clause-part : goal.waiting-requires-clause-part
waiting-requires-clause-part c =
    subst (λ (p : Cursor). IsPart p c.args.self.front.items) (sym c.requires.place) (rw c.deref.ensures.value at c.in-Part.ensures.met)

pub ended-requires-clause-ends : goal.ended-requires-clause-ends
ended-requires-clause-ends c =
    let met = rw (c.deref.ensures.value, c.bound.ensures) at c.in-End.ensures.met in
    let ok = rw c.deref.ensures.value at c.in-End.ensures.octets in
    item_ends c.args.self c.args.syntax c.args.levels c.args.reach c.requires.come c.requires.place ok met.0 met.1

pub returns-in-Bad : goal.returns-in-Bad
returns-in-Bad c =
    let met = rw (c.deref.ensures.value, c.bound.ensures) at c.in-Bad.ensures.met in
    let ok = rw c.deref.ensures.value at c.in-Bad.ensures.octets in
    item_fails c.args.self c.args.syntax c.args.levels c.args.reach c.requires.come c.requires.place ok c.in-Bad.fault c.left_behind-left.result c.left_behind-left.ensures
    met.0 met.1 met.2

pub entered-requires-clause-nested : goal.entered-requires-clause-nested
entered-requires-clause-nested c =
    let met = rw c.deref.ensures.value at c.in-Whole.ensures.met in
    let ok = rw c.deref.ensures.value at c.in-Whole.ensures.octets in
    let opened = c.in-Some.ensures.some in
    item_nested c.args.self c.args.syntax c.args.levels c.args.reach c.requires.come c.requires.place ok c.in-Whole.extent met.0 c.left_behind-left.result met.1
    c.left_behind-left.ensures opened.2 c.in-Some.inner c.in-Some.left opened.0 opened.1

pub entered-requires-clause-leads : goal.entered-requires-clause-leads
entered-requires-clause-leads c =
    let met = rw c.deref.ensures.value at c.in-Whole.ensures.met in
    let ok = rw c.deref.ensures.value at c.in-Whole.ensures.octets in
    let opened = c.in-Some.ensures.some in
    item_leads c.args.self c.args.syntax c.args.levels c.args.reach c.requires.come c.requires.place ok c.in-Whole.extent met.0 c.left_behind-left.result met.1
    c.left_behind-left.ensures opened.2 c.in-Some.inner c.in-Some.left opened.0 opened.1

pub returns-in-None : goal.returns-in-None
returns-in-None c =
    let met = rw c.deref.ensures.value at c.in-Whole.ensures.met in
    let ok = rw c.deref.ensures.value at c.in-Whole.ensures.octets in
    item_too_long c.args.self c.args.syntax c.args.levels c.args.reach c.requires.come c.requires.place ok c.in-Whole.extent met.0 c.left_behind-left.result met.1
    c.left_behind-left.ensures c.in-None.ensures.none
