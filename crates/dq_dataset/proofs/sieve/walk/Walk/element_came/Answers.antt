use Rattle.std.proofs.Common.{sym, subst}
use Rattle.dq_dataset.specs.declared.sieve.walk.Cursor.{Cursor}
use Rattle.dq_dataset.specs.Sifting.{IsPart}
use Rattle.dq_dataset.proofs.WalkHeaders.{whole_header, element_ends_here, element_fails, element_too_long, element_nested, element_leads}
use Rattle.dq_dataset.proofs.sieve.walk.Walk.element_came.Goals as goal

pub waiting-requires-clause-part : goal.waiting-requires-clause-part
waiting-requires-clause-part c =
    subst (λ (p : Cursor). IsPart p c.args.self.front.items) (sym c.requires.place) (rw c.deref.ensures.value at c.in-Part.ensures.met)

pub ended-requires-clause-ends : goal.ended-requires-clause-ends
ended-requires-clause-ends c =
    let met = rw (c.deref.ensures.value, c.bound.ensures) at c.in-End.ensures.met in
    let ok = rw c.deref.ensures.value at c.in-End.ensures.octets in
    element_ends_here c.args.self c.args.syntax c.args.levels c.args.last c.args.reach c.requires.come c.requires.place ok met.0 met.1

pub returns-in-Bad : goal.returns-in-Bad
returns-in-Bad c =
    let met = rw (c.deref.ensures.value, c.bound.ensures) at c.in-Bad.ensures.met in
    let ok = rw c.deref.ensures.value at c.in-Bad.ensures.octets in
    element_fails c.args.self c.args.syntax c.args.levels c.args.last c.args.reach c.requires.come c.requires.place ok c.in-Bad.fault c.left_behind-left.result
    c.left_behind-left.ensures met.0 met.1 met.2

pub of_value-requires : goal.of_value-requires
of_value-requires c =
    let come = c.requires.come in
    let met = rw c.deref.ensures.value at c.in-Whole.ensures.met in
    let ok = rw c.deref.ensures.value at c.in-Whole.ensures.octets in
    let part = rw c.requires.place at come.part in
    (whole_header c.args.syntax c.args.levels c.args.last come.before come.octet c.args.self.front.items c.in-Whole.field-0 met.0 come.is part ok met.1).nests

pub entered-requires-clause-nested : goal.entered-requires-clause-nested
entered-requires-clause-nested c =
    let met = rw c.deref.ensures.value at c.in-Whole.ensures.met in
    let ok = rw c.deref.ensures.value at c.in-Whole.ensures.octets in
    let opened = rw c.length_of.ensures at c.in-Some.ensures.some in
    rw c.of_value.ensures
    (element_nested c.args.self c.args.syntax c.args.levels c.args.last c.args.reach c.requires.come c.requires.place ok c.in-Whole.field-0 met.0 met.1
    c.left_behind-left.result c.left_behind-left.ensures
    opened.2 c.in-Some.inner c.in-Some.left opened.0 opened.1)

pub entered-requires-clause-leads : goal.entered-requires-clause-leads
entered-requires-clause-leads c =
    let met = rw c.deref.ensures.value at c.in-Whole.ensures.met in
    let ok = rw c.deref.ensures.value at c.in-Whole.ensures.octets in
    let opened = rw c.length_of.ensures at c.in-Some.ensures.some in
    rw c.of_value.ensures
    (element_leads c.args.self c.args.syntax c.args.levels c.args.last c.args.reach c.requires.come c.requires.place ok c.in-Whole.field-0 met.0 met.1
    c.left_behind-left.result c.left_behind-left.ensures
    opened.2 c.in-Some.inner c.in-Some.left opened.0 opened.1)

pub returns-in-None : goal.returns-in-None
returns-in-None c =
    let met = rw c.deref.ensures.value at c.in-Whole.ensures.met in
    let ok = rw c.deref.ensures.value at c.in-Whole.ensures.octets in
    element_too_long c.args.self c.args.syntax c.args.levels c.args.last c.args.reach c.requires.come c.requires.place ok c.in-Whole.field-0 met.0 met.1
    c.left_behind-left.result c.left_behind-left.ensures
    (rw c.length_of.ensures at c.in-None.ensures.none)
