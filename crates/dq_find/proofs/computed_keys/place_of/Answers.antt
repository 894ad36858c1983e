use Rattle.std.proofs.Common.{◌≡◌, ◌<◌, ◌∙◌, length, sym, ap, arith}
use Rattle.dq_tables.specs.Rows.{octet_order}
use Rattle.dq_find.proofs.FirstValues.{place_later, place_found, place_taken, place_last}
use Rattle.dq_find.proofs.computed_keys.place_of.Goals as goal

pub returns-in-Less-clause-free : goal.returns-in-Less-clause-free
returns-in-Less-clause-free c =
    let within : c.loop-at.at < length c.args.values.now = omega arith in
    place_found c.args.value.now c.index-values-at.result c.args.values.now c.loop-at.at within c.index-values-at.is c.loop-at.invariant
    (sym (c.cmp.ensures ∙ ap (octet_order c.args.value.now) c.as_slice.ensures) ∙ c.in-Less.is)

pub returns-in-Equal-clause-there : goal.returns-in-Equal-clause-there
returns-in-Equal-clause-there c =
    let within : c.loop-at.at < length c.args.values.now = omega arith in
    place_taken c.args.value.now c.index-values-at.result c.args.values.now c.loop-at.at within c.index-values-at.is c.loop-at.invariant
    (sym (c.cmp.ensures ∙ ap (octet_order c.args.value.now) c.as_slice.ensures) ∙ c.in-Equal.is)

pub loop-at-preserved : goal.loop-at-preserved
loop-at-preserved c =
    let within : c.loop-at.at < length c.args.values.now = omega arith in
    place_later c.args.value.now c.index-values-at.result c.args.values.now c.loop-at.at within c.index-values-at.is c.loop-at.invariant
    (sym (c.cmp.ensures ∙ ap (octet_order c.args.value.now) c.as_slice.ensures) ∙ c.in-Greater.is)

pub returns-clause-free : goal.returns-clause-free
returns-clause-free c =
    let all : c.loop-at.at ≡ length c.args.values.now = omega arith in
    place_last c.args.value.now c.args.values.now c.loop-at.at all c.loop-at.invariant
