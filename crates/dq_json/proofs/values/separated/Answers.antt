use Rattle.dq_json.proofs.Joined.{texts_more, texts_none, texts_ended}
use Rattle.dq_json.proofs.values.separated.Goals as goal

pub returns-in_default : goal.returns-in_default
returns-in_default c =
    texts_none c.args.vr c.args.values.now c.loop-value.octets.items c.loop-value.value-index c.loop-value.invariant c.value-item.result
    c.loop-value-test.true c.value-item.is (rw c.in_default.is at c.in_ok-text.ensures)

pub loop-value-preserved : goal.loop-value-preserved
loop-value-preserved c =
    let more = texts_more c.args.vr c.args.values.now c.loop-value.octets.items c.loop-value.value-index c.loop-value.invariant c.value-item.result
    c.loop-value-test.true c.value-item.is c.in-Some.text.items (rw c.in-Some.is at c.in_ok-text.ensures) in
    rw (c.in_ok-extend_from_slice.ensures.items, c.in_ok-push.ensures.items, c.as_slice.ensures.value) more

pub returns : goal.returns
returns c =
    texts_ended c.args.vr c.args.values.now c.loop-value.octets.items c.loop-value.value-index c.loop-value.invariant c.loop-value-test.false
