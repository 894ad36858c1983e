use Rattle.dq_json.proofs.Joined.{shorts_more, shorts_none, shorts_ended}
use Rattle.dq_json.proofs.values.shorts.Goals as goal

pub returns-in_default : goal.returns-in_default
returns-in_default c =
    shorts_none c.args.values.now c.loop-value.octets.items c.loop-value.value-index c.loop-value.invariant c.value-item.result
    c.loop-value-test.true c.value-item.is c.in_default.ensures

pub loop-value-preserved : goal.loop-value-preserved
loop-value-preserved c =
    let more = shorts_more c.args.values.now c.loop-value.octets.items c.loop-value.value-index c.loop-value.invariant c.value-item.result
    c.loop-value-test.true c.value-item.is c.in-Some.number c.in-Some.ensures in
    rw (c.in_ok-extend_from_slice.ensures.items, c.to_le_bytes.ensures) more

pub returns : goal.returns
returns c = shorts_ended c.args.values.now c.loop-value.octets.items c.loop-value.value-index c.loop-value.invariant c.loop-value-test.false
