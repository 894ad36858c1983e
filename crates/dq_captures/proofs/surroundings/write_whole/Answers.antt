use Rattle.dq_captures.proofs.WrittenLines.{Written-more, Written-part, Written-kept, OnErr-known}
use Rattle.dq_captures.proofs.surroundings.write_whole.Goals as goal

pub returns-in_err-count-clause-part : goal.returns-in_err-count-clause-part
returns-in_err-count-clause-part g c =
    OnErr-known c.from_residual.result (Written-part _ _ _ c.loop.rest.now (Written-kept _ _ _ _ _ c.loop.invariant c.in_err-count.ensures.bytes))

pub loop-preserved : goal.loop-preserved
loop-preserved g c =
    let more = Written-more _ _ _ c.args.octets.now c.loop.rest.now c.in_ok-count.count c.loop.invariant c.in_ok-count.ensures.bytes in
    rw c.split_at.ensures.back more

pub returns-clause-part : goal.returns-clause-part
returns-clause-part g c = Written-part _ _ _ c.loop.rest.now c.loop.invariant
