use Rattle.std.proofs.Common.{◌++◌, arith}
use Rattle.dq_dimse.specs.Sending.{cut_within}
use Rattle.dq_dimse.proofs.Cuts.{goes_on, ends}
use Rattle.dq_dimse.proofs.sending.put_fragments.Goals as goal

pub loop-rest-preserved : goal.loop-rest-preserved
loop-rest-preserved c =
    let total = c.args.out.now.items ++ cut_within c.args.context c.args.command c.args.size c.args.octets.now in
    rw (c.in_ok-append_p_data.ensures, c.split_at.ensures.front, c.split_at.ensures.back)
    (goes_on c.args.context c.args.command c.args.size c.loop-rest.out.items c.loop-rest.rest.now total
    c.requires.some c.loop-rest-test.true c.loop-rest.invariant)

pub returns : goal.returns
returns c =
    let total = c.args.out.now.items ++ cut_within c.args.context c.args.command c.args.size c.args.octets.now in
    rw (← ends c.args.context c.args.command c.args.size c.loop-rest.out.items c.loop-rest.rest.now total
    (omega arith) c.loop-rest.invariant) c.append_p_data-2.ensures
