use Rattle.std.proofs.Common.{◌≤◌, length, sym, arith}
use Rattle.std.proofs.lemmas.List.{length-take-le, take_all}
use Rattle.dq_core.proofs.notes.front_of.Goals as goal

pub slice_bounds-result-end : goal.slice_bounds-result-end
slice_bounds-result-end c =
    let long : 64 ≤ length c.args.octets.now = omega (arith, c.if-octets-le-NOTED_MOST.false) in
    sym (length-take-le 64 c.args.octets.now long)

pub returns-then-octets-le-NOTED_MOST : goal.returns-then-octets-le-NOTED_MOST
returns-then-octets-le-NOTED_MOST c =
    let short : length c.args.octets.now ≤ 64 = omega (arith, c.if-octets-le-NOTED_MOST.true) in
    sym (take_all 64 c.args.octets.now short)
