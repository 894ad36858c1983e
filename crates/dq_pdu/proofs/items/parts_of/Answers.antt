use Rattle.std.proofs.Common.{◌<◌, length}
use Rattle.std.proofs.lemmas.Result.{err_from_is_err_and}
use Rattle.dq_pdu.proofs.Lists.{not_zero, is_zero}
use Rattle.dq_pdu.specs.Octets.{parts_of}
use Rattle.dq_pdu.proofs.Filling.{goes_on, ends, is_done}
use Rattle.dq_pdu.proofs.Given.{passes_on}
use Rattle.dq_pdu.proofs.items.parts_of.Goals as goal

pub returns-in_err-part : goal.returns-in_err-part
returns-in_err-part g c =
    let part_at = g.P.ReadPart.part_at in
    let total = parts_of part_at c.args.octets.now in
    let p = err_from_is_err_and c.from_residual.result c.from_residual.ensures.1 in
    let n : 0 < length c.loop-rest.rest.now = not_zero _ _ c.is_empty.ensures c.loop-rest-test.true in
    rw (p.1, p.2) (passes_on c.in_err-part.field-0.0 (part_at c.loop-rest.rest.now) total
    (λ e. ends part_at c.loop-rest.parts.items c.loop-rest.rest.now total n e c.loop-rest.invariant) c.in_err-part.ensures)

pub loop-rest-smaller : goal.loop-rest-smaller
loop-rest-smaller g c = g.met.P.ReadPart.shrinks c.loop-rest.rest.now _ c.in_ok-part.ensures

pub loop-rest-preserved : goal.loop-rest-preserved
loop-rest-preserved g c =
    let part_at = g.P.ReadPart.part_at in
    rw c.in_ok-push.ensures.items (goes_on part_at g.met.P.ReadPart.shrinks c.loop-rest.parts.items c.loop-rest.rest.now c.in_ok-part.part
    c.in_ok-part.behind.now (parts_of part_at c.args.octets.now) (not_zero _ _ c.is_empty.ensures c.loop-rest-test.true) c.in_ok-part.ensures
    c.loop-rest.invariant)

pub returns : goal.returns
returns g c = is_done g.P.ReadPart.part_at c.loop-rest.parts.items c.loop-rest.rest.now (parts_of g.P.ReadPart.part_at c.args.octets.now)
    (is_zero _ _ c.is_empty.ensures c.loop-rest-test.false) c.loop-rest.invariant
