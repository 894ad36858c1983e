use Rattle.dq_pdu.proofs.Lists.{piece_fits}
use Rattle.dq_pdu.proofs.parts.put_parts.Goals as goal

pub put-requires : goal.put-requires
put-requires g c = rw c.part-item.is (piece_fits g.P.Part.octets c.args.parts.now c.loop-part.part-index _ _ c.requires c.loop-part-test.true)
