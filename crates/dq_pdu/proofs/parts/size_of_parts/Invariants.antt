use Rattle.std.proofs.Common.{◌≡◌, length, take}
use Rattle.std.specs.List.{flat_map}
use Rattle.dq_pdu.specs.Widths.{capped_count}
use Rattle.dq_pdu.proofs.parts.size_of_parts.Given as goal

abbrev pub invariant-loop-part : goal.invariant-loop-part
invariant-loop-part g l = l.total ≡ capped_count (length (flat_map g.P.Part.octets (take l.part-index l.parts)))
