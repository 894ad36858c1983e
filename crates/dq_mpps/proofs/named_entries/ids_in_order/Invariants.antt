use Rattle.std.proofs.Common.{drop}
use Rattle.dq_mpps.proofs.NamedEntries.{SoFar}
use Rattle.dq_mpps.proofs.named_entries.ids_in_order.Given as goal

abbrev pub invariant-loop-id : goal.invariant-loop-id
invariant-loop-id l = SoFar l.ids.keys (drop l.id-index l.id-items) l.id-items
