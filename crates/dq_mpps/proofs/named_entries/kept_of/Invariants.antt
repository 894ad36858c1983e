use Rattle.std.proofs.Common.{length}
use Rattle.dq_list.specs.Octets.{octets_of_vectors}
use Rattle.dq_archive.proofs.Lookups.{LooksSoFar}
use Rattle.dq_mpps.proofs.NamedEntries.{KeptSoFar}
use Rattle.dq_mpps.proofs.named_entries.kept_of.Given as goal

abbrev pub invariant-loop-id : goal.invariant-loop-id
invariant-loop-id g l =
    LooksSoFar g.T.Tables.state l.fn.archive l.archive l.keys (KeptSoFar l.keys (octets_of_vectors l.ids.keys) (octets_of_vectors l.fn.ids.keys))

abbrev pub decreases-loop-id : goal.decreases-loop-id
decreases-loop-id g l = length l.ids.keys
