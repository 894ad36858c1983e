use Rattle.std.proofs.Common.{◌≡◌, ◌++◌, length}
use Rattle.dq_list.specs.Octets.{octets_of_vectors}
use Rattle.dq_find.proofs.search.key_list.Given as goal

abbrev pub invariant-loop-uid : goal.invariant-loop-uid
invariant-loop-uid l = l.keys ++ octets_of_vectors l.uids.keys ≡ octets_of_vectors l.fn.uids.keys

abbrev pub decreases-loop-uid : goal.decreases-loop-uid
decreases-loop-uid l = length l.uids.keys
