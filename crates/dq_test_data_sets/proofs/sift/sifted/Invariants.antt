use Rattle.std.proofs.Common.{◌≡◌, ℕ, List, ◌++◌, length}
use Rattle.dq_dataset.specs.Sieving.{SieveAfter}
use Rattle.dq_test_data_sets.proofs.sift.sifted.Given as goal

abbrev pub invariant-loop-rest : goal.invariant-loop-rest
invariant-loop-rest l = (fed : List ℕ) × (l.octets ≡ fed ++ l.rest) × SieveAfter l.by.syntax l.by.tags.now fed l.sieve

abbrev pub decreases-loop-rest : goal.decreases-loop-rest
decreases-loop-rest l = length l.rest
