use Rattle.std.proofs.Common.{◌≡◌, ℕ, List, ◌++◌, length}
use Rattle.dq_dataset.specs.Sieving.{SieveGoesOn}
use Rattle.dq_dataset.proofs.sieve.sifted_on.Given as goal

abbrev pub invariant-loop-rest : goal.invariant-loop-rest
invariant-loop-rest l = (taken : List ℕ) × (l.octets ≡ taken ++ l.rest) × SieveGoesOn l.tags l.fn.outer l.fn.stage taken l.outer l.stage

abbrev pub decreases-loop-rest : goal.decreases-loop-rest
decreases-loop-rest l = length l.rest
