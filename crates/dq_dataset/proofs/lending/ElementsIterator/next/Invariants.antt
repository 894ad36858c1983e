use Rattle.std.proofs.Common.{◌≡◌, length}
use Rattle.dq_list.specs.Octets.{AreOctets}
use Rattle.dq_dataset.specs.Lending.{lent_from}
use Rattle.dq_dataset.proofs.lending.ElementsIterator.next.Given as goal

abbrev pub invariant-loop-self : goal.invariant-loop-self
invariant-loop-self l =
    AreOctets l.self-inside.rest.now × (lent_from l.self-inside.syntax l.self-inside.last l.self-inside.rest.now ≡ l.fn.self)

abbrev pub decreases-loop-self : goal.decreases-loop-self
decreases-loop-self l = length l.self-inside.rest.now
