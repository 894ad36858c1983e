use Rattle.std.proofs.Common.{sym, subst}
use Rattle.dq_dataset.specs.declared.sieve.Stage.TheVariants.{Past}
use Rattle.dq_dataset.specs.declared.sieve.walk.WalkStep.{WalkStep}
use Rattle.dq_dataset.specs.Sieving.{PastBy}
use Rattle.dq_dataset.proofs.SieveValues.{nothing_came}
use Rattle.dq_dataset.proofs.sieve.past.Goals as goal

pub returns-in-On-clause-sifts : goal.returns-in-On-clause-sifts
returns-in-On-clause-sifts c = subst (λ (w : WalkStep). PastBy w (Past c.in-On.walk)) (sym c.in-On.is) (λ outer tags octets answer m. m)

pub returns-in-Over-clause-sound : goal.returns-in-Over-clause-sound
returns-in-Over-clause-sound c = λ outer. nothing_came outer c.new.result.items c.new.ensures.items
