use Rattle.dq_dataset.specs.declared.sieve.Sifted.TheVariants.{Fault}
use Rattle.dq_dataset.proofs.SieveSteps.{ends, ends_large, ends_kept, kept_is_data_set}
use Rattle.dq_dataset.proofs.SieveValues.{state_is}
use Rattle.dq_dataset.proofs.sieve.Sieve.finish.Goals as goal

pub from_elements-requires : goal.from_elements-requires
from_elements-requires c =
    let now = c.in-Sifting in
    let tags = c.self.inside.tags.now in
    let s = rw now.is at c.self.invariant in
    kept_is_data_set now.outer.syntax tags s.0 now.outer now.stage (λ octets answer m. c.in-None.ensures tags now.outer octets answer m) s.1 c.if-outer.false

pub returns-in-Some-clause-sifted : goal.returns-in-Some-clause-sifted
returns-in-Some-clause-sifted c = λ syntax tags fed after.
    let now = c.in-Sifting in
    let f = state_is syntax tags c.self.inside.tags.now fed c.self.inside.state c.args.self now.outer now.stage c.self.view_is now.is after in
    ends syntax tags fed now.outer now.stage (Fault c.in-Some.fault) f (c.in-Some.ensures tags now.outer f.sound)

pub returns-in-None-clause-sifted : goal.returns-in-None-clause-sifted
returns-in-None-clause-sifted c = λ syntax tags fed after.
    let now = c.in-Sifting in
    let f = state_is syntax tags c.self.inside.tags.now fed c.self.inside.state c.args.self now.outer now.stage c.self.view_is now.is after in
    ends_large syntax tags fed now.outer now.stage (λ octets answer m. c.in-None.ensures tags now.outer octets answer m) f c.if-outer.true

pub returns-in-None-2-clause-sifted : goal.returns-in-None-2-clause-sifted
returns-in-None-2-clause-sifted c = λ syntax tags fed after.
    let now = c.in-Sifting in
    let f = state_is syntax tags c.self.inside.tags.now fed c.self.inside.state c.args.self now.outer now.stage c.self.view_is now.is after in
    rw c.from_elements.ensures
    (ends_kept syntax tags fed now.outer now.stage (λ octets answer m. c.in-None.ensures tags now.outer octets answer m) f c.if-outer.false)
