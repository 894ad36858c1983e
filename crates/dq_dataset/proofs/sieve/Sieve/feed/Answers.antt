use Rattle.std.proofs.Common.{sym, subst}
use Rattle.dq_dataset.specs.declared.sieve.SieveState.{SieveState}
use Rattle.dq_dataset.specs.Sieving.{IsSieve}
use Rattle.dq_dataset.proofs.SieveValues.{is_fed_on, fed_after}
use Rattle.dq_dataset.proofs.sieve.Sieve.feed.Goals as goal

pub invariant_of-self-in-Sifting : goal.invariant_of-self-in-Sifting
invariant_of-self-in-Sifting c =
    let before = c.in-Sifting in
    let after = c.in_ok-outer-in-Sifting in
    let tags = c.self.inside.tags.now in
    is_fed_on tags c.args.octets.now before.outer after.outer before.stage after.stage
    (subst (λ (h : SieveState). IsSieve tags h) (sym before.ensures.value) c.self.invariant) after.ensures

pub returns-in_ok-outer-in-Sifting-clause-fed : goal.returns-in_ok-outer-in-Sifting-clause-fed
returns-in_ok-outer-in-Sifting-clause-fed c = λ syntax tags fed fed_so.
    let before = c.in-Sifting in
    let after = c.in_ok-outer-in-Sifting in
    fed_after syntax tags c.self.inside.tags.now fed c.args.octets.now c.self.inside.state c.args.self.now before.outer after.outer before.stage after.stage
    c.self.view_is (sym before.ensures.value) after.ensures fed_so
