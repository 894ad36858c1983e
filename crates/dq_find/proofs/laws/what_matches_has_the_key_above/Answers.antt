use Rattle.dq_match.specs.declared.keys.Nesting.TheVariants.{Outer}
use Rattle.dq_find.proofs.Matching.{key_above_of_match}
use Rattle.dq_find.proofs.laws.what_matches_has_the_key_above.Goals as goal

pub returns : goal.returns
returns c = key_above_of_match (λ keys held fit. ((c.keys_are_met_alone_and_as_a_period.ensures.each Outer keys held).0 fit).0)
