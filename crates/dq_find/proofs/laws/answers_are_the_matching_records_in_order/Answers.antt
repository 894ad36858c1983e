use Rattle.dq_match.specs.declared.keys.Nesting.TheVariants.{Outer}
use Rattle.dq_find.proofs.Matching.{matching_in_order, succeeded_in_order, answers_alone}
use Rattle.dq_find.proofs.laws.answers_are_the_matching_records_in_order.Goals as goal

pub returns-clause-answered : goal.returns-clause-answered
returns-clause-answered c = matching_in_order (λ keys held fit. ((c.keys_are_met_alone_and_as_a_period.ensures.each Outer keys held).0 fit).0)

pub returns-clause-succeeded : goal.returns-clause-succeeded
returns-clause-succeeded c = succeeded_in_order (λ keys held fit. ((c.keys_are_met_alone_and_as_a_period.ensures.each Outer keys held).0 fit).0)

pub returns-clause-alone : goal.returns-clause-alone
returns-clause-alone c = answers_alone
