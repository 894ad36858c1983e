use Rattle.std.proofs.Common.{rules, [], arith}
use Rattle.std.proofs.lemmas.List.{get_or_default}
use Rattle.dq_sql.proofs.Firsts.{stops_at}
use Rattle.dq_sql.proofs.study_index.leading_nulls.Goals as goal

pub returns-then-not-ends_null-clause-those : goal.returns-then-not-ends_null-clause-those
returns-then-not-ends_null-clause-those c =
    stops_at c.loop-at.at c.args.answer.now c.loop-at.invariant (omega (arith, c.loop-at-test.true)) (λ p. search (rules, get_or_default c.args.answer.now c.loop-at.at [] c.index-answer-at.result c.loop-at-test.true, c.index-answer-at.is))

pub returns-clause-those : goal.returns-clause-those
returns-clause-those c = stops_at _ c.args.answer.now (λ k p. c.loop-at.invariant k (omega (arith, p, c.loop-at-test.false))) (omega arith) (λ p. absurd (omega (arith, p)))
