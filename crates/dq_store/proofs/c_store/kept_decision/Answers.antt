use Rattle.dq_store.proofs.c_store.kept_decision.Goals as goal

pub returns-clause-made : goal.returns-clause-made
returns-clause-made c = λ j. (c.in_ok-answer.ensures j, c.in_ok-change.ensures.edits j)

pub returns-clause-own : goal.returns-clause-own
returns-clause-own c = c.in_ok-change.ensures.own

pub returns-clause-fits : goal.returns-clause-fits
returns-clause-fits c = c.in_ok-change.ensures.fits
