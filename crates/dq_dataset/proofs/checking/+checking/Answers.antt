use Rattle.std.proofs.lemmas.Result.{err_from_is_err_and}
use Rattle.dq_dataset.proofs.Ends.{elements_fail, elements_end, elements_more, items_fail, items_end, items_more}
use Rattle.dq_dataset.proofs.checking.+checking.Goals as goal

pub elements_end-returns-in_err-found-clause-value : goal.elements_end-returns-in_err-found-clause-value
elements_end-returns-in_err-found-clause-value t c =
    let p = err_from_is_err_and c.from_residual.result c.from_residual.ensures.1 in
    rw (p.1, p.2) (elements_fail _ _ _ _ _ _ c.loop-found.invariant _ c.in_err-found.ensures.value)

pub elements_end-returns-in_default-clause-value : goal.elements_end-returns-in_default-clause-value
elements_end-returns-in_default-clause-value t c =
    elements_end _ _ _ _ _ _ c.loop-found.invariant c.in_ok-found.after.now (rw c.in_default.is at c.in_ok-found.ensures.value)

pub elements_end-loop-found-preserved : goal.elements_end-loop-found-preserved
elements_end-loop-found-preserved t c =
    let found = rw c.in-Some.is at c.in_ok-found.ensures in
    elements_more _ _ _ _ _ _ c.loop-found.invariant c.in-Some.header c.in_ok-found.after.now found.value found.goes_on

pub items_end-returns-in_err-found-clause-value : goal.items_end-returns-in_err-found-clause-value
items_end-returns-in_err-found-clause-value t c =
    let p = err_from_is_err_and c.from_residual.result c.from_residual.ensures.1 in
    rw (p.1, p.2) (items_fail _ _ _ _ _ c.loop-found.invariant _ c.in_err-found.ensures.value)

pub items_end-returns-in_default-clause-value : goal.items_end-returns-in_default-clause-value
items_end-returns-in_default-clause-value t c =
    items_end _ _ _ _ _ c.loop-found.invariant c.in_ok-found.after.now (rw c.in_default.is at c.in_ok-found.ensures.value)

pub items_end-loop-found-preserved : goal.items_end-loop-found-preserved
items_end-loop-found-preserved t c =
    let found = rw c.in-Some.is at c.in_ok-found.ensures in
    items_more _ _ _ _ _ c.loop-found.invariant c.in_ok-found.after.now found.value found.goes_on
