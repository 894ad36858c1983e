use Rattle.std.proofs.Common.{arith, ap, subst, ◌∙◌}
use Rattle.std.proofs.lemmas.Result.{err_from_is_err_and}
use Rattle.std.proofs.Common.{List, ◌++◌, Some}
use Rattle.std.proofs.lemmas.List.{append-nil}
use Rattle.dq_dataset.specs.declared.data_set.Element.{Element}
use Rattle.dq_dataset.proofs.ReadIsSound.{content_is_data_set}
use Rattle.dq_dataset.proofs.Headers.{item_takes}
use Rattle.dq_dataset.proofs.Loops.{ElementsLeft, kept_one, kept_none, level_left, elements_start, elements_fail, elements_end, elements_more, items_start, items_fail, items_end, items_more}
use Rattle.dq_dataset.proofs.data_set_reader.+reading.Goals as goal

pub elements_of-loop-elements-init : goal.elements_of-loop-elements-init
elements_of-loop-elements-init t c = rw c.new-elements.ensures.items (elements_start _ _ _ _)

pub items_of-loop-items-init : goal.items_of-loop-items-init
items_of-loop-items-init t c = rw c.new-items.ensures.items (items_start _ _ _ _)

pub elements_of-returns-in_err-found-clause-value : goal.elements_of-returns-in_err-found-clause-value
elements_of-returns-in_err-found-clause-value t c =
    let p = err_from_is_err_and c.from_residual.result c.from_residual.ensures.1 in
    rw (p.1, p.2) (elements_fail _ _ _ _ _ _ _ c.loop-elements.invariant _ c.in_err-found.ensures.value)

pub items_of-returns-in_err-found-clause-value : goal.items_of-returns-in_err-found-clause-value
items_of-returns-in_err-found-clause-value t c =
    let p = err_from_is_err_and c.from_residual.result c.from_residual.ensures.1 in
    rw (p.1, p.2) (items_fail _ _ _ _ _ _ c.loop-items.invariant _ c.in_err-found.ensures.value)

pub elements_of-returns-in_default-clause-value : goal.elements_of-returns-in_default-clause-value
elements_of-returns-in_default-clause-value t c =
    rw c.shrink_to_fit.ensures.items
    (elements_end _ _ _ _ _ _ _ c.loop-elements.invariant c.in_ok-found.after.now (rw c.in_default.is at c.in_ok-found.ensures.value))

pub elements_of-loop-elements-preserved-in_ok-push_alone : goal.elements_of-loop-elements-preserved-in_ok-push_alone
elements_of-loop-elements-preserved-in_ok-push_alone t c =
    let found = rw c.in-Some.is at c.in_ok-found.ensures in
    let more = elements_more _ _ _ _ _ _ _ c.loop-elements.invariant c.in-Some.header c.in-Some.value c.in_ok-found.after.now found.value found.goes_on in
    rw (c.in_ok-push_alone.ensures, ← kept_one c.in-Some.header c.in-Some.value c.if-tag-ne0.true) more

pub elements_of-loop-elements-preserved : goal.elements_of-loop-elements-preserved
elements_of-loop-elements-preserved t c =
    let found = rw c.in-Some.is at c.in_ok-found.ensures in
    let more = elements_more _ _ _ _ _ _ _ c.loop-elements.invariant c.in-Some.header c.in-Some.value c.in_ok-found.after.now found.value found.goes_on in
    let e = ap (λ (es : List Element). c.loop-elements.elements.items ++ es) (kept_none c.in-Some.header c.in-Some.value c.if-tag-ne0.false)
    ∙ append-nil c.loop-elements.elements.items in
    subst (λ (es : List Element). ElementsLeft c.args.level.bound c.args.level.syntax c.args.level.levels c.args.octets.now es (Some c.in-Some.header.tag)
    c.in_ok-found.after.now) e more

pub items_of-returns-in_default-clause-value : goal.items_of-returns-in_default-clause-value
items_of-returns-in_default-clause-value t c =
    rw c.shrink_to_fit.ensures.items
    (items_end _ _ _ _ _ _ c.loop-items.invariant c.in_ok-found.after.now (rw c.in_default.is at c.in_ok-found.ensures.value))

pub items_of-loop-items-preserved : goal.items_of-loop-items-preserved
items_of-loop-items-preserved t c =
    let found = rw c.in-Some.is at c.in_ok-found.ensures in
    rw c.in_ok-push_alone.ensures (items_more _ _ _ _ _ _ c.loop-items.invariant c.in-Some.item c.in_ok-found.after.now found.value found.goes_on)

pub value_of-items_of-requires : goal.value_of-items_of-requires
value_of-items_of-requires t c =
    let left = level_left c.args.levels c.args.header.content c.in-Sequence-default-Some.syntax c.in-Sequence-default-Some.field-1 c.requires.nests
    c.in-Sequence-default-Some.is in
    (omega (arith, left), omega (arith, c.requires.shallow))

pub value_of-items_of-requires-in-Sequence-default-None : goal.value_of-items_of-requires-in-Sequence-default-None
value_of-items_of-requires-in-Sequence-default-None t c =
    let left = level_left c.args.levels c.args.header.content c.in-Sequence-default-None.syntax c.in-Sequence-default-None.field-1 c.requires.nests
    c.in-Sequence-default-None.is in
    (omega (arith, left), omega (arith, c.requires.shallow))

pub item_of-from_elements-requires : goal.item_of-from_elements-requires
item_of-from_elements-requires t c =
    content_is_data_set c.args.level.syntax c.args.level.levels c.in_ok-length.length c.in_ok-length.rest.now
    c.in_ok-elements.elements.items c.in_ok-elements.rest.now
    c.requires c.in_ok-length.ensures.whole
    (item_takes c.args.octets.now c.in_ok-length.length c.in_ok-length.rest.now (λ i. omega (arith, c.type_inv.octets i))
    c.in_ok-length.ensures.value).0.takes.rest_fits c.in_ok-elements.ensures.value
