use Rattle.std.proofs.Common.{Err, inr, sym, ap, subst, ◌∙◌, Option, None, Some}
use Rattle.std.proofs.lemmas.Result.{err_from_is_err_and}
use Rattle.json.specs.Value.{value_view, members_view}
use Rattle.dq_dataset.specs.View.{as_elements}
use Rattle.dq_dataset.proofs.ReadIsSound.{AreElements-deeper}
use Rattle.dq_vr.specs.declared.Tag.{Tag}
use Rattle.dq_vr.specs.declared.Vr.{Vr}
use Rattle.dq_json.specs.Contents.{IsNext}
use Rattle.dq_json.specs.JsonReader.{data_set_in, reader_in}
use Rattle.dq_json.proofs.Facts.{element_is, elements_pushed, last_pushed, items_pushed}
use Rattle.dq_json.proofs.Reading.{items_more, elements_more, elements_stopped, elements_ended, no_object, object_read, object_failed}
use Rattle.dq_json.proofs.json_reader.+reading.Goals as goal

pub data_set_in-returns-in_default-clause-exact : goal.data_set_in-returns-in_default-clause-exact
data_set_in-returns-in_default-clause-exact t c =
    inr (no_object c.args.levels c.args.place (value_view c.args.value.now) c.in_default.ensures ∙ ap Err (sym c.broken.ensures))

pub data_set_in-returns-in_err-elements-clause-exact : goal.data_set_in-returns-in_err-elements-clause-exact
data_set_in-returns-in_err-elements-clause-exact t c =
    let p = err_from_is_err_and c.from_residual.result c.from_residual.ensures.1 in
    rw (p.1, p.2)
    (object_failed c.args.levels c.args.place (value_view c.args.value.now) (members_view c.in-Some.members.now) c.in-Some.ensures _ c.in_err-elements.ensures.exact)

pub data_set_in-from_elements-requires : goal.data_set_in-from_elements-requires
data_set_in-from_elements-requires t c =
    AreElements-deeper c.args.levels 16 None (as_elements c.in_ok-elements.elements.items) c.requires c.in_ok-elements.ensures.facts

pub data_set_in-returns-clause-exact : goal.data_set_in-returns-clause-exact
data_set_in-returns-clause-exact t c =
    rw c.from_elements.ensures
    (object_read c.args.levels c.args.place (value_view c.args.value.now) (members_view c.in-Some.members.now) c.in-Some.ensures
    c.in_ok-elements.elements.items c.in_ok-elements.ensures.exact)

pub data_sets_of-loop-item-preserved : goal.data_sets_of-loop-item-preserved
data_sets_of-loop-item-preserved t c =
    let left = c.loop-item.invariant in
    rw c.in_ok-push.ensures.items (
      items_more (data_set_in c.args.levels (Some c.args.tag)) c.args.items.now c.loop-item.data_sets.items c.loop-item.item-index left.0
          c.item-item.result c.loop-item-test.true c.item-item.is c.in_ok-data_set_in.field-0 c.in_ok-data_set_in.ensures.exact,
      items_pushed c.args.levels c.loop-item.data_sets.items c.in_ok-data_set_in.field-0 left.1 c.in_ok-data_set_in.ensures.facts,
    )

pub element_of-returns-clause-facts : goal.element_of-returns-clause-facts
element_of-returns-clause-facts t c =
    subst (λ (vr : Vr). IsNext c.args.levels c.args.last (record { tag = c.in_ok-tag.tag; vr = vr; value = c.in_ok-value.value })) (sym c.kept_vr.ensures)
    (element_is c.args.levels c.args.last c.in_ok-tag.tag c.lookup-known.result c.in-Some.vr c.in_ok-value.value c.in_ok-tag.ensures.facts
    c.lookup-known.ensures c.in-Some.ensures.facts c.in_ok-value.ensures.facts)

pub elements_of-returns-in_err-element-clause-exact : goal.elements_of-returns-in_err-element-clause-exact
elements_of-returns-in_err-element-clause-exact t c =
    let p = err_from_is_err_and c.from_residual.result c.from_residual.ensures.1 in
    rw (p.1, p.2)
    (elements_stopped (reader_in c.args.levels) c.args.members.now c.loop-member.elements.items c.loop-member.last c.loop-member.member-index
    c.loop-member.invariant.0 c.member-item.result c.loop-member-test.true c.member-item.is _ c.in_err-element.ensures.exact)

pub elements_of-loop-member-preserved : goal.elements_of-loop-member-preserved
elements_of-loop-member-preserved t c =
    let left = c.loop-member.invariant in
    let es = c.loop-member.elements.items in
    let e = c.in_ok-element.element in
    rw c.in_ok-push.ensures.items (
      elements_more (reader_in c.args.levels) c.args.members.now es c.loop-member.last c.loop-member.member-index left.0
          c.member-item.result c.loop-member-test.true c.member-item.is e c.in_ok-element.ensures.exact,
      elements_pushed c.args.levels None es e left.1 (subst (λ (last : Option Tag). IsNext c.args.levels last e) left.2 c.in_ok-element.ensures.facts),
      sym (last_pushed None es e),
    )

pub elements_of-returns-clause-exact : goal.elements_of-returns-clause-exact
elements_of-returns-clause-exact t c =
    elements_ended (reader_in c.args.levels) c.args.members.now c.loop-member.elements.items c.loop-member.last c.loop-member.member-index
    c.loop-member.invariant.0 c.loop-member-test.false
