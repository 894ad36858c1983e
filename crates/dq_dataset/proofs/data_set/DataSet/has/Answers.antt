use Rattle.std.proofs.Common.{rules, of_calls, ◌∙◌, sym}
use Rattle.std.proofs.lemmas.Fn.{always_returns_same}
use Rattle.dq_vr.specs.Tag.{is_below}
use Rattle.dq_dataset.specs.declared.data_set.Element.{Element}
use Rattle.dq_dataset.proofs.Holding.{is_parted, stands_at, same_in, none_in}
use Rattle.dq_dataset.proofs.data_set.DataSet.has.Goals as goal

pub returns-in-Some : goal.returns-in-Some
returns-in-Some c =
    let e = c.args.element.now in
    let es = c.elements-elements.result.now in
    let at = c.partition_point-at.result in
    let listed = c.elements-elements.ensures.elements in
    let is = c.elements-elements.ensures.facts in
    let point = c.partition_point-at.ensures.partitioned (λ (k : Element). is_below k.tag e.tag)
    (always_returns_same _ _ _ (λ a r f k. search (rules, of_calls)))
    (is_parted e.tag c.args.self.now es listed is) in
    c.is_same.ensures.same ∙ same_in e c.in-Some.held.now es at c.in-Some.ensures.lookup.0 c.in-Some.ensures.lookup.1
    ∙ sym (stands_at e c.args.self.now es at listed is point)

pub returns-in-None : goal.returns-in-None
returns-in-None c =
    let e = c.args.element.now in
    let es = c.elements-elements.result.now in
    let at = c.partition_point-at.result in
    let listed = c.elements-elements.ensures.elements in
    let is = c.elements-elements.ensures.facts in
    let point = c.partition_point-at.ensures.partitioned (λ (k : Element). is_below k.tag e.tag)
    (always_returns_same _ _ _ (λ a r f k. search (rules, of_calls)))
    (is_parted e.tag c.args.self.now es listed is) in
    none_in e es at c.in-None.ensures.lookup.0 ∙ sym (stands_at e c.args.self.now es at listed is point)
