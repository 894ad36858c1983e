use Rattle.std.proofs.Common.{arith, sym, ◌∙◌}
use Rattle.dq_dataset.proofs.Edits.{first_and_rest, kept_first, replaced_first, joined_first}
use Rattle.dq_dataset.proofs.editing.first_merged.Goals as goal

pub returns-then-is_below-clause-some : goal.returns-then-is_below-clause-some
returns-then-is_below-clause-some c =
    let kept = first_and_rest c.args.kept.now c.first-item-2.result (omega arith) c.first-item-2.is in
    let sent = first_and_rest c.args.sent.now c.new-item.result (omega arith) c.new-item.is in
    kept_first _ _ _ _ _ _ kept sent (sym c.is_below.ensures ∙ c.if-is_below.true)

pub returns-then-eq-clause-some : goal.returns-then-eq-clause-some
returns-then-eq-clause-some c =
    let kept = first_and_rest c.args.kept.now c.first-item-2.result (omega arith) c.first-item-2.is in
    let sent = first_and_rest c.args.sent.now c.new-item.result (omega arith) c.new-item.is in
    replaced_first _ _ _ _ _ _ kept sent c.requires (sym c.eq.ensures ∙ c.if-eq.true)

pub returns-clause-some : goal.returns-clause-some
returns-clause-some c =
    let kept = first_and_rest c.args.kept.now c.first-item-2.result (omega arith) c.first-item-2.is in
    let sent = first_and_rest c.args.sent.now c.new-item.result (omega arith) c.new-item.is in
    joined_first _ _ _ _ _ _ kept sent c.requires (sym c.is_below.ensures ∙ c.if-is_below.false) (sym c.eq.ensures ∙ c.if-eq.false)
