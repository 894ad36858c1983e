use Rattle.std.proofs.Common.{◌∙◌, sym, arith}
use Rattle.dq_dataset.proofs.Edits.{left_is, rest_is, kept_taken, replaced_taken, joined_taken}
use Rattle.dq_dataset.proofs.editing.take_first_merged.Goals as goal

pub returns-in_default-clause-rises : goal.returns-in_default-clause-rises
returns-in_default-clause-rises c = rest_is _ _ _ c.pop_front.ensures.items c.requires

pub returns-then-is_below-clause-some : goal.returns-then-is_below-clause-some
returns-then-is_below-clause-some c =
    kept_taken c.args.kept.now.items c.args.sent.now.items _ _ c.in-Some-front.first.now c.in-Some.new.now c.pop_front-then-is_below.ensures.items
    c.in-Some-front.ensures.lookup (omega (arith, c.in-Some.ensures.item)) c.in-Some.ensures.lookup
    (sym c.is_below.ensures ∙ c.if-is_below.true)

pub returns-then-is_below-clause-rises : goal.returns-then-is_below-clause-rises
returns-then-is_below-clause-rises c = rest_is _ _ _ c.pop_front-then-is_below.ensures.items c.requires

pub returns-then-eq-clause-some : goal.returns-then-eq-clause-some
returns-then-eq-clause-some c =
    rw c.drop_first.ensures
    (replaced_taken c.args.kept.now.items c.args.sent.now.items _ _ c.in-Some-front.first.now c.in-Some.new.now c.pop_front-then-eq.ensures.items
    c.in-Some.ensures.lookup (omega (arith, c.in-Some-front.ensures.item)) c.in-Some-front.ensures.lookup c.requires (sym c.eq.ensures ∙ c.if-eq.true))

pub returns-then-eq-clause-rises : goal.returns-then-eq-clause-rises
returns-then-eq-clause-rises c = left_is _ _ _ c.drop_first.ensures c.requires

pub returns-clause-some : goal.returns-clause-some
returns-clause-some c =
    joined_taken c.args.kept.now.items c.args.sent.now.items _ _ c.in-Some-front.first.now c.in-Some.new.now c.pop_front-2.ensures.items
    c.in-Some.ensures.lookup (omega (arith, c.in-Some-front.ensures.item)) c.in-Some-front.ensures.lookup c.requires
    (sym c.is_below.ensures ∙ c.if-is_below.false) (sym c.eq.ensures ∙ c.if-eq.false)
