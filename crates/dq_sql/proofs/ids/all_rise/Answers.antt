use Rattle.std.proofs.Common.{◌≡◌, ◌+◌, ◌-◌, pos, true, false, slice_index_or, ap, sym, ◌∙◌, subst, arith}
use Rattle.std.specs.Ordering.{int_cmp, is_lt, is_ge}
use Rattle.std.proofs.lemmas.List.Sorted.{all_adjacent_more}
use Rattle.dq_sql.proofs.DistinctIds.{beside, no_rise, a_rise}
use Rattle.dq_sql.proofs.ids.all_rise.Goals as goal

pub returns-then-is_ge : goal.returns-then-is_ge
returns-then-is_ge c =
    let at = c.loop-at.at in
    let next : (at - 1) + 1 ≡ at = omega (arith, c.loop-at.invariant.0) in (
      at - 1,
      omega (arith, next, c.loop-at-test.true),
      λ d.
          subst (λ n. false ≡ is_lt (int_cmp (slice_index_or c.args.ids.now (at - 1) d) (slice_index_or c.args.ids.now n d))) (sym next)
          (no_rise _ (ap is_ge (beside c.args.ids.now at d (pos 0) c.loop-at.invariant.0 c.loop-at-test.true ∙ sym c.cmp.ensures) ∙ sym c.is_ge.ensures ∙ c.if-is_ge.true)),
    )

pub loop-at-preserved : goal.loop-at-preserved
loop-at-preserved c =
    let at = c.loop-at.at in (
      omega arith,
      all_adjacent_more c.args.ids.now (λ a b. true ≡ is_lt (int_cmp a b)) at (omega (arith, c.loop-at.invariant.0)) c.loop-at.invariant.1 (λ d.
          a_rise _ (ap is_ge (beside c.args.ids.now at d (pos 0) c.loop-at.invariant.0 c.loop-at-test.true ∙ sym c.cmp.ensures) ∙ sym c.is_ge.ensures ∙ c.if-is_ge.false)),
    )
