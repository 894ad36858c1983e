use Rattle.std.proofs.Common.{◌≡◌, List, sym, subst}
use Rattle.std.proofs.Math.Logic.{∥∥₁_map}
use Rattle.dq_tables.specs.declared.row.Row.{Row}
use Rattle.dq_tables.specs.Rows.{Operation}
use Rattle.dq_core.specs.Stepping.{IsPartOf}
use Rattle.dq_keepers.proofs.laws.what_was_served_outlasts_a_crash.Goals as goal

-- of what a crash may leave, the rows that are found
part-found : (operations : List Operation) (before after found : List Row) (Left : List Row → Type 0) → IsPartOf operations before after Left → Left found
    → IsPartOf operations before after (λ r. r ≡ found)
part-found operations before after found Left part left = record {
  done = part.done;
  later = part.later;
  whole = part.whole;
  made = part.made;
  crash = λ r is. part.crash r (subst Left (sym is) left);
}

pub returns-clause-answered : goal.returns-clause-answered
returns-clause-answered g c = λ rows first acts cut served settled clean image may opens finds.
    let left = c.what_a_crash_leaves_is_adopted.ensures in
    let honest = rw (c.into_inner.ensures, c.into_tables.ensures) at (left.honest clean) in
    ∥∥₁_map (left.adopted clean image may opens finds) (λ it. (
      it.0,
      c.servings_settle.ensures.answered rows first c.args.server acts cut served honest settled it.0 (rw (c.into_inner.ensures, c.into_tables.ensures) at it.1),
      it.2,
      it.3,
    ))

pub returns-clause-failed : goal.returns-clause-failed
returns-clause-failed g c = λ rows first last acts cut event fault served fails settled clean image may opens finds.
    let left = c.what_a_crash_leaves_is_adopted.ensures in
    let honest = rw (c.into_inner.ensures, c.into_tables.ensures) at (left.honest clean) in
    let part = c.servings_settle.ensures.failed rows first last c.args.server acts cut event fault served fails honest settled in
    ∥∥₁_map (left.adopted clean image may opens finds) (λ it. (
      it.0,
      part-found _ _ _ it.0 _ part (rw (c.into_inner.ensures, c.into_tables.ensures) at it.1),
      it.2,
      it.3,
    ))
