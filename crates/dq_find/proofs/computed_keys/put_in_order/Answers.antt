use Rattle.std.proofs.Common.{◌≡◌, ◌∙◌, List, ℕ, take, sym, ap, subst}
use Rattle.dq_find.specs.ComputedKeys.{put_in_order}
use Rattle.dq_find.specs.Modalities.{modality_limit}
use Rattle.dq_find.proofs.FirstValues.{few_stay}
use Rattle.dq_find.proofs.computed_keys.put_in_order.Goals as goal

pub returns-in_default-clause-put : goal.returns-in_default-clause-put
returns-in_default-clause-put c =
    let there = subst (λ (xs : List (List ℕ)). put_in_order c.args.value.now xs ≡ xs) c.as_slice.ensures.value c.in_default.ensures.there in
    sym (ap (take modality_limit) there ∙ few_stay modality_limit c.args.values.now.items c.requires)
