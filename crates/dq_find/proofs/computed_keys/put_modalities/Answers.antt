use Rattle.std.proofs.Common.{◌≡◌, ◌∙◌, ◌∷◌, List, ℕ, Bool, cond, filter, take, sym, ap, subst}
use Rattle.dq_vr.specs.declared.Vr.TheVariants.{CS}
use Rattle.dq_value.specs.Parts.{element_values}
use Rattle.dq_find.specs.ComputedKeys.{all_in_order}
use Rattle.dq_find.specs.Modalities.{is_modality, modality_limit, modalities_of}
use Rattle.dq_find.proofs.FirstValues.{put_more, few_stay}
use Rattle.dq_find.proofs.computed_keys.put_modalities.Goals as goal

pub loop-part-init : goal.loop-part-init
unfolding modalities_of
loop-part-init c = (
  c.requires,
  ap (λ (ps : List (List ℕ)). take modality_limit (all_in_order (filter is_modality ps) c.args.values.now.items))
      (c.values-parts.ensures ∙ ap (element_values CS) c.octets_at.ensures),
)

pub loop-part-preserved : goal.loop-part-preserved
loop-part-preserved c =
    let part = c.in-Some.part.now in
    let before = c.loop-part.values.items in
    let whole = take modality_limit (all_in_order (modalities_of c.args.series.now) c.args.values.now.items) in
    let others = filter is_modality c.next.new.self in
    let kept : filter is_modality c.loop-part.parts ≡ part ∷ others =
    ap (filter is_modality) c.in-Some.ensures.steps
    ∙ ap (λ (b : Bool). cond b (part ∷ others) others) (sym c.is_modality.ensures ∙ c.if-not-is_modality.false) in (
      c.in_ok-put_in_order.ensures.few,
      put_more modality_limit part others before c.put_in_order.new.values.items whole c.in_ok-put_in_order.ensures.put
          (subst (λ (vs : List (List ℕ)). take modality_limit (all_in_order vs before) ≡ whole) kept c.loop-part.invariant.1),
    )

pub returns-clause-put : goal.returns-clause-put
unfolding all_in_order
returns-clause-put c =
    let items = c.loop-part.values.items in
    let whole = take modality_limit (all_in_order (modalities_of c.args.series.now) c.args.values.now.items) in
    sym (few_stay modality_limit items c.loop-part.invariant.0)
    ∙ subst (λ (ps : List (List ℕ)). take modality_limit (all_in_order (filter is_modality ps) items) ≡ whole)
    c.in_default.ensures.steps.0 c.loop-part.invariant.1
