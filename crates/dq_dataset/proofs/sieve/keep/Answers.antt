use Rattle.std.proofs.Common.{Bool, List, ◌++◌, ◌||◌, ◌∙◌, ap, refl}
use Rattle.dq_dataset.proofs.Types.{Element}
use Rattle.dq_dataset.specs.View.{as_elements}
use Rattle.dq_dataset.specs.Sieve.{is_over_limit}
use Rattle.dq_dataset.specs.Sieving.{kept_unless_over}
use Rattle.dq_dataset.proofs.sieve.keep.Goals as goal

pub returns : goal.returns
returns c =
    let outer = c.args.outer in
    let all = c.in_ok-append.ensures.items ∙ ap (λ (es : List Element). outer.kept.items ++ es) c.into_elements.ensures.elements in
    let same = c.are_over_limit.ensures ∙ ap (λ (es : List Element). is_over_limit (as_elements es)) (c.deref.ensures.value ∙ all) in
    record {
      syntax = refl;
      last = refl;
      other = refl;
      large = ap (λ (b : Bool). outer.large || b) same;
      kept = c.kept_unless_over-kept.ensures ∙ ap (kept_unless_over (outer.large || c.are_over_limit.result)) all;
    }
