use Rattle.std.proofs.Common.{◌≡◌, ◌∙◌, true, rules, subst, ap, List, Result, map}
use Rattle.dq_dataset.specs.declared.fault.ReadFault.{ReadFault}
use Rattle.dq_dataset.specs.declared.header.Syntax.TheVariants.{Explicit}
use Rattle.dq_dataset.specs.declared.data_set.Element.{Element}
use Rattle.dq_dataset.specs.Agreement.{AgreesWith}
use Rattle.dq_dataset.specs.Lending.{Spelled, lent_elements}
use Rattle.dq_dataset.specs.View.{elements_of}
use Rattle.dq_match.specs.AsLent.{all_meet}
use Rattle.dq_match.specs.Prepared.{element_of_key}
use Rattle.dq_match.proofs.MetAsLent.{passes}
use Rattle.dq_match.proofs.prepared.PreparedKeys.lent_meets.Goals as goal

pub returns-clause-passes : goal.returns-clause-passes
returns-clause-passes c =
    let later = c.args.later.now in
    let octets = c.args.octets.now in
    let as_lent : c.loop-next.met ≡ all_meet later (map element_of_key c.keys-keys.result.now) true (lent_elements Explicit octets) = search rules in
    let agrees : AgreesWith Explicit octets (lent_elements Explicit octets) =
    subst (λ (xs : List (Result Spelled ReadFault)). AgreesWith Explicit octets xs) c.new-elements.ensures.lent c.new-elements.ensures.agrees in
    λ met. as_lent ∙ ap (λ (keys : List Element). all_meet later keys true (lent_elements Explicit octets)) c.keys-keys.ensures
    ∙ passes later (elements_of c.args.self.now) octets (lent_elements Explicit octets)
    (λ d. c.spelling_law.ensures.facts Explicit octets d) (λ d. c.spelling_law.ensures.read Explicit octets d) agrees met
