use Rattle.std.proofs.Common.{◌≡◌, ℕ, List, ◌∷◌, length, IfOk, rules, subst, ◌∙◌}
use Rattle.dq_request.specs.Searches.{all_spellings}
use Rattle.dq_request.proofs.SpelledValues.{parted, others_joined, none_joined}
use Rattle.dq_request.proofs.spelled_values.joined_spellings.Goals as goal

pub returns-in-Some : goal.returns-in-Some
returns-in-Some c =
    let are : c.as_slice.result.now ≡ parted (all_spellings c.args.text.now) = c.as_slice.ensures.value ∙ c.in_ok-octets.ensures in
    let first : c.as_slice.result.now ≡ c.in-Some.field-0-0.now ∷ c.in-Some.others.now = search rules in
    subst (λ (x : List ℕ). IfOk c.copy_of.result (λ octets. octets ≡ x))
    (others_joined c.as_slice.result.now c.in-Some.others.now c.in-Some.field-0-0.now (all_spellings c.args.text.now) are first) c.copy_of.ensures

pub returns : goal.returns
returns c =
    let are : c.as_slice.result.now ≡ parted (all_spellings c.args.text.now) = c.as_slice.ensures.value ∙ c.in_ok-octets.ensures in
    let none : length c.as_slice.result.now ≡ 0 = search rules in
    c.empty.ensures ∙ none_joined c.as_slice.result.now (all_spellings c.args.text.now) are none
