use Rattle.std.proofs.Common.{◌≡◌, ℕ, List, IfOk, rules, sym, ap, subst, ◌∙◌}
use Rattle.std.specs.List.{join_with_byte}
use Rattle.dq_request.specs.Searches.{backslash, all_spellings}
use Rattle.dq_request.proofs.SpelledValues.{of_text, of_others}
use Rattle.dq_request.proofs.spelled_values.in_spellings.Goals as goal

pub returns-in-Ok : goal.returns-in-Ok
returns-in-Ok c =
    let same : c.in-Ok.text.now ≡ c.args.octets.now = search rules in
    subst (λ (x : List ℕ). IfOk c.joined_spellings.result (λ value. value ≡ x))
    (ap (λ (text : List ℕ). join_with_byte backslash (all_spellings text)) same ∙ sym (of_text c.args.octets.now c.in-Ok.ensures.cases.1))
    c.joined_spellings.ensures

pub returns-in-Err : goal.returns-in-Err
returns-in-Err c =
    subst (λ (x : List ℕ). IfOk c.copy_of.result (λ value. value ≡ x)) (sym (of_others c.args.octets.now c.in-Err.ensures.cases.0)) c.copy_of.ensures
