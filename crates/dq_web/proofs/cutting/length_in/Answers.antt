use Rattle.std.proofs.Common.{rules, true, ◌≡◌, ℕ, List, subst}
use Rattle.std.proofs.lemmas.Bool.{and_parts}
use Rattle.std.specs.Str.Parse.{ParsesUnsigned}
use Rattle.dq_web.specs.Requests.{is_numeral}
use Rattle.dq_web.proofs.Texts.{digits-text, too-large}
use Rattle.dq_web.proofs.cutting.length_in.Goals as goal

pub returns-in_default : goal.returns-in_default
returns-in_default c =
    let is : is_numeral c.args.value.now ≡ true = search rules in
    absurd (c.in_default.ensures.cases.0 (digits-text c.args.value.now (and_parts _ _ is).1))

pub returns-in-Err : goal.returns-in-Err
returns-in-Err c =
    let is : is_numeral c.args.value.now ≡ true = search rules in
    let parses = subst (λ (text : List ℕ). ParsesUnsigned 64 10 text c.parse.result) c.in-Ok.ensures.cases.0 c.parse.ensures.value.0 in
    (is, too-large c.args.value.now c.parse.result c.in-Err.field-0 parses c.in-Err.is is)
