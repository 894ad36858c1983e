use Rattle.std.proofs.Common.{◌≢◌, ◌<◌, ◌∷◌, [], ℕ, List, length, suc, get_or, refl, codes, append_assoc, sym, ◌∙◌, lit<, arith}
use Rattle.std.specs.Prelude.{IsTrue}
use Rattle.std.proofs.lemmas.Bool.{ne_eqb, not_from_false, and_from}
use Rattle.std.proofs.lemmas.Str.Pattern.{split_parts}
use Rattle.dq_web.specs.Resources.{has_no_slash, is_segment}
use Rattle.dq_web.proofs.resource.at_slash.Goals as goal

-- octets of which none is a slash
segment-by : (text : List ℕ) → ((i : ℕ) → i < length text → get_or text i 0 ≢ 47) → IsTrue (is_segment text)
segment-by [] none = refl
segment-by (octet ∷ octets) none =
    and_from (has_no_slash octet) (is_segment octets)
    (not_from_false _ (ne_eqb octet 47 (none 0 (omega arith))))
    (segment-by octets (λ i within. none (suc i) (omega arith)))

pub returns-in-Some : goal.returns-in-Some
returns-in-Some c =
    let parts = rw c.in-Some.is at (split_parts 47 c.args.text.now c.split_once.result c.split_once.ensures.cases (lit< tt)) in
    (parts.0 ∙ sym (append_assoc c.in-Some.parts.0.now (codes "/") c.in-Some.parts.1.now), segment-by c.in-Some.parts.0.now parts.1)

pub returns-in-None : goal.returns-in-None
returns-in-None c =
    segment-by c.args.text.now (rw c.in-None.is at (split_parts 47 c.args.text.now c.split_once.result c.split_once.ensures.cases (lit< tt)))
