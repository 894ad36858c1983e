use Rattle.std.proofs.Common.{◌≡◌, ◌++◌, ◌∙◌, ℕ, List, codes, append_assoc, sym, subst}
use Rattle.std.specs.Prelude.{IsTrue}
use Rattle.dq_web.specs.Resources.{beneath, is_segment}
use Rattle.dq_web.proofs.Paths.{same-rest}
use Rattle.dq_web.proofs.aim.at_path.Goals as goal

parts : (text host below path octets : List ℕ) → text ≡ beneath host below → IsTrue (is_segment host) → text ≡ host ++ path → octets ≡ host
    → (x : List ℕ) × (text ≡ beneath octets x) × IsTrue (is_segment octets) × (path ≡ codes "/" ++ x)
parts text host below path octets is segment front same = (
  below,
  subst (λ (name : List ℕ). text ≡ beneath name below) (sym same) is,
  subst (λ (name : List ℕ). IsTrue (is_segment name)) (sym same) segment,
  same-rest host path (codes "/" ++ below) (sym front ∙ is ∙ append_assoc host (codes "/") below),
)

pub returns-in-Some-behind : goal.returns-in-Some-behind
returns-in-Some-behind c =
    parts c.args.text.now c.in-Some.host.now c.in-Some.field-0-1.now c.in-Some-behind.path.now c.as_bytes.result.now
    c.in-Some.ensures.0 c.in-Some.ensures.1 c.in-Some-behind.ensures c.as_bytes.ensures.value
