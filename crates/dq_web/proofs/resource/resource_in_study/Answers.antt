use Rattle.std.proofs.Common.{◌≡◌, ◌≢◌, ◌++◌, ◌∙◌, ℕ, List, codes, sym, subst, rules}
use Rattle.std.specs.Prelude.{IsTrue}
use Rattle.dq_web.specs.Resources.{beneath, is_segment}
use Rattle.dq_web.proofs.Paths.{beneath-slash, same-segment, no-study}
use Rattle.dq_web.proofs.resource.resource_in_study.Goals as goal

-- what follows `series/` once is one text
same-series : (one other : List ℕ) → codes "series/" ++ one ≡ codes "series/" ++ other → one ≡ other
same-series one other is = cc

pub returns-in_default-behind : goal.returns-in_default-behind
returns-in_default-behind c =
    no-study c.args.institution.now c.args.rest.now c.in-Some.study.now c.in-Some.rest.now c.in-Some.ensures.0 c.in-Some.ensures.1
    (search rules) (search rules) (λ series segment is. c.in_default-behind.ensures (beneath series (codes "instances")) is)

pub returns-in_default-at_slash : goal.returns-in_default-at_slash
returns-in_default-at_slash c =
    no-study c.args.institution.now c.args.rest.now c.in-Some.study.now c.in-Some.rest.now c.in-Some.ensures.0 c.in-Some.ensures.1
    (search rules) (search rules) (λ series segment is. beneath-slash series (codes "instances")
    (subst (λ (text : List ℕ). IsTrue (is_segment text))
    (same-series c.in-Some-behind.rest.now (beneath series (codes "instances")) (sym c.in-Some-behind.ensures ∙ is))
    c.in_default-at_slash.ensures))

pub returns-else-eq-3 : goal.returns-else-eq-3
returns-else-eq-3 c =
    let last : c.in-Some-at_slash.rest.now ≢ codes "instances" = search rules in
    no-study c.args.institution.now c.args.rest.now c.in-Some.study.now c.in-Some.rest.now c.in-Some.ensures.0 c.in-Some.ensures.1
    (search rules) (search rules) (λ series segment is. last
    (same-segment c.in-Some-at_slash.series.now series c.in-Some-at_slash.rest.now (codes "instances") c.in-Some-at_slash.ensures.1 segment
    (sym c.in-Some-at_slash.ensures.0 ∙ same-series c.in-Some-behind.rest.now (beneath series (codes "instances")) (sym c.in-Some-behind.ensures ∙ is))).1)
