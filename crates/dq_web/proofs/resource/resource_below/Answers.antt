use Rattle.std.proofs.Common.{◌≡◌, ◌≢◌, ◌++◌, ◌∙◌, ℕ, List, codes, ap, rules}
use Rattle.dq_web.specs.Resources.{beneath}
use Rattle.dq_web.proofs.Paths.{own-found, no-operator}
use Rattle.dq_web.proofs.resource.resource_below.Goals as goal

slashed : (path rest name below : List ℕ) → path ≡ codes "/" ++ rest → rest ≡ beneath name below → path ≡ codes "/" ++ beneath name below
slashed path rest name below is parts = is ∙ ap (λ (text : List ℕ). codes "/" ++ text) parts

pub returns-then-eq : goal.returns-then-eq
returns-then-eq c =
    let own = c.in-Some-at_slash in
    no-operator c.args.path.now own.institution.now own.rest.now
    (slashed c.args.path.now c.in-Some.rest.now own.institution.now own.rest.now c.in-Some.ensures own.ensures.0) own.ensures.1 (search rules)

pub returns : goal.returns
returns c =
    let own = c.in-Some-at_slash in
    let other : own.institution.now ≢ codes "*" = search rules in
    own-found c.args.path.now own.institution.now own.rest.now
    (slashed c.args.path.now c.in-Some.rest.now own.institution.now own.rest.now c.in-Some.ensures own.ensures.0) own.ensures.1 other
    c.resource_of_institution.result c.resource_of_institution.ensures
