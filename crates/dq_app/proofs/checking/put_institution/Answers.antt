use Rattle.std.proofs.Common.{◌≡◌, ◌≤◌, ℕ, List, ◌++◌, length, take, ap, append_assoc, ◌∙◌}
use Rattle.std.specs.List.{flat_map}
use Rattle.std.proofs.lemmas.List.{take_all}
use Rattle.std.proofs.lemmas.Result.{on_ok_weaker}
use Rattle.dq_app.specs.Checks.{limits_text, route_line}
use Rattle.dq_app.proofs.checking.put_institution.Goals as goal

-- what was put together in three parts
joined : {X : Type 0} (lines : X → List ℕ) (xs : List X) (at : ℕ) (old text mid new name limits : List ℕ) → length xs ≤ at
    → text ≡ old ++ flat_map lines (take at xs) → mid ≡ text ++ name → new ≡ mid ++ limits → new ≡ old ++ (flat_map lines xs ++ name ++ limits)
joined lines xs at old text mid new name limits whole routes named limited =
    limited ∙ ap (λ t. t ++ limits) (named ∙ ap (λ t. t ++ name) (routes ∙ ap (λ some. old ++ flat_map lines some) (take_all at xs whole))
    ∙ append_assoc old (flat_map lines xs) name) ∙ append_assoc old (flat_map lines xs ++ name) limits

pub returns : goal.returns
returns c =
    let i = c.args.institution.now in
    on_ok_weaker c.put_limits.result (λ limited. joined (route_line i.name) i.routes c.loop-route.route-index c.args.text.now.items c.loop-route.text.items c.extend_from_slice.new.self.items
    c.put_limits.new.text.items i.name (limits_text i) (rw (← c.as_slice-route-items.ensures) c.loop-route-test.false)
    (rw c.as_slice-route-items.ensures at c.loop-route.invariant)
    (rw c.as_slice-name.ensures at c.in_ok-extend_from_slice.ensures.items) limited) c.put_limits.ensures
