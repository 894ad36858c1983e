use Rattle.std.proofs.Common.{◌≡◌, ◌++◌, take}
use Rattle.std.specs.List.{flat_map}
use Rattle.dq_app.specs.Checks.{route_line}
use Rattle.dq_app.proofs.checking.put_institution.Given as goal

abbrev pub invariant-loop-route : goal.invariant-loop-route
invariant-loop-route l =
    l.text.items ≡ l.initial.text.items ++ flat_map (route_line l.institution.name) (take l.route-index l.route-items)
