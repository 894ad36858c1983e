use Rattle.std.proofs.Common.{◌≡◌, ◌++◌, ◌∷◌, take, flat_map}
use Rattle.dq_request.specs.Searches.{backslash}
use Rattle.dq_request.proofs.spelled_values.put_values.Given as goal

abbrev pub invariant-loop-value : goal.invariant-loop-value
invariant-loop-value l =
    l.octets.items ≡ l.initial.octets.items ++ flat_map (λ value. backslash ∷ value) (take l.value-index l.values)
