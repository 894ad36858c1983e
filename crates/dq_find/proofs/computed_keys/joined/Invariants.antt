use Rattle.std.proofs.Common.{◌≡◌, ◌∷◌, ◌++◌, drop}
use Rattle.std.specs.List.{flat_map}
use Rattle.dq_find.specs.ComputedKeys.{backslash_joined}
use Rattle.dq_find.proofs.computed_keys.joined.Given as goal

abbrev pub invariant-loop-value : goal.invariant-loop-value
invariant-loop-value l =
    l.octets.items ++ flat_map (λ value. 0x5c ∷ value) (drop l.value-index l.others) ≡ backslash_joined l.values
