use Rattle.std.proofs.Common.{◌≡◌, ◌++◌, drop, option_map}
use Rattle.json.specs.Value.{items_view}
use Rattle.dq_json.specs.Values.{shorts}
use Rattle.dq_json.proofs.values.shorts.Given as goal

abbrev pub invariant-loop-value : goal.invariant-loop-value
invariant-loop-value l =
    shorts (items_view l.values) ≡ option_map (λ rest. l.octets.items ++ rest) (shorts (items_view (drop l.value-index l.values)))
