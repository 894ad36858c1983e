use Rattle.std.proofs.Common.{◌≡◌, ◌++◌, drop}
use Rattle.std.specs.Prelude.{option_map, option_to_list}
use Rattle.dq_pdu.specs.Octets.{bodies, at_most_one}
use Rattle.dq_pdu.proofs.items.at_most_one.Given as goal

abbrev pub invariant-loop-item : goal.invariant-loop-item
invariant-loop-item l = at_most_one (option_to_list (option_map (λ x. x.now) l.found) ++ bodies l.kind (drop l.item-index l.items)) ≡ at_most_one
    (bodies l.kind l.items)
