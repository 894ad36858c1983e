use Rattle.std.proofs.Common.{◌≡◌, map, drop}
use Rattle.std.specs.List.{list_all}
use Rattle.dq_match.specs.AsLent.{is_met_at_once}
use Rattle.dq_match.specs.Prepared.{element_of_key}
use Rattle.dq_match.proofs.prepared_matching.each_met_at_once.Given as goal

abbrev pub invariant-loop-key : goal.invariant-loop-key
invariant-loop-key l =
    list_all (is_met_at_once l.later l.held) (map element_of_key (drop l.key-index l.keys))
    ≡ list_all (is_met_at_once l.later l.held) (map element_of_key l.keys)
