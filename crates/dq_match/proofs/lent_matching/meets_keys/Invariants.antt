use Rattle.std.proofs.Common.{◌≡◌, drop, map}
use Rattle.std.specs.List.{list_all}
use Rattle.dq_dataset.specs.Lending.{Spelled}
use Rattle.dq_match.specs.AsLent.{is_met_by}
use Rattle.dq_match.specs.Prepared.{element_of_key}
use Rattle.dq_match.proofs.lent_matching.meets_keys.Given as goal

abbrev pub invariant-loop-key : goal.invariant-loop-key
invariant-loop-key l =
    let e : Spelled = record { tag = l.lent.tag; vr = l.lent.vr; syntax = l.lent.syntax; octets = l.lent.octets.now } in
    list_all (is_met_by l.later e) (map element_of_key (drop l.key-index l.keys)) ≡ list_all (is_met_by l.later e) (map element_of_key l.keys)
