use Rattle.std.proofs.Common.{◌≡◌, ℕ, List, Bor, map, flat_map}
use Rattle.dq_json.specs.Spellings.{spellings}
use Rattle.dq_request.proofs.SpelledValues.{parted}
use Rattle.dq_request.proofs.spelled_values.put_spellings.Given as goal

abbrev pub invariant-loop-value : goal.invariant-loop-value
invariant-loop-value l =
    l.octets.items ≡ parted (flat_map spellings (map (λ (value : Bor (List ℕ)). value.now) l.yielded))
