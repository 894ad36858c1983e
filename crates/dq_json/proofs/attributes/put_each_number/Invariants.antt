use Rattle.std.proofs.Common.{length, ◌≡◌, ◌++◌, flat_map}
use Rattle.dq_json.specs.Attributes.{numbers, number_tokens}
use Rattle.dq_json.proofs.attributes.put_each_number.Given as goal

abbrev pub invariant-loop-rest : goal.invariant-loop-rest
invariant-loop-rest l =
    (l.out.before ≡ l.fn.out.before)
    × (l.out.tokens ++ flat_map number_tokens (numbers l.rest) ≡ l.fn.out.tokens ++ flat_map number_tokens (numbers l.octets))

abbrev pub decreases-loop-rest : goal.decreases-loop-rest
decreases-loop-rest l = length l.rest
