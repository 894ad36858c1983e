use Rattle.std.proofs.Common.{◌≡◌, map, ℕ, List, Bor}
use Rattle.std.specs.List.{list_any}
use Rattle.dq_web.specs.ParsedRequests.{passes_part}
use Rattle.dq_web.proofs.parsed_request.has_part.Given as goal

abbrev pub invariant-loop-part : goal.invariant-loop-part
invariant-loop-part l =
    l.is_found ≡ list_any (passes_part l.wanted) (map (λ (part : Bor (List ℕ)). part.now) l.yielded)
