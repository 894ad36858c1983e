use Rattle.std.proofs.Common.{map, ℕ, List, Bor}
use Rattle.dq_request.specs.Searches.{TakesWords}
use Rattle.dq_web.specs.ParsedRequests.{words_among}
use Rattle.dq_web.proofs.parsed_request.take_parts.Given as goal

abbrev pub invariant-loop-part : goal.invariant-loop-part
invariant-loop-part l =
    TakesWords (words_among l.initial.search.subject (map (λ (part : Bor (List ℕ)). part.now) l.yielded)) l.initial.search l.search
