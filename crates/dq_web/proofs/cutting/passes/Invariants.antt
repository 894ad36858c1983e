use Rattle.std.proofs.Common.{◌≡◌, map, ℕ, List, Bor}
use Rattle.std.specs.List.{list_any}
use Rattle.dq_web.specs.Requests.{passes_word}
use Rattle.dq_web.proofs.cutting.passes.Given as goal

abbrev pub invariant-loop-word : goal.invariant-loop-word
invariant-loop-word l =
    l.is_found ≡ list_any (passes_word l.wanted) (map (λ (word : Bor (List ℕ)). word.now) l.yielded)
