use Rattle.std.proofs.Common.{◌≡◌, map, ℕ, List, Bor}
use Rattle.std.specs.List.{list_all}
use Rattle.dq_web.specs.Aims.{is_plain_segment}
use Rattle.dq_web.proofs.aim.is_plain_path.Given as goal

abbrev pub invariant-loop-segment : goal.invariant-loop-segment
invariant-loop-segment l =
    l.are_plain ≡ list_all is_plain_segment (map (λ (segment : Bor (List ℕ)). segment.now) l.yielded)
