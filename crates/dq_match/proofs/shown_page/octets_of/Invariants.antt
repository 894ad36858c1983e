use Rattle.std.proofs.Common.{◌≡◌, ◌≤◌, ◌+◌, min, drop}
use Rattle.dq_match.specs.ShownPages.{page_octets, octets_of_answers}
use Rattle.dq_match.proofs.shown_page.octets_of.Given as goal

abbrev pub invariant-loop-answer : goal.invariant-loop-answer
invariant-loop-answer l =
    (l.octets ≤ page_octets)
    × (min (l.octets + octets_of_answers (drop l.answer-index l.answers)) page_octets
    ≡ min (octets_of_answers l.answers) page_octets)
