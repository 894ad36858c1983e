use Rattle.std.proofs.Common.{◌≡◌, ◌+◌, ◌++◌, drop, flat_map, length}
use Rattle.dq_web.specs.Answers.{behind_comma, fitting}
use Rattle.dq_web.proofs.responses.put_fitting.Given as goal

abbrev pub invariant-loop-answer : goal.invariant-loop-answer
invariant-loop-answer l =
    (l.count ≡ l.answer-index)
    × (l.body.items ++ flat_map behind_comma (fitting l.left (drop l.answer-index l.answers))
    ≡ l.initial.body.items ++ flat_map behind_comma (fitting l.room l.answers))
    × (l.count + length (fitting l.left (drop l.answer-index l.answers)) ≡ length (fitting l.room l.answers))
