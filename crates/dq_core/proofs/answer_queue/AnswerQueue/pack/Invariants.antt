use Rattle.std.proofs.Common.{◌≡◌, [], ◌++◌, length}
use Rattle.dq_core.proofs.answer_queue.AnswerQueue.pack.Given as goal

abbrev pub invariant-loop-answer : goal.invariant-loop-answer
invariant-loop-answer l = record {
  packed : l.packed.items ++ l.self-inside.pages.answers ≡ l.initial.self-inside.pages.answers;
  none : l.self-inside.packed.items ≡ [];
  status : l.self-inside.pages.status ≡ l.initial.self-inside.pages.status;
  optional : l.self-inside.pages.optional ≡ l.initial.self-inside.pages.optional;
}

abbrev pub decreases-loop-answer : goal.decreases-loop-answer
decreases-loop-answer l = length l.self-inside.pages.answers
