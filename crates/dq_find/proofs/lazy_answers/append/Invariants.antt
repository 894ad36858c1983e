use Rattle.std.proofs.Common.{◌≡◌, ◌++◌}
use Rattle.dq_find.proofs.lazy_answers.append.Given as goal

abbrev pub invariant-loop-answer : goal.invariant-loop-answer
invariant-loop-answer l = record {
  parts : l.yielded ++ l.answer-iterator.rest.items ≡ l.fn.page;
  found : l.found.items ≡ l.fn.found.items ++ l.yielded;
}
