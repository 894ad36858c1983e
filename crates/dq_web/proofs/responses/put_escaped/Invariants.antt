use Rattle.std.proofs.Common.{◌≡◌, ◌++◌, take}
use Rattle.dq_web.specs.Answers.{escaped_text}
use Rattle.dq_web.proofs.responses.put_escaped.Given as goal

abbrev pub invariant-loop-octet : goal.invariant-loop-octet
invariant-loop-octet l = l.body.items ≡ l.initial.body.items ++ escaped_text (take l.octet-index l.octet-items)
