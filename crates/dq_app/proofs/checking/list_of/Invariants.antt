use Rattle.std.proofs.Common.{◌≡◌, take}
use Rattle.dq_app.specs.Checks.{check_text}
use Rattle.dq_app.proofs.checking.list_of.Given as goal

abbrev pub invariant-loop-institution : goal.invariant-loop-institution
invariant-loop-institution l = l.text.items ≡ check_text (take l.institution-index l.institutions)
