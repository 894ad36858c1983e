use Rattle.std.proofs.Common.{◌≡◌, take}
use Rattle.dq_captures.specs.Reports.{names_of}
use Rattle.dq_app.proofs.reporting.names_of.Given as goal

abbrev pub invariant-loop-institution : goal.invariant-loop-institution
invariant-loop-institution l = l.names.items ≡ names_of (take l.institution-index l.institutions)
