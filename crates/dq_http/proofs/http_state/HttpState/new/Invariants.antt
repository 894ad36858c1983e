use Rattle.std.proofs.Common.{◌≡◌, map, take}
use Rattle.dq_http.specs.InstitutionLimits.{limits_of}
use Rattle.dq_http.proofs.http_state.HttpState.new.Given as goal

abbrev pub invariant-loop-institution : goal.invariant-loop-institution
invariant-loop-institution l =
    l.known.items ≡ map limits_of (take l.institution-index l.institutions)
