use Rattle.std.proofs.Common.{◌≡◌, map, take}
use Rattle.dq_request.specs.Searches.{uid_octet}
use Rattle.dq_request.proofs.search.uids_of.Given as goal

abbrev pub invariant-loop-octet : goal.invariant-loop-octet
invariant-loop-octet l = l.uids ≡ map uid_octet (take l.octet-index l.octet-items)
