use Rattle.std.proofs.Common.{◌≡◌, ◌++◌, string_bytes, take, map}
use Rattle.dq_http.specs.Notes.{told_octet}
use Rattle.dq_http.proofs.request_log.put_told.Given as goal

abbrev pub invariant-loop-octet : goal.invariant-loop-octet
invariant-loop-octet l =
    string_bytes l.text ≡ string_bytes l.fn.text ++ map told_octet (take l.octet-index l.front)
