use Rattle.std.proofs.Common.{◌≡◌, map, take}
use Rattle.httparse.specs.Spans.{header_bytes}
use Rattle.dq_web.specs.Requests.{any_passes}
use Rattle.dq_web.proofs.cutting.any_passes.Given as goal

abbrev pub invariant-loop-header : goal.invariant-loop-header
invariant-loop-header l =
    l.is_found ≡ any_passes l.wanted l.name (map (header_bytes l.octets) (take l.header-index l.headers))
