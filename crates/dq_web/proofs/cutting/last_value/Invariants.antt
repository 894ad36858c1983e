use Rattle.std.proofs.Common.{map, take, option_copied}
use Rattle.httparse.specs.Spans.{header_bytes}
use Rattle.dq_web.specs.Requests.{IsLast}
use Rattle.dq_web.proofs.cutting.last_value.Given as goal

abbrev pub invariant-loop-header : goal.invariant-loop-header
invariant-loop-header l =
    IsLast l.name (map (header_bytes l.octets) (take l.header-index l.headers)) (option_copied l.found)
