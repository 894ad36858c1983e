use Rattle.std.proofs.Common.{◌≡◌, map, take, option_to_list, option_copied}
use Rattle.httparse.specs.Spans.{header_bytes}
use Rattle.dq_web.specs.Requests.{values_named}
use Rattle.dq_web.proofs.cutting.sole_value.Given as goal

abbrev pub invariant-loop-header : goal.invariant-loop-header
invariant-loop-header l =
    values_named l.name (map (header_bytes l.octets) (take l.header-index l.headers))
    ≡ option_to_list (option_copied l.found)
