use Rattle.std.proofs.Common.{◌≡◌, take, string_bytes, encode_utf8, flat_map}
use Rattle.dq_json.specs.Text.{ascii_or_replaced}
use Rattle.dq_json.proofs.text.replaced.Given as goal

abbrev pub invariant-loop-octet : goal.invariant-loop-octet
invariant-loop-octet l = string_bytes l.text ≡ flat_map (λ octet. encode_utf8 (ascii_or_replaced octet)) (take l.octet-index l.octets)
