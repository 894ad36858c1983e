use Rattle.std.proofs.Common.{◌≡◌, take, string_bytes, encode_utf8, flat_map}
use Rattle.dq_json.specs.Text.{character_in}
use Rattle.dq_json.proofs.text.converted.Given as goal

abbrev pub invariant-loop-octet : goal.invariant-loop-octet
invariant-loop-octet l = string_bytes l.text ≡ flat_map (λ octet. encode_utf8 (character_in l.table octet)) (take l.octet-index l.octets)
