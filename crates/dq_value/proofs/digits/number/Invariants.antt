use Rattle.std.proofs.Common.{◌≡◌, ◌<◌, ◌^◌, drop}
use Rattle.dq_value.specs.Digits.{number_after}
use Rattle.dq_value.proofs.digits.number.Given as goal

abbrev pub invariant-loop-octet : goal.invariant-loop-octet
invariant-loop-octet l = record {
  value : number_after l.number (drop l.octet-index l.octets) ≡ number_after 0 l.octets;
  bound : l.number < 10 ^ l.octet-index;
}
