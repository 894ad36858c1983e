-- For the prover alone: the lengths of octets as the code counts them, and the widths that a PDU's
-- types give its numbers and fixed fields.
use Rattle.std.specs.Prelude.{◌≡◌, ℕ, ◌-◌, ◌^◌, ◌<◌, min, List, length, Option, IfSome}
use Rattle.dq_pdu.specs.declared.pdu.Pdu.{Pdu}
use Rattle.dq_pdu.specs.declared.pdu.Pdu.TheVariants.{Request as request_pdu, Accept as accept_pdu, Reject, PData, ReleaseRq, ReleaseRp, Abort}
use Rattle.dq_pdu.specs.Numbers.{title_length, reserved_length}

-- a number of octets, or the greatest that is counted
abbrev pub capped_count : ℕ → ℕ
capped_count n = min n (2 ^ 64 - 1)

-- the numbers and the fixed fields of a PDU are as wide as their types
pub record AreWide (version : ℕ) (called calling reserved : List ℕ) (maximum : Option ℕ)
    : Type 0 where
  pub version_two : version < 2 ^ 16
  pub called_sixteen : length called ≡ title_length
  pub calling_sixteen : length calling ≡ title_length
  pub reserved_thirty_two : length reserved ≡ reserved_length
  pub maximum_four : IfSome maximum (λ n. n < 2 ^ 32)

abbrev pub HasWidths : Pdu → Type 0
HasWidths (request_pdu r) = AreWide r.version r.called r.calling r.reserved r.maximum_length
HasWidths (accept_pdu a) = AreWide a.version a.called a.calling a.reserved a.maximum_length
HasWidths (Reject result source reason) = Unit {0}
HasWidths (PData values) = Unit {0}
HasWidths ReleaseRq = Unit {0}
HasWidths ReleaseRp = Unit {0}
HasWidths (Abort source reason) = Unit {0}
