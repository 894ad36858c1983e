-- How long the PDUs are that a peer takes (PS3.8 annex D.1).
use Rattle.std.specs.Prelude.{ℕ, Bool, true, ◌||◌, ◌==◌, nat_le, if◌then◌else◌, Option, Some, None, unwrap_or}
use Rattle.dq_dimse.specs.Sending.{least_limit}

-- no maximum length, no limit, or room for such a PDU
abbrev pub has_room_for_data : Option ℕ → Bool
has_room_for_data None = true
has_room_for_data (Some maximum) = (maximum == 0) || nat_le least_limit maximum

-- the limit of a maximum length, if it leaves room; 0 is no limit
abbrev pub limit_of_length : Option ℕ → Option ℕ
limit_of_length maximum = if has_room_for_data maximum then Some (unwrap_or maximum 0) else None
