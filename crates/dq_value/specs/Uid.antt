-- A unique identifier, VR UI (PS3.5 section 9.1).
use Rattle.std.specs.Prelude.{ℕ, Bool, List, length, nat_eq, nat_le, ◌&&◌, ◌||◌}
use Rattle.std.specs.List.{list_all}
use Rattle.dq_value.specs.Digits.{is_digit}

-- a digit or a point
abbrev pub is_uid_octet : ℕ → Bool
is_uid_octet octet = is_digit octet || nat_eq octet 0x2e

-- 1 to 64 octets of digits and points
unfoldable pub is_uid : List ℕ → Bool
is_uid octets =
    (nat_le 1 (length octets) && nat_le (length octets) 64) && list_all is_uid_octet octets
