-- Decimal numbers in character strings (PS3.5 section 6.2, the VRs DA and TM).
use Rattle.std.specs.Prelude.{ℕ, zero, suc, ◌++◌, ◌/◌, ◌%◌, ◌+◌, ◌-◌, ◌*◌, Bool, List, [], ◌∷◌, Option, Some, None, nat_le, ◌&&◌, if◌then◌else◌}
pub use Rattle.dq_list.specs.Readers.{◌>>=◌}

abbrev pub is_digit : ℕ → Bool
is_digit octet = nat_le 0x30 octet && nat_le octet 0x39

-- the number that the digits add behind those before
unfoldable pub number_after : ℕ → List ℕ → Option ℕ
number_after before [] = Some before
number_after before (octet ∷ others) =
    if is_digit octet then number_after (10 * before + (octet - 0x30)) others else None

-- the number that digits alone spell: no digits are no number
unfoldable pub number : List ℕ → Option ℕ
number [] = None
number (octet ∷ others) = number_after 0 (octet ∷ others)

-- the last digits of a number, that of the highest power of ten first
unfoldable pub digits : ℕ → ℕ → List ℕ
digits zero n = []
digits (suc count) n = digits count (n / 10) ++ (0x30 + n % 10) ∷ []
