-- The numbers of octets, one after the other.
use Rattle.std.proofs.Common.{◌≡◌, ℕ, ◌+◌, ◌*◌, ◌<◌, ◌≤◌, List, [], ◌∷◌, length, get_or, drop, refl, append_assoc, flat_map, decimal, ◌++◌, arith}
use Rattle.json.specs.Token.{Token, number}
use Rattle.dq_json.specs.Attributes.{numbers, number_tokens}

pub next_number : (octets : List ℕ) → 1 < length octets → numbers octets ≡ (get_or octets 0 0 + get_or octets 1 0 * 256) ∷ numbers (drop 2 octets)
unfolding numbers
next_number [] more = grind (arith, more)
next_number (low ∷ []) more = grind (arith, more)
next_number (low ∷ (high ∷ others)) more = refl

pub no_numbers : (octets : List ℕ) → length octets ≤ 1 → numbers octets ≡ []
unfolding numbers
no_numbers [] few = refl
no_numbers (low ∷ []) few = refl
no_numbers (low ∷ (high ∷ others)) few = grind (arith, few)

pub next_told : (octets rest : List ℕ) (low high : ℕ) (out : List Token) → 1 < length octets → low ≡ get_or octets 0 0 → high ≡ get_or octets 1 0
    → rest ≡ drop 2 octets
    → (out ++ number (decimal (low + high * 256)) ∷ []) ++ flat_map number_tokens (numbers rest) ≡ out ++ flat_map number_tokens (numbers octets)
next_told octets rest low high out more is_low is_high is_rest =
    rw (is_low, is_high, is_rest, next_number octets more, append_assoc) refl
