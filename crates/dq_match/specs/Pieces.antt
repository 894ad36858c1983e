-- A piece of a pattern, which is looked for at several starts of a text together.
use Rattle.std.specs.Prelude.{◌≡◌, ℕ, ◌+◌, ◌<◌, Bool, true, false, List, length, slice_index, slice_index_or}
use Rattle.dq_match.specs.Wildcards.{stands_for}
use Rattle.dq_match.specs.declared.wildcards.Casing.{Casing}

-- the piece can stand at a start, as far as it was looked at
abbrev pub is_open : List Bool → ℕ → Bool
is_open starts start = slice_index_or starts start true

-- behind a start the text has an octet that the piece's octet there does not stand for
abbrev pub Differs : Casing → List ℕ → List ℕ → ℕ → Type 0
Differs casing piece text start =
    (k : ℕ) × (k < length piece)
    × (stands_for casing (slice_index piece k) (slice_index text (start + k)) ≡ false)
