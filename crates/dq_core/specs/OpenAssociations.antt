-- The counts of the associations that are open, one for each institution, in their order. This is
-- there for the prover.
use Rattle.std.specs.Prelude.{◌≡◌, ℕ, ◌+◌, ◌-◌, min, Bool, true, false, List, Option, Some, None, slice_index_or, slice_set}
use Rattle.std.specs.List.{position}
use Rattle.std.specs.Str.{bytes_eq}
use Rattle.dq_config.specs.declared.config.Institution.{Institution}
use Rattle.dq_core.specs.Connections.{Connection}
use Rattle.dq_core.specs.Owners.{live_of}

-- where the institution of a name stands
abbrev pub institution_index : List Institution → List ℕ → Option ℕ
institution_index institutions name = position (λ (i : Institution). bytes_eq i.name name) institutions

abbrev pub count_in : List ℕ → Option ℕ → ℕ
count_in counts None = 0
count_in counts (Some place) = slice_index_or counts place 0

-- the count of the institution of a name
abbrev pub tally_of_name : List Institution → List ℕ → List ℕ → ℕ
tally_of_name institutions counts name = count_in counts (institution_index institutions name)

-- the counts are those of the connections
abbrev pub IsTallied : List Institution → List ℕ → List Connection → Type 0
IsTallied institutions counts cs =
    (name : List ℕ) → tally_of_name institutions counts name ≡ live_of institutions name cs

-- one more at a place, up to the greatest number, and one less
abbrev pub one_more : List ℕ → Option ℕ → List ℕ
one_more counts None = counts
one_more counts (Some place) =
    slice_set counts place (min (slice_index_or counts place 0 + 1) 18446744073709551615)

abbrev pub one_less : List ℕ → Option ℕ → List ℕ
one_less counts None = counts
one_less counts (Some place) = slice_set counts place (slice_index_or counts place 0 - 1)

-- the counts after an institution's association was opened, or was ended
abbrev pub tally_after : List ℕ → Option ℕ → Bool → Bool → List ℕ
tally_after counts place false true = one_more counts place
tally_after counts place true false = one_less counts place
tally_after counts place true true = counts
tally_after counts place false false = counts

abbrev pub retallied_by : List Institution → List ℕ → Option Institution → Bool → Bool → List ℕ
retallied_by institutions counts None was is = counts
retallied_by institutions counts (Some i) was is =
    tally_after counts (institution_index institutions i.name) was is
