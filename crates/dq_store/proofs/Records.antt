-- Rows that are kept, as records.
use Rattle.std.proofs.Common.{◌≡◌, ℕ, true, false, leb, List, [], Option, Some, None, is_some, is_none, not, refl, ◌∙◌, ap}
use Rattle.std.specs.Option.{option_map}
use Rattle.dq_tables.specs.declared.row.Row.{Row}
use Rattle.dq_tables.specs.Rows.{Record, row_of, record_of}
use Rattle.dq_store.specs.declared.kept_rows.KeptRows.{KeptRows}
use Rattle.dq_store.specs.Views.{rows_among, records_kept}
use Rattle.dq_store.specs.CStore.{Instance, kept_among, finds_no_room, stored_edits}

kept_again : (h : List ℕ) (o : Option Record) → option_map record_of (option_map (row_of h) o) ≡ o
kept_again h None = refl
kept_again h (Some r) = refl

-- the records of the rows that were looked up
pub kept_is : (h : List ℕ) (records : List Record) (sent : Instance) (kept : KeptRows) → kept ≡ rows_among h records sent → records_kept kept ≡ kept_among records sent
kept_is h records sent kept found =
    let k = kept_among records sent in
    ap records_kept found ∙ (λ i. record { study = kept_again h k.study i; series = kept_again h k.series i; image = kept_again h k.image i })

pub no_room : (row : Option Row) (limit from count n : ℕ) → is_some row ≡ false → from ≡ limit → count ≡ n
    → leb from count ≡ finds_no_room (option_map record_of row) limit n
no_room None limit from count n none same counted = ap (λ (l : ℕ). leb l count) same ∙ ap (leb limit) counted
no_room (Some row) limit from count n none same counted = cc

pub is_some_record : (r : Option Row) → is_some (option_map record_of r) ≡ is_some r
is_some_record None = refl
is_some_record (Some r) = refl

pub is_none_record : (r : Option Row) → is_none (option_map record_of r) ≡ not (is_some r)
is_none_record None = refl
is_none_record (Some r) = refl

pub no_record : (r : Option Row) → is_some r ≡ false → option_map record_of r ≡ None
no_record None none = refl
no_record (Some r) none = cc

-- a repeated instance changes nothing
pub nothing_again : (k : KeptRows) (s : Instance) → is_some k.image ≡ true → stored_edits (records_kept k) s ≡ []
unfolding stored_edits
nothing_again k s there = rw (is_some_record k.image ∙ there) refl
