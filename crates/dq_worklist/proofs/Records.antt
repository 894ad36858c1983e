-- The row of a new entry.
use Rattle.std.proofs.Common.{◌≡◌, ℕ, ◌≤◌, true, nat_le, List, length, Some, None, Ok, refl, arith}
use Rattle.std.specs.Str.{bytes_eq}
use Rattle.std.proofs.lemmas.Bool.Decides.{nat_tests}
use Rattle.std.proofs.lemmas.Slice.Eq.{bytes_eq-Decides}
use Rattle.dq_dataset.specs.declared.header.Syntax.TheVariants.{Explicit}
use Rattle.dq_dataset.specs.Tree.{ElementList}
use Rattle.dq_dataset.specs.DataSetReader.{data_set_read}
use Rattle.dq_dataset.specs.Canonical.{canonical}
use Rattle.dq_tables.specs.declared.row.Kind.TheVariants.{Entry}
use Rattle.dq_tables.specs.declared.row.Row.{Row}
use Rattle.dq_tables.specs.Rows.{row_of}
use Rattle.dq_tables.specs.Lookups.{row_at}
use Rattle.dq_tables.specs.Keys.{entry_id}
use Rattle.dq_tables.specs.Sound.{IsNew, is_own_row, is_held, has_key, has_above, is_within_limits, entry_limit}
use Rattle.dq_worklist.specs.Orders.{entry_of}
use Rattle.dq_worklist.specs.Views.{order_of}

is_le : (a b : ℕ) → a ≤ b → nat_le a b ≡ true
is_le a b le = grind (arith, nat_tests)

same_bytes : (o : List ℕ) → bytes_eq o o ≡ true
same_bytes o = (bytes_eq-Decides o o).1 refl

-- the row of an order whose id is free may be added
pub new_fits : (h : List ℕ) (d : ElementList) (id : List ℕ) → data_set_read Explicit (canonical Explicit d) ≡ Ok d → length (canonical Explicit d) ≤ entry_limit
    → entry_id d ≡ Some id → (rows : List Row) → row_at Entry h id rows ≡ None → IsNew rows Entry (row_of h (entry_of (order_of d id)))
unfolding is_own_row has_key has_above is_within_limits is_held
new_fits h d id back short own rows free = record {
  kind_is = refl;
  free = free;
  own = rw (back, same_bytes (canonical Explicit d), own, same_bytes id, is_le (length (canonical Explicit d)) entry_limit short) refl;
  held = refl;
}
