-- A change that fits where nothing is kept.
use Rattle.std.proofs.Common.{◌≡◌, true, [], refl}
use Rattle.dq_tables.specs.declared.row.Kind.TheVariants.{Entry}
use Rattle.dq_tables.specs.declared.row.Row.{Row}
use Rattle.dq_tables.specs.declared.change.Change.TheVariants.{EntryAdded}
use Rattle.dq_tables.specs.Lookups.{row_at}
use Rattle.dq_tables.specs.Sound.{is_own_row, is_held, ChangeFits}

pub fits_entry : (row : Row) → row.kind ≡ Entry → is_own_row row ≡ true → ChangeFits [] (EntryAdded row)
unfolding row_at is_held
fits_entry row kind own = record { kind_is = kind; free = refl; own = own; held = refl }
