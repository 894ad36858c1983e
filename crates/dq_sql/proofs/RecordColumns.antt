-- What follows of the row that columns hold.
use Rattle.std.proofs.Common.{◌≡◌, true, refl, sym, ap, subst, ◌∙◌}
use Rattle.sqlite_value.specs.Order.{Row as Values}
use Rattle.dq_tables.specs.declared.row.Row.{Row}
use Rattle.dq_tables.specs.Sound.{is_own_row}
use Rattle.dq_sql.specs.Tie.{row_of_cells, Holds}
use Rattle.dq_sql.specs.FoundStores.{HoldsRecord, HasCells, IsGood}
use Rattle.dq_sql.proofs.AddedRows.{kind_is, set_is}

pub record_kept : (row : Row) (r : Values) → HoldsRecord row r → row_of_cells r ≡ row
record_kept row r h = rw (h.kind, h.inst, h.key, h.above, h.octets, h.started, kind_is row.kind, set_is row.started) refl

holds_from : (row : Row) (r : Values) → HoldsRecord row r → HasCells row r → Holds row r
holds_from row r h c = record {
  kind = h.kind;
  inst = h.inst;
  key = h.key;
  above = h.above;
  patient = c.patient;
  day = c.day;
  octets = h.octets;
  started = h.started;
}

pub good_from : (row : Row) (r : Values) → HoldsRecord row r → HasCells row r → is_own_row row ≡ true → IsGood r
good_from row r h c own =
    let same = record_kept row r h in
    record {
      kept = subst (λ (x : Row). Holds x r) (sym same) (holds_from row r h c);
      own = ap is_own_row same ∙ own;
    }

pub none_good : (r : Values) → ((row : Row) → ¬ HoldsRecord row r) → ¬ IsGood r
none_good r none good =
    let h = good.kept in
    none (row_of_cells r) (record { kind = h.kind; inst = h.inst; key = h.key; above = h.above; octets = h.octets; started = h.started })

pub cells_of_good : (row : Row) (r : Values) → HoldsRecord row r → IsGood r → HasCells row r
cells_of_good row r h good =
    let k = good.kept in
    subst (λ (x : Row). HasCells x r) (record_kept row r h) (record { patient = k.patient; day = k.day })

pub own_of_good : (row : Row) (r : Values) → HoldsRecord row r → IsGood r → is_own_row row ≡ true
own_of_good row r h good = ap is_own_row (sym (record_kept row r h)) ∙ good.own
