-- The rows that the tables hold once a row is put in.
use Rattle.std.proofs.Common.{◌≡◌, ℤ, pos, List, [], ◌∷◌, map, Bool, true, false, ◌||◌, IsTrue, refl, sym, ap, subst, ◌∙◌}
use Rattle.std.specs.List.{AllByRecursion, IsDistinct}
use Rattle.std.specs.Ordering.{is_eq}
use Rattle.std.specs.declared.cmp.Ordering.{Ordering}
use Rattle.std.specs.declared.cmp.Ordering.TheVariants.{Less, Equal, Greater}
use Rattle.std.specs.List.Sorted.{IsPermutation}
use Rattle.std.proofs.lemmas.List.Sorted.{IsPermutation-trans, IsPermutation-cons, IsPermutation-middle, IsPermutation-map, IsPermutation-refl}
use Rattle.sqlite_value.specs.declared.value.Value.TheVariants.{Int}
use Rattle.sqlite_value.specs.Order.{Row as Values, value_cmp}
use Rattle.sqlite_value.proofs.OrderLemmas.{value_cmp_total}
use Rattle.sqlite_trees.specs.Tree.{put_row, rowid}
use Rattle.sqlite_trees.specs.View.{is_int}
use Rattle.sqlite_trees.proofs.TreeLemmas.{all-put_row}
use Rattle.sqlite_rules.specs.Edit.{is_taken, next_rowid}
use Rattle.sqlite.specs.Effect.{Database, IsDatabase}
use Rattle.dq_tables.specs.declared.row.Kind.{Kind}
use Rattle.dq_tables.specs.declared.row.Kind.TheVariants.{Study, Series, Image, Entry, Step}
use Rattle.dq_tables.specs.declared.row.Row.{Row}
use Rattle.dq_tables.specs.Rows.{number_of_kind, after_edit, Put, record_of, row_place_of, rows_elsewhere}
use Rattle.dq_tables.proofs.Lens.{rising_edit}
use Rattle.dq_sql.specs.Tie.{kind_in, is_set, row_of_cells, Holds, IsKeptRow, same_id, HasRows}
use Rattle.dq_sql.specs.Schema.{kept_schema}
use Rattle.dq_sql.specs.Cells.{flag, columns_of}
use Rattle.dq_sql.specs.RowWrites.{AddsRow}
use Rattle.dq_tables.proofs.Members.{put_has, free_is}
use Rattle.dq_sql.proofs.Inserts.{numbered_cells, Inserted}

put_step : (new x : Values) (rows : List Values) (o : Ordering) → value_cmp (rowid x) (rowid new) ≡ o → is_taken (x ∷ rows) new ≡ false
    → (is_taken rows new ≡ false → IsPermutation (put_row new rows) (new ∷ rows)) → IsPermutation (put_row new (x ∷ rows)) (new ∷ x ∷ rows)
put_step new x rows Less e free on =
    rw e (IsPermutation-trans _ _ _ (IsPermutation-cons x _ _ (on (rw e at free))) (IsPermutation-middle (x ∷ []) new rows))
put_step new x rows Equal e free on = absurd (let f = rw e at free in cc)
put_step new x rows Greater e free on = rw e (IsPermutation-refl (new ∷ x ∷ rows))

-- a row with a fresh rowid is one more
pub put_is : (new : Values) (rows : List Values) → is_taken rows new ≡ false → IsPermutation (put_row new rows) (new ∷ rows)
put_is new [] free = IsPermutation-refl (new ∷ [])
put_is new (x ∷ rows) free = put_step new x rows (value_cmp (rowid x) (rowid new)) refl free (put_is new rows)

not_either : (a b : Bool) → (a || b) ≡ false → (a ≡ false) × (b ≡ false)
not_either true b e = absurd cc
not_either false b e = (refl, e)

-- no row has the rowid of a fresh one
untaken : (new : Values) (rows : List Values) → is_taken rows new ≡ false → AllByRecursion (λ r. same_id r new ≡ false) rows
untaken new [] free = tt
untaken new (x ∷ rows) free = let both = not_either (same_id x new) (is_taken rows new) free in (both.0, untaken new rows both.1)

reversed : (o : Ordering) (a b : Values) → value_cmp (rowid a) (rowid b) ≡ o → is_eq o ≡ false → same_id b a ≡ false
reversed Less a b e h = ap is_eq (value_cmp_total.antisymm (rowid b) (rowid a)) ∙ rw e refl
reversed Equal a b e h = absurd cc
reversed Greater a b e h = ap is_eq (value_cmp_total.antisymm (rowid b) (rowid a)) ∙ rw e refl

pub apart_back : (a b : Values) → same_id a b ≡ false → same_id b a ≡ false
apart_back a b h = reversed (value_cmp (rowid a) (rowid b)) a b refl h

pub each : {X : Type 0} (P Q : X → Type 0) → ((x : X) → P x → Q x) → (xs : List X) → AllByRecursion P xs → AllByRecursion Q xs
each P Q f [] h = tt
each P Q f (x ∷ xs) h = (f x h.0, each P Q f xs h.1)

apart_step : (new x : Values) (rows : List Values) (o : Ordering) → value_cmp (rowid x) (rowid new) ≡ o → AllByRecursion (λ r. same_id r new ≡ false) (x ∷ rows)
    → IsDistinct same_id (x ∷ rows) → IsDistinct same_id (put_row new rows) → IsDistinct same_id (put_row new (x ∷ rows))
unfolding IsDistinct
apart_step new x rows Less e free apart on = rw e (all-put_row (λ r. same_id x r ≡ false) new rows free.0 apart.0, on)
apart_step new x rows Equal e free apart on = absurd (let f = rw e at free.0 in cc)
apart_step new x rows Greater e free apart on =
    rw e (each (λ r. same_id r new ≡ false) (λ r. same_id new r ≡ false) (λ r h. apart_back r new h) (x ∷ rows) free, apart)

apart_put : (new : Values) (rows : List Values) → AllByRecursion (λ r. same_id r new ≡ false) rows → IsDistinct same_id rows → IsDistinct same_id (put_row new rows)
unfolding IsDistinct
apart_put new [] free apart = (tt, tt)
apart_put new (x ∷ rows) free apart =
    apart_step new x rows (value_cmp (rowid x) (rowid new)) refl free apart (apart_put new rows free.1 apart.1)

pub kind_is : (kind : Kind) → kind_in (Int (pos (number_of_kind kind))) ≡ kind
kind_is Study = refl
kind_is Series = refl
kind_is Image = refl
kind_is Entry = refl
kind_is Step = refl

pub set_is : (started : Bool) → is_set (flag started) ≡ started
set_is true = refl
set_is false = refl

module _ (row : Row) (id : ℤ) where
  pub columns_kept : row_of_cells (Int id ∷ columns_of row) ≡ row
  columns_kept = λ i. let r : Row = record row { kind = kind_is row.kind i; started = set_is row.started i } in r

  columns_hold : Holds row (Int id ∷ columns_of row)
  columns_hold = record { kind = refl; inst = refl; key = refl; above = refl; patient = refl; day = refl; octets = refl; started = refl }

  -- A row is put among those that hold the rows at other places.
  pub placed : (d e : Database) (old : List Values) (rows : List Row) → HasRows d rows
      → e.schema ≡ kept_schema → IsDatabase e → e.trees 2 ≡ d.trees 2 → e.trees 0 ≡ put_row (Int id ∷ columns_of row) old → is_taken old (Int id ∷ columns_of row) ≡ false
      → IsDistinct same_id old → AllByRecursion (λ r. IsTrue (is_int (rowid r))) old → AllByRecursion IsKeptRow old
      → IsPermutation (map row_of_cells old) (rows_elsewhere (row_place_of row) rows)
      → HasRows e (after_edit row.inst (Put (record_of row)) rows)
  placed d e old rows has schema database version is fresh apart ids kept same =
      let new = Int id ∷ columns_of row in
      let is_kept : IsKeptRow new = subst (λ (x : Row). Holds x new) (sym columns_kept) columns_hold in
      let held : IsPermutation (map row_of_cells (put_row new old)) (row ∷ map row_of_cells old) =
      subst (λ (x : Row). IsPermutation (map row_of_cells (put_row new old)) (x ∷ map row_of_cells old)) columns_kept (IsPermutation-map row_of_cells _ _ (put_is new old fresh)) in
      record {
        version_is = record { schema = schema; says = rw version has.version_is.says };
        database = database;
        table = record {
          apart = rw is (apart_put new old (untaken new old fresh) apart);
          ids = rw is (all-put_row (λ r. IsTrue (is_int (rowid r))) new old refl ids);
          kept = rw is (all-put_row IsKeptRow new old is_kept kept);
          same = rw is (IsPermutation-trans _ _ _ held (IsPermutation-trans _ _ _ (IsPermutation-cons row _ _ same) (put_has row rows has.table.rising)));
          rising = rising_edit row.inst (Put (record_of row)) rows has.table.rising;
        };
      }

pub added : (d e : Database) (row : Row) → Inserted d e (numbered_cells d row) → AddsRow d e row
added d e row it rows has free =
    placed row (next_rowid (d.trees 0)) d e (d.trees 0) rows has it.schema it.database it.version it.rows it.fresh has.table.apart has.table.ids has.table.kept
    (subst (IsPermutation (map row_of_cells (d.trees 0))) (sym (free_is row.kind row.inst row.key rows free)) has.table.same)
