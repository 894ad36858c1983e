-- The rows that the tables hold once the row at a place is replaced, or removed.
use Rattle.std.proofs.Common.{◌≡◌, inl, inr, ℕ, ℤ, pos, List, [], ◌∷◌, map, length, drop, Bool, true, false, not, ◌&&◌, filter, if◌then◌else◌, IsTrue, refl, sym, ap, subst, ◌∙◌}
use Rattle.std.specs.List.{AllByRecursion, IsDistinct}
use Rattle.std.specs.Ordering.{is_eq, ordering_then}
use Rattle.std.specs.List.Sorted.{IsPermutation}
use Rattle.std.proofs.lemmas.List.Sorted.{length_permutation}
use Rattle.std.proofs.lemmas.Map.Text.{is_eq-slice_cmp}
use Rattle.std.proofs.lemmas.Slice.Eq.{bytes_eq-Decides}
use Rattle.sqlite_value.specs.declared.value.Value.TheVariants.{Int, Text, Blob}
use Rattle.sqlite_value.specs.Order.{Row as Values}
use Rattle.sqlite_trees.specs.Tree.{rowid, put_row}
use Rattle.sqlite_trees.specs.View.{is_int}
use Rattle.sqlite_sql.specs.Term.{Term, eval_all}
use Rattle.sqlite_rules.specs.Calls.{ids_of}
use Rattle.sqlite_rules.specs.Cast.{cast_row}
use Rattle.sqlite_rules.specs.Edit.{id_in, without_all, put_all, are_fresh, is_taken}
use Rattle.sqlite.specs.Effect.{Database}
use Rattle.sqlite.proofs.Callers.{one_permutation}
use Rattle.dq_tables.specs.declared.row.Kind.{Kind}
use Rattle.dq_tables.specs.declared.row.Kind.TheVariants.{Entry}
use Rattle.dq_tables.specs.declared.row.Row.{Row}
use Rattle.dq_tables.specs.Rows.{RowPlace, place, row_place_of, number_of_kind, after_edit, Put, Remove, Start, record_of, kind_order, octet_order}
use Rattle.dq_tables.proofs.Order.{is_at, each_filtered, each_passed}
use Rattle.dq_tables.proofs.InOrder.{is_eq_then, is_eq_nat, row_at_is}
use Rattle.dq_tables.proofs.RecordLists.{one_kind}
use Rattle.dq_tables.proofs.Lens.{rising_edit}
use Rattle.dq_sql.specs.declared.version.Version.TheVariants.{Two}
use Rattle.dq_sql.specs.Schema.{kept_table}
use Rattle.dq_sql.specs.Cells.{patient_cell, day_cell, flag, columns_of}
use Rattle.dq_sql.specs.Tie.{row_of_cells, IsKeptRow, same_id, TableHoldsRows, HasRows}
use Rattle.dq_sql.specs.RowWrites.{Replaces, Removes, Starts}
use Rattle.dq_sql.proofs.Statements.{changed, begun}
use Rattle.dq_tables.proofs.Members.{removed_has}
use Rattle.dq_tables.proofs.StartedEntries.{started, start_is_put, start_of_none}
use Rattle.dq_tables.specs.Labels as labels
use Rattle.dq_sql.proofs.Inserts.{cast-Int, day_cast, not_so}
use Rattle.dq_sql.proofs.AddedRows.{placed}
use Rattle.dq_sql.proofs.RowsByPlace.{holds_at, one_found, one_there, none_at, nothing_found, is_found, others_same, none_others, none_if, named, int_of}
use Rattle.dq_sql.proofs.UpdatesAndDeletes.{at_params, Deleted, Updated}

apart_filter : (p : Values → Bool) (xs : List Values) → IsDistinct same_id xs → IsDistinct same_id (filter p xs)
unfolding IsDistinct
apart_filter p [] h = tt
apart_filter p (x ∷ xs) h = elim (p x) as (λ b. IsDistinct same_id (if b then x ∷ filter p xs else filter p xs)) [
  | true ↦ (each_filtered _ p xs h.0, apart_filter p xs h.1)
  | false ↦ apart_filter p xs h.1
]

pub both : (a b : Bool) → (a && b) ≡ true → (a ≡ true) × (b ≡ true)
both true b e = (refl, e)
both false b e = absurd cc

pub record IsAtPlace (p : RowPlace) (row : Row) : Type 0 where
  pub kind : row.kind ≡ p.kind
  pub institution : row.inst ≡ p.institution
  pub key : row.key ≡ p.key

-- a row that is at a place has its kind, institution and key
pub at_place : (p : RowPlace) (row : Row) → is_at p row ≡ true → IsAtPlace p row
at_place p row h =
    let first = both (is_eq (ordering_then (kind_order row.kind p.kind) (octet_order row.inst p.institution))) (is_eq (octet_order row.key p.key))
    (sym (is_eq_then (ordering_then (kind_order row.kind p.kind) (octet_order row.inst p.institution)) (octet_order row.key p.key)) ∙ h) in
    let second = both (is_eq (kind_order row.kind p.kind)) (is_eq (octet_order row.inst p.institution))
    (sym (is_eq_then (kind_order row.kind p.kind) (octet_order row.inst p.institution)) ∙ first.0) in
    record {
      kind = one_kind row.kind p.kind (sym (is_eq_nat (number_of_kind row.kind) (number_of_kind p.kind)) ∙ second.0);
      institution = (bytes_eq-Decides row.inst p.institution).0 (sym (is_eq-slice_cmp row.inst p.institution) ∙ second.1);
      key = (bytes_eq-Decides row.key p.key).0 (sym (is_eq-slice_cmp row.key p.key) ∙ first.1);
    }

module _ (p : RowPlace) (d : Database) (rows : List Row) (has : HasRows d rows) where
  t : List Values
  t = d.trees 0

  the_id : (x : Values) → filter (holds_at p) (d.trees 0) ≡ x ∷ [] → rowid x ≡ Int (id_in (rowid x))
  the_id x one = int_of (rowid x) (subst (AllByRecursion (λ r. IsTrue (is_int (rowid r)))) one (each_filtered _ (holds_at p) (d.trees 0) has.table.ids)).0

  is_kept : (x : Values) → filter (holds_at p) (d.trees 0) ≡ x ∷ [] → IsKeptRow x
  is_kept x one = (subst (AllByRecursion IsKeptRow) one (each_filtered IsKeptRow (holds_at p) (d.trees 0) has.table.kept)).0

  is_there : (x : Values) → filter (holds_at p) (d.trees 0) ≡ x ∷ [] → IsAtPlace p (row_of_cells x)
  is_there x one =
      at_place p (row_of_cells x) (subst (AllByRecursion (λ r. holds_at p r ≡ true)) one (each_passed (λ r. holds_at p r ≡ true) (holds_at p) (λ r h. h) (d.trees 0))).0

  -- the one row that is found has the id
  shown_one : (f : Values → Values) (found : List Values) (x : Values) → IsPermutation (map f (filter (holds_at p) (d.trees 0))) found
      → filter (holds_at p) (d.trees 0) ≡ x ∷ [] → found ≡ f x ∷ []
  shown_one f found x shown one = one_permutation (f x) found (subst (λ l. IsPermutation (map f l) found) one shown)

  shown_none : (f : Values → Values) (found : List Values) → IsPermutation (map f (filter (holds_at p) (d.trees 0))) found
      → filter (holds_at p) (d.trees 0) ≡ [] → found ≡ []
  shown_none f found shown none = none_if found (length_permutation _ _ shown ∙ ap (λ l. length (map f l)) none)

pub removed : (d e : Database) (kind : Kind) (institution key : List ℕ) → Deleted d e kind institution key → Removes d e kind institution key
removed d e kind institution key it rows has =
    let p = place kind institution key in
    let q = holds_at p in
    let f : Values → Values = λ r. rowid r ∷ [] in
    let left : e.trees 0 ≡ filter (λ r. not (q r)) (d.trees 0) = it.edits.rows ∙ elim (one_found p (d.trees 0) rows has.table.same has.table.rising) [
      | inl none ↦ ap (λ l. without_all (d.trees 0) (ids_of l)) (shown_none p d rows has f it.found it.shown none) ∙ sym (none_others q (d.trees 0) none)
      | inr one ↦ ap (λ l. without_all (d.trees 0) (ids_of l)) (shown_one p d rows has f it.found one.0 it.shown one.1)
          ∙ named q one.0 (id_in (rowid one.0)) (the_id p d rows has one.0 one.1) (d.trees 0) has.table.apart one.1
    ] in
    record {
      version_is = record { schema = it.edits.schema; says = rw it.edits.version has.version_is.says };
      database = it.edits.database;
      table = record {
        apart = rw left (apart_filter _ (d.trees 0) has.table.apart);
        ids = rw left (each_filtered _ _ (d.trees 0) has.table.ids);
        kept = rw left (each_filtered IsKeptRow _ (d.trees 0) has.table.kept);
        same = rw left (subst (IsPermutation (map row_of_cells (filter (λ r. not (q r)) (d.trees 0)))) (sym (removed_has kind institution key rows has.table.rising)) (others_same p (d.trees 0) rows has.table.same));
        rising = rising_edit institution (Remove kind key) rows has.table.rising;
      };
    }

-- the columns of a row are cast to what they are
recast : (row : Row) (id : ℤ) → cast_row (kept_table Two) (Int id ∷ columns_of row) ≡ Int id ∷ columns_of row
recast row id = rw (cast-Int, cast-Int, cast-Int, day_cast row) refl

-- The one row at a place is taken out, and put in as another row of the place.
moved_one : (d e : Database) (row : Row) (params : Values) (project : List Term) (it : Updated d e (row_place_of row) params project) (rows : List Row) (has : HasRows d rows)
    (x : Values) → filter (holds_at (row_place_of row)) (d.trees 0) ≡ x ∷ [] → eval_all project (params ∷ x ∷ []) ≡ rowid x ∷ Int (id_in (rowid x)) ∷ columns_of row
    → HasRows e (after_edit row.inst (Put (record_of row)) rows)
moved_one d e row params project it rows has x one shows =
    let p = row_place_of row in
    let q = holds_at p in
    let f : Values → Values = λ r. eval_all project (params ∷ r ∷ []) in
    let recasts : List Values → List Values = map (λ s. cast_row (kept_table Two) (drop 1 s)) in
    let id = id_in (rowid x) in
    let new = Int id ∷ columns_of row in
    let left = filter (λ r. not (q r)) (d.trees 0) in
    let found : it.found ≡ (rowid x ∷ new) ∷ [] = shown_one p d rows has f it.found x it.shown one ∙ ap (λ s. s ∷ []) shows in
    let news : recasts it.found ≡ new ∷ [] = ap recasts found ∙ ap (λ r. r ∷ []) (recast row id) in
    let base : without_all (d.trees 0) (ids_of it.found) ≡ left =
    ap (λ l. without_all (d.trees 0) (ids_of l)) found ∙ named q x id (the_id p d rows has x one) (d.trees 0) has.table.apart one in
    let is : e.trees 0 ≡ put_row new left = it.edits.rows ∙ ap (λ l. put_all l (recasts it.found)) base ∙ ap (put_all left) news in
    let fresh : are_fresh left (new ∷ []) ≡ true =
    sym (ap (λ l. are_fresh l (recasts it.found)) base ∙ ap (are_fresh left) news) ∙ it.edits.fresh in
    placed row id d e left rows has it.edits.schema it.edits.database it.edits.version is (not_so (is_taken left new) fresh)
    (apart_filter _ (d.trees 0) has.table.apart) (each_filtered _ _ (d.trees 0) has.table.ids) (each_filtered IsKeptRow _ (d.trees 0) has.table.kept)
    (others_same p (d.trees 0) rows has.table.same)

pub replaced : (d e : Database) (row : Row) → Updated d e (row_place_of row) (columns_of row) changed → Replaces d e row
replaced d e row it rows has there =
    let p = row_place_of row in
    elim (one_found p (d.trees 0) rows has.table.same has.table.rising) [
      | inl none ↦ absurd (is_found p (d.trees 0) rows has.table.same there none)
      | inr one ↦ moved_one d e row (columns_of row) changed it rows has one.0 one.1 (shows one.0 one.1)
    ]
  where
    shows : (x : Values) → filter (holds_at (row_place_of row)) (d.trees 0) ≡ x ∷ [] → eval_all changed (columns_of row ∷ x ∷ []) ≡ rowid x ∷ Int (id_in (rowid x)) ∷ columns_of row
    shows x one =
        let p = row_place_of row in
        let kept = is_kept p d rows has x one in
        let at = is_there p d rows has x one in
        let id = the_id p d rows has x one in
        let kind = kept.kind ∙ ap (λ k. Int (pos (number_of_kind k))) at.kind in
        let inst = kept.inst ∙ ap Text at.institution in
        let key = kept.key ∙ ap Blob at.key in
        λ i. rowid x ∷ id i ∷ kind i ∷ inst i ∷ key i ∷ Blob row.above ∷ patient_cell row ∷ day_cell row ∷ Blob row.octets ∷ flag row.started ∷ []

-- ---- an entry that is started

begun_shows : (x : Values) (id : ℤ) → rowid x ≡ Int id → IsKeptRow x → (params : Values) → eval_all begun (params ∷ x ∷ []) ≡ rowid x ∷ Int id ∷ columns_of (started (row_of_cells x))
unfolding patient_cell day_cell labels.patient_of labels.day_of
begun_shows x id is kept params =
    λ i. rowid x ∷ is i ∷ kept.kind i ∷ kept.inst i ∷ kept.key i ∷ kept.above i ∷ kept.patient i ∷ kept.day i ∷ kept.octets i ∷ Int (pos 1) ∷ []

module _ (d e : Database) (institution key : List ℕ) (it : Updated d e (place Entry institution key) (at_params Entry institution key) begun) (rows : List Row) (has : HasRows d rows) where
  abbrev p : RowPlace
  p = place Entry institution key

  unmoved : filter (holds_at p) (d.trees 0) ≡ [] → HasRows e (after_edit institution (Start key) rows)
  unmoved none =
      let f : Values → Values = λ r. eval_all begun (at_params Entry institution key ∷ r ∷ []) in
      let free = row_at_is p rows ∙ nothing_found (is_at p) rows (none_at p (d.trees 0) rows has.table.same none) in
      let nothing = shown_none p d rows has f it.found it.shown none in
      let is : e.trees 0 ≡ d.trees 0 =
      it.edits.rows ∙ ap (λ l. put_all (without_all (d.trees 0) (ids_of l)) (map (λ s. cast_row (kept_table Two) (drop 1 s)) l)) nothing in
      subst (HasRows e) (sym (start_of_none institution key rows has.table.rising free)) (record {
        version_is = record { schema = it.edits.schema; says = rw it.edits.version has.version_is.says };
        database = it.edits.database;
        table = subst (λ t. TableHoldsRows t rows) (sym is) has.table;
      })

  moved : (x : Values) → filter (holds_at p) (d.trees 0) ≡ x ∷ [] → HasRows e (after_edit institution (Start key) rows)
  moved x one =
      let row = started (row_of_cells x) in
      let at = is_there p d rows has x one in
      let there : row_place_of row ≡ p = λ i. place (at.kind i) (at.institution i) (at.key i) in
      let found = one_there p (d.trees 0) rows has.table.same x one in
      subst (HasRows e) (sym (start_is_put institution key rows (row_of_cells x) found))
      (moved_one d e row (at_params Entry institution key) begun (subst (λ q. Updated d e q (at_params Entry institution key) begun) (sym there) it) rows has x
      (subst (λ q. filter (holds_at q) (d.trees 0) ≡ x ∷ []) (sym there) one)
      (begun_shows x (id_in (rowid x)) (the_id p d rows has x one) (is_kept p d rows has x one) (at_params Entry institution key)))

pub begun_starts : (d e : Database) (institution key : List ℕ) → Updated d e (place Entry institution key) (at_params Entry institution key) begun
    → Starts d e institution key
begun_starts d e institution key it rows has =
    elim (one_found (place Entry institution key) (d.trees 0) rows has.table.same has.table.rising) [
      | inl none ↦ unmoved d e institution key it rows has none
      | inr one ↦ moved d e institution key it rows has one.0 one.1
    ]
