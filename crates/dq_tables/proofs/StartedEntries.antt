-- Entries that are started.
use Rattle.std.proofs.Common.{◌≡◌, ℕ, true, List, [], ◌∷◌, ◌++◌, set, slice_get, Option, Some, None, Result, Ok, Err, refl, sym, ◌∙◌, ap, subst, append-nil, arith}
use Rattle.std.specs.List.Sorted.{IsPermutation}
use Rattle.std.specs.Option.{option_map}
use Rattle.std.proofs.lemmas.Bool.{and_parts}
use Rattle.dq_list.specs.Among.{IsAmong}
use Rattle.dq_dataset.specs.declared.fault.ReadFault.{ReadFault}
use Rattle.dq_dataset.specs.Tree.{ElementList}
use Rattle.dq_tables.specs.declared.row.Kind.{Kind}
use Rattle.dq_tables.specs.declared.row.Kind.TheVariants.{Entry}
use Rattle.dq_tables.specs.declared.row.Row.{Row}
use Rattle.dq_tables.specs.Rows.{Record, Place, Put, Start, place, row_place_of, record_of, row_of, record_at, of, rows_before, rows_past, rows_elsewhere, after_edit, IsRising}
use Rattle.dq_tables.specs.Lookups.{row_at, IsAtIndex}
use Rattle.dq_tables.specs.Sound.{is_own_row, is_record_of, is_held}
use Rattle.dq_tables.proofs.Edits.{set_is}
use Rattle.dq_tables.proofs.RecordLists.{its_kind}
use Rattle.dq_tables.proofs.Members.{apart_is, free_is, one_inside, put_has, find_among}
use Rattle.dq_tables.proofs.OwnRows.{found_own}
use Rattle.dq_tables.proofs.EditPlaces.{stands_there, StandsAt}

abbrev pub started : Row → Row
started row = record row { started = true }

-- ---- of an edit

-- the record of an entry that is found, and where it stands
pub record IsFound (h key : List ℕ) (rows : List Row) (row : Row) : Type 0 where
  pub at : record_at Entry key (of h rows) ≡ Some (record_of row)
  pub kind_is : row.kind ≡ Entry
  pub inst_is : row.inst ≡ h
  pub key_is : row.key ≡ key

record_found : (h key : List ℕ) (rows : List Row) (row : Row) (o : Option Record) → record_at Entry key (of h rows) ≡ o
    → option_map (row_of h) o ≡ Some row → IsFound h key rows row
record_found h key rows row None at found = absurd (cc)
record_found h key rows row (Some r) at found =
    let same : row_of h r ≡ row = one_inside (row_of h r) row found in
    let stands = subst (StandsAt (record { kind = Entry; key = key })) at (stands_there (record { kind = Entry; key = key }) (of h rows)) in
    record {
      at = at ∙ ap (λ (x : Row). Some (record_of x)) same;
      kind_is = ap (λ (x : Row). x.kind) (sym same) ∙ ap (λ (p : Place). p.kind) stands;
      inst_is = ap (λ (x : Row). x.inst) (sym same);
      key_is = ap (λ (x : Row). x.key) (sym same) ∙ ap (λ (p : Place). p.key) stands;
    }

pub is_found : (h key : List ℕ) (rows : List Row) (row : Row) → row_at Entry h key rows ≡ Some row → IsFound h key rows row
is_found h key rows row found =
    record_found h key rows row (record_at Entry key (of h rows)) refl (sym (found_own Entry h key rows) ∙ found)

-- what stands where an entry is started
start_leaves : (h key : List ℕ) (rows : List Row) (row : Row) → IsFound h key rows row
    → after_edit h (Start key) rows ≡ (rows_before (place Entry h key) rows ++ started row ∷ []) ++ rows_past (place Entry h key) rows
unfolding after_edit
start_leaves h key rows row it = rw (it.at, ← it.inst_is) refl

-- An entry that is there is started by putting it as started.
pub start_is_put : (h key : List ℕ) (rows : List Row) (row : Row) → row_at Entry h key rows ≡ Some row
    → after_edit h (Start key) rows ≡ after_edit row.inst (Put (record_of (started row))) rows
unfolding after_edit
start_is_put h key rows row found = grind (arith, is_found, start_leaves)

-- An entry that is started is there, and those that are not at its place.
pub start_has : (h key : List ℕ) (row : Row) (rows : List Row) → IsRising rows → row_at Entry h key rows ≡ Some row
    → IsPermutation (started row ∷ rows_elsewhere (place Entry h key) rows) (after_edit h (Start key) rows)
start_has h key row rows rising found =
    let it = is_found h key rows row found in
    let there : place row.kind row.inst row.key ≡ place Entry h key = rw (it.kind_is, it.inst_is, it.key_is) refl in
    let as_put = put_has (started row) rows rising in
    subst (λ p. IsPermutation (started row ∷ rows_elsewhere p rows) (after_edit h (Start key) rows)) there
    (subst (IsPermutation (started row ∷ rows_elsewhere (row_place_of row) rows)) (sym (start_is_put h key rows row found)) as_put)

none_found : (h : List ℕ) (o : Option Record) → option_map (row_of h) o ≡ None → o ≡ None
none_found h None e = refl
none_found h (Some r) e = absurd (cc)

-- Where none is there, nothing changes.
pub start_of_none : (h key : List ℕ) (rows : List Row) → IsRising rows → row_at Entry h key rows ≡ None → after_edit h (Start key) rows ≡ rows
unfolding after_edit
start_of_none h key rows rising free = grind (arith, none_found, found_own, append-nil, apart_is, free_is)

-- by its index
pub starts_at : (h key : List ℕ) (rows : List Row) (at : ℕ) (row : Row) → IsAtIndex (place Entry h key) rows at → slice_get rows at ≡ Some row
    → set rows at (started row) ≡ after_edit h (Start key) rows
starts_at h key rows at row there here =
    set_is rows at (started row) there.within ∙ rw (there.before, there.past) (sym (start_leaves h key rows row (is_found h key rows row (there.found ∙ here))))

-- ---- of sound rows

started_record : (r : Result ElementList ReadFault) (row : Row) → is_record_of r (started row) ≡ is_record_of r row
started_record (Ok d) row = refl
started_record (Err fault) row = refl

pub started_own : (row : Row) → row.kind ≡ Entry → is_own_row row ≡ true → is_own_row (started row) ≡ true
unfolding is_own_row
started_own row kind own = grind (arith, its_kind, started_record, and_parts)

pub entry_held : (rows : List Row) (kind : Kind) (h above : List ℕ) → kind ≡ Entry → is_held rows kind h above ≡ true
unfolding is_held
entry_held rows kind h above e = rw e refl

keeps_found : (P : List Row → Type 0) (h key : List ℕ) (rows : List Row) → IsRising rows → P rows
    → ((row : Row) → row.kind ≡ Entry → IsAmong row rows → P (after_edit row.inst (Put (record_of (started row))) rows))
    → (o : Option Row) → row_at Entry h key rows ≡ o → P (after_edit h (Start key) rows)
unfolding row_at
keeps_found P h key rows rising holds put None e = subst P (sym (start_of_none h key rows rising e)) holds
keeps_found P h key rows rising holds put (Some row) e =
    subst P (sym (start_is_put h key rows row e)) (put row (is_found h key rows row e).kind_is (find_among _ row rows e).0)

-- what holds of the rows, and of them with an entry put as started, holds after it is started
pub start_keeps : (P : List Row → Type 0) (h key : List ℕ) (rows : List Row) → IsRising rows → P rows
    → ((row : Row) → row.kind ≡ Entry → IsAmong row rows → P (after_edit row.inst (Put (record_of (started row))) rows))
    → P (after_edit h (Start key) rows)
start_keeps P h key rows rising holds put = keeps_found P h key rows rising holds put (row_at Entry h key rows) refl
