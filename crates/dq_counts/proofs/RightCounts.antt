-- Counts of rows stay right through changes.
use Rattle.std.proofs.Common.{◌≡◌, ℕ, suc, Bool, true, false, not, List, [], ◌∷◌, ◌++◌, map, length, get_or, IfSome, if◌then◌else◌, Option, None, Some, is_some, refl, sym, ap, subst, ◌∙◌}
use Rattle.std.specs.List.Sorted.{IsPermutation}
use Rattle.std.proofs.lemmas.Bool.{and_parts}
use Rattle.std.proofs.lemmas.List.Sorted.{sum_by-IsPermutation, IsPermutation-filter_both}
use Rattle.std.proofs.lemmas.List.Sums.{length-filter}
use Rattle.std.proofs.lemmas.Slice.Eq.{bytes_eq-Decides}
use Rattle.dq_tables.specs.declared.row.Kind.{Kind}
use Rattle.dq_tables.specs.declared.row.Kind.TheVariants.{Study, Series, Image, Entry, Step}
use Rattle.dq_tables.specs.declared.row.Row.{Row}
use Rattle.dq_tables.specs.declared.change.Change.TheVariants.{Stored, EntryRemoved, StepAdded, StepChanged}
use Rattle.dq_tables.specs.Rows.{IsRising, IsOf, place, rows_elsewhere, after, after_edit, after_edits, operation_of, put_if, Put, Start, record_of}
use Rattle.dq_tables.specs.Lookups.{row_at, is_of_kind, rows_of}
use Rattle.dq_tables.specs.Sound.{IsNew, IsNewIf, FitsStored, FitsStep, MayReplace}
use Rattle.dq_tables.proofs.Order.{is_at}
use Rattle.dq_tables.proofs.Lens.{rising_edit}
use Rattle.dq_tables.proofs.RecordLists.{one_kind, its_kind}
use Rattle.dq_tables.proofs.Members.{put_has, added_has, removed_has, one_at, find_among}
use Rattle.dq_tables.proofs.Soundness.{stored_is}
use Rattle.dq_tables.proofs.StartedEntries.{started, is_found, start_is_put, start_of_none}
use Rattle.dq_counts.specs.declared.counts.Count.{Count}
use Rattle.dq_counts.specs.declared.counts.Counts.{Counts}
use Rattle.dq_counts.specs.Counts.{IsRight, AreRight, with_one_more}

abbrev count_of : Kind → List ℕ → List Row → ℕ
count_of kind inst rows = length (rows_of kind inst rows)

-- a row of the kind and the institution is one more
pub one_more : (kind : Kind) (inst : List ℕ) (row : Row) (rows : List Row) → row.kind ≡ kind → row.inst ≡ inst
    → length (rows_of kind inst (row ∷ rows)) ≡ suc (length (rows_of kind inst rows))
unfolding rows_of
one_more kind inst row rows p q = rw (its_kind row.kind kind p, (bytes_eq-Decides row.inst inst).1 q) refl

is_of : (kind : Kind) (inst : List ℕ) (row : Row) → is_of_kind kind inst row ≡ true → (row.kind ≡ kind) × (row.inst ≡ inst)
is_of kind inst row e = let parts = and_parts _ _ e in (one_kind row.kind kind parts.0, (bytes_eq-Decides row.inst inst).0 parts.1)

others_step : (kind : Kind) (inst : List ℕ) (row : Row) (rows : List Row) (b : Bool) → is_of_kind kind inst row ≡ b → ¬ ((row.kind ≡ kind) × (row.inst ≡ inst))
    → length (rows_of kind inst (row ∷ rows)) ≡ length (rows_of kind inst rows)
unfolding rows_of
others_step kind inst row rows true e other = absurd (other (is_of kind inst row e))
others_step kind inst row rows false e other = rw e refl

-- another row is none
pub no_more : (kind : Kind) (inst : List ℕ) (row : Row) (rows : List Row) → ¬ ((row.kind ≡ kind) × (row.inst ≡ inst))
    → length (rows_of kind inst (row ∷ rows)) ≡ length (rows_of kind inst rows)
no_more kind inst row rows other = others_step kind inst row rows (is_of_kind kind inst row) refl other

-- two lists that have as many rows of each kind and institution
abbrev AreAsMany : List Row → List Row → Type 0
AreAsMany xs ys = (kind : Kind) (inst : List ℕ) → count_of kind inst xs ≡ count_of kind inst ys

moved : (xs ys : List Row) → IsPermutation xs ys → AreAsMany xs ys
unfolding rows_of
moved xs ys h kind inst =
    let test = is_of_kind kind inst in
    length-filter test xs ∙ sym (sum_by-IsPermutation _ xs ys h) ∙ sym (length-filter test ys)

-- counts are right of other rows that are as many
right_of : (xs ys : List Row) (counts : Counts) → AreAsMany xs ys → AreRight xs counts → AreRight ys counts
right_of xs ys counts same right i d low = as_right (get_or counts.known.items i d) (right i d low)
  where
    same_number : (number : Option ℕ) (m n : ℕ) → m ≡ n → IfSome number (λ k. k ≡ m) → IfSome number (λ k. k ≡ n)
    same_number None m n e h = tt
    same_number (Some k) m n e h = h ∙ e

    as_right : (count : Count) → IsRight xs count → IsRight ys count
    as_right count h = same_number count.number _ _ (same count.kind count.institution) h

counted_if : (b : Bool) (x : Row) (rows : List Row) → length (if b then x ∷ rows else rows) ≡ (if b then suc (length rows) else length rows)
counted_if true x rows = refl
counted_if false x rows = refl

-- rows of one kind and institution count the same
alike : (x y : Row) (rows : List Row) → x.kind ≡ y.kind → x.inst ≡ y.inst → AreAsMany (x ∷ rows) (y ∷ rows)
unfolding rows_of
alike x y rows p q kind inst =
    let same : is_of_kind kind inst x ≡ is_of_kind kind inst y = rw (p, q) refl in
    let others = rows_of kind inst rows in
    counted_if (is_of_kind kind inst x) x others ∙ ap (λ (b : Bool). if b then suc (length others) else length others) same
    ∙ sym (counted_if (is_of_kind kind inst y) y others)

-- a row that is found at a place is of its kind and institution, and the rows are it and those elsewhere
record FoundRow (kind : Kind) (inst key : List ℕ) (rows : List Row) : Type 0 where
  row : Row
  of : (row.kind ≡ kind) × (row.inst ≡ inst)
  first : AreAsMany rows (row ∷ rows_elsewhere (place kind inst key) rows)

found : (kind : Kind) (inst key : List ℕ) (rows : List Row) → IsRising rows → (o : Option Row) → row_at kind inst key rows ≡ o → is_some o ≡ true
    → FoundRow kind inst key rows
unfolding row_at
found kind inst key rows rising None at there = absurd cc
found kind inst key rows rising (Some row) at there =
    let p = place kind inst key in
    let both = IsPermutation-filter_both (is_at p) (λ x. not (is_at p x)) (λ x. refl) rows in
    record {
      row = row;
      of = is_of kind inst row (and_parts _ _ (find_among _ row rows at).1).0;
      first = moved _ _ (subst (λ (l : List Row). IsPermutation rows (l ++ rows_elsewhere p rows)) (one_at p rows row rising at) both);
    }

module _ (rows : List Row) (rising : IsRising rows) where
  -- a row that is put at a free place is one more
  pub new_right : (kind : Kind) (row : Row) (counts : Counts) → IsNew rows kind row → AreRight (row ∷ rows) counts → AreRight (after_edit row.inst (Put (record_of row)) rows) counts
  new_right kind row counts new =
      let free = subst (λ (k : Kind). row_at k row.inst row.key rows ≡ None) (sym new.kind_is) new.free in
      right_of _ _ counts (moved _ _ (added_has row rows rising free))

  new_if_right : (h : List ℕ) (kind : Kind) (row : Option Row) (counts : Counts) → IsOf h row → IsNewIf rows kind row → AreRight (with_one_more row rows) counts
      → AreRight (after_edits h (put_if row) rows) counts
  new_if_right h kind None counts own new right = right
  new_if_right h kind (Some row) counts own new right =
      subst (λ (g : List ℕ). AreRight (after_edit g (Put (record_of row)) rows) counts) own (new_right kind row counts new right)

  rising_if : (h : List ℕ) (row : Option Row) → IsRising (after_edits h (put_if row) rows)
  rising_if h None = rising
  rising_if h (Some row) = rising_edit h (Put (record_of row)) rows rising

  -- a row that takes the place of another is neither
  put_right : (row : Row) (counts : Counts) → is_some (row_at row.kind row.inst row.key rows) ≡ true → AreRight rows counts
      → AreRight (after_edit row.inst (Put (record_of row)) rows) counts
  put_right row counts there =
      let it = found row.kind row.inst row.key rows rising _ refl there in
      let others = rows_elsewhere (place row.kind row.inst row.key) rows in
      right_of _ _ counts (λ kind inst. it.first kind inst ∙ alike it.row row others it.of.0 it.of.1 kind inst ∙ moved _ _ (put_has row rows rising) kind inst)

  started_right : (h key : List ℕ) (counts : Counts) → AreRight rows counts → (o : Option Row) → row_at Entry h key rows ≡ o
      → AreRight (after_edit h (Start key) rows) counts
  started_right h key counts right None e = subst (λ (l : List Row). AreRight l counts) (sym (start_of_none h key rows rising e)) right
  started_right h key counts right (Some row) e =
      let it = is_found h key rows row e in
      let there : is_some (row_at row.kind row.inst row.key rows) ≡ true = rw (it.kind_is, it.inst_is, it.key_is, e) refl in
      subst (λ (l : List Row). AreRight l counts) (sym (start_is_put h key rows row e)) (put_right (started row) counts there right)

-- an image, with its study and its series where they are new
pub stored_right : (study series : Option Row) (image : Row) (rows : List Row) (c1 c2 c3 : Counts) → IsRising rows → FitsStored rows study series image
    → AreRight (with_one_more study rows) c1
    → ((rows : List Row) → AreRight rows c1 → AreRight (with_one_more series rows) c2)
    → ((rows : List Row) → AreRight rows c2 → AreRight (image ∷ rows) c3)
    → AreRight (after (operation_of (Stored study series image)) rows) c3
stored_right study series image rows c1 c2 c3 rising fits right more most =
    let h = image.inst in
    let one = after_edits h (put_if study) rows in
    let two = after_edits h (put_if series) one in
    let rising1 = rising_if rows rising h study in
    let rising2 = rising_if one rising1 h series in
    let first = new_if_right rows rising h Study study c1 fits.study_of fits.study_new right in
    let second = new_if_right one rising1 h Series series c2 fits.series_of fits.series_new (more one first) in
    subst (λ (l : List Row). AreRight l c3) (sym (stored_is rows study series image))
    (new_right two rising2 Image image c3 fits.image_new (most two second))

-- an entry that is removed is one less
pub gone_right : (inst key : List ℕ) (rows : List Row) (c1 c2 : Counts) → IsRising rows → is_some (row_at Entry inst key rows) ≡ true → AreRight rows c1
    → ((row : Row) (rows : List Row) → row.kind ≡ Entry → row.inst ≡ inst → AreRight (row ∷ rows) c1 → AreRight rows c2)
    → AreRight (after (operation_of (EntryRemoved inst key)) rows) c2
gone_right inst key rows c1 c2 rising there right less =
    let it = found Entry inst key rows rising _ refl there in
    subst (λ (l : List Row). AreRight l c2) (sym (removed_has Entry inst key rows rising))
    (less it.row _ it.of.0 it.of.1 (right_of _ _ c1 it.first right))

pub changed_right : (row : Row) (rows : List Row) (counts : Counts) → IsRising rows → MayReplace rows Step row → AreRight rows counts
    → AreRight (after (operation_of (StepChanged row)) rows) counts
changed_right row rows counts rising fits =
    put_right rows rising row counts (subst (λ (k : Kind). is_some (row_at k row.inst row.key rows) ≡ true) (sym fits.kind_is) fits.there)

starts_right : (h : List ℕ) (keys : List (List ℕ)) (rows : List Row) (counts : Counts) → IsRising rows → AreRight rows counts
    → AreRight (after_edits h (map Start keys) rows) counts
starts_right h [] rows counts rising right = right
starts_right h (key ∷ keys) rows counts rising right =
    starts_right h keys (after_edit h (Start key) rows) counts (rising_edit h (Start key) rows rising)
    (started_right rows rising h key counts right (row_at Entry h key rows) refl)

-- a step is one more, and entries that it starts are neither
pub step_right : (row : Row) (keys : List (List ℕ)) (rows : List Row) (counts : Counts) → IsRising rows → FitsStep rows row keys → AreRight (row ∷ rows) counts
    → AreRight (after (operation_of (StepAdded row keys)) rows) counts
step_right row keys rows counts rising fits right =
    starts_right row.inst keys (after_edit row.inst (Put (record_of row)) rows) counts (rising_edit row.inst (Put (record_of row)) rows rising)
    (new_right rows rising Step row counts fits.step_new right)
