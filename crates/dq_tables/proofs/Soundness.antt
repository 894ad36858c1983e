-- Sound rows stay sound.
use Rattle.std.proofs.Common.{◌≡◌, ℕ, Bool, true, false, ◌+◌, ◌<◌, List, [], ◌∷◌, ◌++◌, map, length, take, get_or, Option, Some, None, is_some, find, refl, sym, ◌∙◌, ap, subst, ◌⊎◌, inl, inr, if◌then◌else◌, arith}
use Rattle.std.specs.declared.cmp.Ordering.{Ordering}
use Rattle.std.specs.declared.cmp.Ordering.TheVariants.{Less, Equal, Greater}
use Rattle.std.specs.Ordering.{is_eq}
use Rattle.std.specs.List.{AllByRecursion}
use Rattle.std.proofs.lemmas.List.{map_more}
use Rattle.dq_tables.specs.declared.row.Kind.{Kind}
use Rattle.dq_tables.specs.declared.row.Kind.TheVariants.{Study, Series, Image, Entry, Step}
use Rattle.dq_tables.specs.declared.row.Row.{Row}
use Rattle.dq_tables.specs.declared.change.Change.{Change}
use Rattle.dq_tables.specs.declared.change.Change.TheVariants.{Stored, EntryAdded, EntryRemoved, StepAdded, StepChanged}
use Rattle.dq_tables.specs.Rows.{RowPlace, row_place_of, row_place_order, place, rows_before, rows_past, Edit, Put, Remove, Start, record_of, row_of, after_edit, after_edits, after, operation_of, put_if, IsOf, records_after_edit, of, within}
use Rattle.dq_tables.specs.Lookups.{row_at}
use Rattle.dq_tables.specs.Sound.{IsSound, HeldEach, is_own_row, is_held, IsNew, IsNewIf, MayReplace, ChangeFits, FitsStored}
use Rattle.dq_tables.proofs.Order.{rows_total, is_at, is_before, is_past, each_filtered, each_appended, each_weaker}
use Rattle.dq_tables.proofs.InOrder.{row_at_is}
use Rattle.dq_tables.proofs.Lens.{rising_edit}
use Rattle.dq_tables.proofs.RisingLists.{each_among}
use Rattle.dq_tables.proofs.StartedEntries.{started, start_keeps, started_own, entry_held}

some_left_step : {X : Type 0} (t : X → Bool) (x : X) (xs ys : List X) (b : Bool) → (is_some (find t xs) ≡ true → is_some (find t (xs ++ ys)) ≡ true)
    → is_some (if b then Some x else find t xs) ≡ true → is_some (if b then Some x else find t (xs ++ ys)) ≡ true
some_left_step t x xs ys true rest h = refl
some_left_step t x xs ys false rest h = rest h

some_left : {X : Type 0} (t : X → Bool) (xs ys : List X) → is_some (find t xs) ≡ true → is_some (find t (xs ++ ys)) ≡ true
some_left t [] ys h = cc
some_left t (x ∷ xs) ys h = some_left_step t x xs ys (t x) (some_left t xs ys) h

some_right : {X : Type 0} (t : X → Bool) (xs ys : List X) → is_some (find t ys) ≡ true → is_some (find t (xs ++ ys)) ≡ true
some_right t [] ys h = h
some_right t (x ∷ xs) ys h = elim (t x) as (λ b. is_some (if b then Some x else find t (xs ++ ys)) ≡ true) [ true ↦ refl | false ↦ some_right t xs ys h ]

-- a row that passes stands before a place, past it, or at it
abbrev Parts : (Row → Bool) → RowPlace → List Row → Type 0
Parts t p rows =
    (is_some (find t (rows_before p rows)) ≡ true) ⊎ ((is_some (find t (rows_past p rows)) ≡ true)
    ⊎ ((x : Row) × (t x ≡ true) × (row_place_order (row_place_of x) p ≡ Equal)))

parts_here : (t : Row → Bool) (p : RowPlace) (row : Row) (rows : List Row) (o : Ordering) → row_place_order (row_place_of row) p ≡ o → t row ≡ true
    → Parts t p (row ∷ rows)
parts_here t p row rows Less e h = inl (rw (e, h) refl)
parts_here t p row rows Equal e h = inr (inr (row, h, e))
parts_here t p row rows Greater e h = inr (inl (rw (e, h) refl))

more_some : {X : Type 0} (t : X → Bool) (b : Bool) (x : X) (xs : List X) → is_some (find t xs) ≡ true → is_some (find t (if b then x ∷ xs else xs)) ≡ true
more_some t true x xs h = some_right t (x ∷ []) xs h
more_some t false x xs h = h

parts_later : (t : Row → Bool) (p : RowPlace) (row : Row) (rows : List Row) → Parts t p rows → Parts t p (row ∷ rows)
parts_later t p row rows (inl h) = inl (more_some t (is_before p row) row (rows_before p rows) h)
parts_later t p row rows (inr (inl h)) = inr (inl (more_some t (is_past p row) row (rows_past p rows) h))
parts_later t p row rows (inr (inr h)) = inr (inr h)

parts_step : (t : Row → Bool) (p : RowPlace) (row : Row) (rows : List Row) (b : Bool) → t row ≡ b → (is_some (find t rows) ≡ true → Parts t p rows)
    → is_some (if b then Some row else find t rows) ≡ true → Parts t p (row ∷ rows)
parts_step t p row rows true e rest h = parts_here t p row rows (row_place_order (row_place_of row) p) refl e
parts_step t p row rows false e rest h = parts_later t p row rows (rest h)

parts_of : (t : Row → Bool) (p : RowPlace) (rows : List Row) → is_some (find t rows) ≡ true → Parts t p rows
parts_of t p [] h = cc
parts_of t p (row ∷ rows) h = parts_step t p row rows (t row) refl (parts_of t p rows) h

is_eq_equal : (o : Ordering) → is_eq o ≡ true → o ≡ Equal
is_eq_equal Less e = cc
is_eq_equal Equal e = refl
is_eq_equal Greater e = cc

-- the place of a row that is at two places
same_places : (x p q : RowPlace) → row_place_order x p ≡ Equal → row_place_order x q ≡ Equal → row_place_order p q ≡ Equal
same_places x p q at_p at_q = sym (rows_total.congr x p q at_p) ∙ at_q

put_here : (row : Row) (q : RowPlace) (x : Row) → row_place_order (row_place_of x) (row_place_of row) ≡ Equal → row_place_order (row_place_of x) q ≡ Equal
    → is_some (find (is_at q) (row ∷ [])) ≡ true
put_here row q x at_row at_q = rw (ap is_eq (same_places (row_place_of x) (row_place_of row) q at_row at_q)) refl

is_entry : Kind → Bool
is_entry Entry = true
is_entry _ = false

entry_kinds : (kind : Kind) (h key h' key' : List ℕ) → is_entry kind ≡ false → row_place_order (place Entry h key) (place kind h' key') ≡ Equal → ⊥
unfolding is_entry
entry_kinds Study h key h' key' other same = cc
entry_kinds Series h key h' key' other same = cc
entry_kinds Image h key h' key' other same = cc
entry_kinds Entry h key h' key' other same = cc
entry_kinds Step h key h' key' other same = cc

entry_elsewhere : (h key : List ℕ) (q : RowPlace) → is_entry q.kind ≡ false → row_place_order (place Entry h key) q ≡ Equal → ⊥
unfolding is_entry
entry_elsewhere h key q other same = entry_kinds q.kind h key q.institution q.key other same

-- a place where a row stands keeps one where a row is put
put_keeps : (row : Row) (q : RowPlace) (rows : List Row) → is_some (find (is_at q) rows) ≡ true
    → is_some (find (is_at q) (after_edit row.inst (Put (record_of row)) rows)) ≡ true
unfolding after_edit
put_keeps row q rows h =
    let p = row_place_of row in
    elim (parts_of (is_at q) p rows h) [
      | inl before ↦ some_left (is_at q) (rows_before p rows ++ row ∷ []) (rows_past p rows) (some_left (is_at q) (rows_before p rows) (row ∷ []) before)
      | inr others ↦ elim others [
        | inl past ↦ some_right (is_at q) (rows_before p rows ++ row ∷ []) (rows_past p rows) past
        | inr here ↦ some_left (is_at q) (rows_before p rows ++ row ∷ []) (rows_past p rows)
            (some_right (is_at q) (rows_before p rows) (row ∷ []) (put_here row q here.0 here.2 (is_eq_equal _ here.1)))
      ]
    ]

-- where a row of another kind is removed
remove_keeps : (h key : List ℕ) (q : RowPlace) (rows : List Row) → is_entry q.kind ≡ false → is_some (find (is_at q) rows) ≡ true
    → is_some (find (is_at q) (after_edit h (Remove Entry key) rows)) ≡ true
unfolding after_edit
remove_keeps h key q rows other some =
    let p = place Entry h key in
    elim (parts_of (is_at q) p rows some) [
      | inl before ↦ some_left (is_at q) (rows_before p rows ++ []) (rows_past p rows) (some_left (is_at q) (rows_before p rows) [] before)
      | inr others ↦ elim others [
        | inl past ↦ some_right (is_at q) (rows_before p rows ++ []) (rows_past p rows) past
        | inr here ↦ absurd (entry_elsewhere h key q other (same_places (row_place_of here.0) p q here.2 (is_eq_equal _ here.1)))
      ]
    ]

-- the rows above stay
Grows : List Row → List Row → Type 0
Grows rows more = (kind : Kind) (h key : List ℕ) → is_entry kind ≡ false → is_some (row_at kind h key rows) ≡ true → is_some (row_at kind h key more) ≡ true

held_more : (rows more : List Row) → Grows rows more → (kind : Kind) (h above : List ℕ) → is_held rows kind h above ≡ true → is_held more kind h above ≡ true
unfolding is_held Grows is_entry
held_more rows more grows Study h above held = refl
held_more rows more grows Series h above held = grows Study h above refl held
held_more rows more grows Image h above held = grows Series h above refl held
held_more rows more grows Entry h above held = refl
held_more rows more grows Step h above held = refl

put_grows : (row : Row) (rows : List Row) → Grows rows (after_edit row.inst (Put (record_of row)) rows)
unfolding Grows
put_grows row rows kind h key other some =
    rw (row_at_is (place kind h key) (after_edit row.inst (Put (record_of row)) rows))
    (put_keeps row (place kind h key) rows (rw (row_at_is (place kind h key) rows) at some))

remove_grows : (h key : List ℕ) (rows : List Row) → Grows rows (after_edit h (Remove Entry key) rows)
unfolding Grows
remove_grows h key rows kind g key' other some =
    rw (row_at_is (place kind g key') (after_edit h (Remove Entry key) rows))
    (remove_keeps h key (place kind g key') rows other (rw (row_at_is (place kind g key') rows) at some))

held_each : (rows more : List Row) → Grows rows more → (some : List Row) → HeldEach rows some → HeldEach more some
held_each rows more grows some held = grind (arith, each_weaker, held_more)

each_edited : (P : Row → Type 0) (h : List ℕ) (e : Edit) (rows : List Row) → AllByRecursion P rows → AllByRecursion P (map (row_of h) (records_after_edit e (of h rows)))
    → AllByRecursion P (after_edit h e rows)
unfolding after_edit
each_edited P h e rows all put = grind (arith, each_appended, each_filtered, is_before, is_past)

pub put_sound : (rows : List Row) (row : Row) → IsSound rows → is_own_row row ≡ true → is_held rows row.kind row.inst row.above ≡ true
    → IsSound (after_edit row.inst (Put (record_of row)) rows)
put_sound rows row sound own held =
    let more = after_edit row.inst (Put (record_of row)) rows in
    let grows = put_grows row rows in
    record {
      rising = rising_edit row.inst (Put (record_of row)) rows sound.rising;
      own = each_edited (λ (r : Row). is_own_row r ≡ true) row.inst (Put (record_of row)) rows sound.own (own, tt);
      held = each_edited (λ (r : Row). is_held more r.kind r.inst r.above ≡ true) row.inst (Put (record_of row)) rows
          (held_each rows more grows rows sound.held)
          (held_more rows more grows row.kind row.inst row.above held, tt);
    }

pub remove_sound : (rows : List Row) (h key : List ℕ) → IsSound rows → IsSound (after_edit h (Remove Entry key) rows)
remove_sound rows h key sound =
    let more = after_edit h (Remove Entry key) rows in
    record {
      rising = rising_edit h (Remove Entry key) rows sound.rising;
      own = each_edited (λ (r : Row). is_own_row r ≡ true) h (Remove Entry key) rows sound.own tt;
      held = each_edited (λ (r : Row). is_held more r.kind r.inst r.above ≡ true) h (Remove Entry key) rows
          (held_each rows more (remove_grows h key rows) rows sound.held) tt;
    }

pub after_edits-append : (h : List ℕ) (es fs : List Edit) (rows : List Row) → after_edits h (es ++ fs) rows ≡ after_edits h fs (after_edits h es rows)
after_edits-append h [] fs rows = refl
after_edits-append h (e ∷ es) fs rows = after_edits-append h es fs (after_edit h e rows)

-- a loop that has started an entry more
pub start_more : (h : List ℕ) (keys : List (List ℕ)) (i : ℕ) (key : List ℕ) (rows mid new : List Row) → i < length keys → get_or keys i key ≡ key
    → mid ≡ after_edits h (map Start (take i keys)) rows → new ≡ after_edit h (Start key) mid → new ≡ after_edits h (map Start (take (i + 1) keys)) rows
start_more h keys i key rows mid new within here before done =
    done ∙ ap (after_edit h (Start key)) before ∙ sym (after_edits-append h (map Start (take i keys)) (Start key ∷ []) rows)
    ∙ ap (λ (es : List Edit). after_edits h es rows)
    (sym (map_more Start keys i key within ∙ ap (λ (k : List ℕ). map Start (take i keys) ++ Start k ∷ []) here))

put_at : (h : List ℕ) (row : Row) (rows : List Row) → row.inst ≡ h → IsSound (after_edit row.inst (Put (record_of row)) rows)
    → IsSound (after_edit h (Put (record_of row)) rows)
put_at h row rows same sound = subst (λ (g : List ℕ). IsSound (after_edit g (Put (record_of row)) rows)) same sound

new_sound : (rows : List Row) (kind : Kind) (row : Row) → IsSound rows → IsNew rows kind row → IsSound (after_edit row.inst (Put (record_of row)) rows)
new_sound rows kind row sound new =
    put_sound rows row sound new.own (subst (λ (k : Kind). is_held rows k row.inst row.above ≡ true) (sym new.kind_is) new.held)

put_if_sound : (h : List ℕ) (rows : List Row) (kind : Kind) (row : Option Row) → IsSound rows → IsOf h row → IsNewIf rows kind row
    → IsSound (after_edits h (put_if row) rows)
put_if_sound h rows kind None sound same new = sound
put_if_sound h rows kind (Some row) sound same new = put_at h row rows same (new_sound rows kind row sound new)

-- what the edits of a stored image make of the rows, one after the other
pub stored_is : (rows : List Row) (study series : Option Row) (image : Row) → after (operation_of (Stored study series image)) rows
    ≡ after_edit image.inst (Put (record_of image)) (after_edits image.inst (put_if series) (after_edits image.inst (put_if study) rows))
stored_is rows study series image = grind (arith, after_edits-append)

pub stored_sound : (rows : List Row) (study series : Option Row) (image : Row) → IsSound rows → FitsStored rows study series image
    → IsSound (after_edit image.inst (Put (record_of image)) (after_edits image.inst (put_if series) (after_edits image.inst (put_if study) rows)))
stored_sound rows study series image sound fits = grind (arith, put_if_sound, new_sound)

changed_sound : (rows : List Row) (row : Row) → IsSound rows → MayReplace rows Step row → IsSound (after_edit row.inst (Put (record_of row)) rows)
unfolding is_held
changed_sound rows row sound fits =
    put_sound rows row sound fits.own (subst (λ (k : Kind). is_held rows k row.inst row.above ≡ true) (sym fits.kind_is) refl)

pub start_sound : (h key : List ℕ) (rows : List Row) → IsSound rows → IsSound (after_edit h (Start key) rows)
start_sound h key rows sound =
    start_keeps IsSound h key rows sound.rising sound
    (λ row kind among. put_sound rows (started row) sound (started_own row kind (each_among (λ (r : Row). is_own_row r ≡ true) row rows sound.own among))
    (entry_held rows row.kind row.inst row.above kind))

pub starts_sound : (h : List ℕ) (keys : List (List ℕ)) (rows : List Row) → IsSound rows → IsSound (after_edits h (map Start keys) rows)
starts_sound h [] rows sound = sound
starts_sound h (key ∷ keys) rows sound = starts_sound h keys (after_edit h (Start key) rows) (start_sound h key rows sound)

pub change_sound : (rows : List Row) (change : Change) → IsSound rows → ChangeFits rows change → IsSound (after (operation_of change) rows)
change_sound rows (Stored study series image) sound fits = rw (stored_is rows study series image) (stored_sound rows study series image sound fits)
change_sound rows (EntryAdded row) sound fits = new_sound rows Entry row sound fits
change_sound rows (EntryRemoved h key) sound fits = remove_sound rows h key sound
change_sound rows (StepAdded row keys) sound fits =
    starts_sound row.inst keys (after_edit row.inst (Put (record_of row)) rows) (new_sound rows Step row sound fits.step_new)
change_sound rows (StepChanged row) sound fits = changed_sound rows row sound fits

-- the same of rows and copies that are known to be equal
pub kept_sound : (rows mid new : List Row) (row copy : Row) → IsSound rows → is_own_row row ≡ true → is_held rows row.kind row.inst row.above ≡ true
    → copy ≡ row → mid ≡ rows → new ≡ after_edit copy.inst (Put (record_of copy)) mid → IsSound new
kept_sound rows mid new row copy sound own held same start done =
    subst IsSound (sym (done ∙ ap (after_edit copy.inst (Put (record_of copy))) start ∙ ap (λ (r : Row). after_edit r.inst (Put (record_of r)) rows) same))
    (put_sound rows row sound own held)

pub removed_sound : (rows new : List Row) (h key : List ℕ) → IsSound rows → new ≡ after_edit h (Remove Entry key) rows → IsSound new
removed_sound rows new h key sound done = subst IsSound (sym done) (remove_sound rows h key sound)

-- three rows put in turn
pub stored_done : (rows start first second new : List Row) (study series study' series' : Option Row) (image image' : Row)
    → study' ≡ study → series' ≡ series → image' ≡ image → FitsStored rows study series image → start ≡ rows
    → ((h : List ℕ) → IsOf h study' → first ≡ after_edits h (put_if study') start)
    → ((h : List ℕ) → IsOf h series' → second ≡ after_edits h (put_if series') first)
    → new ≡ after_edit image'.inst (Put (record_of image')) second
    → new ≡ after_edit image.inst (Put (record_of image)) (after_edits image.inst (put_if series) (after_edits image.inst (put_if study) rows))
stored_done rows start first second new study series study' series' image image' same_study same_series same_image fits begin one two three =
    grind arith

pub changed_held : (rows : List Row) (row : Row) → MayReplace rows Step row → is_held rows row.kind row.inst row.above ≡ true
unfolding is_held
changed_held rows row fits = subst (λ (k : Kind). is_held rows k row.inst row.above ≡ true) (sym fits.kind_is) refl
