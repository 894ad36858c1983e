-- What a store has whose found rows are sound.
use Rattle.std.proofs.Common.{◌≡◌, List, [], ◌∷◌, map, IsTrue, IfOk, MatchBool, Result, Ok, Err, Bool, true, false, refl, sym, ap, subst, ◌∙◌, arith}
use Rattle.std.specs.List.{AllByRecursion, IsDistinct}
use Rattle.std.specs.List.Sorted.{IsPermutation}
use Rattle.std.proofs.lemmas.List.Sorted.{IsPermutation-sym, IsPermutation-trans, IsPermutation-map}
use Rattle.std.proofs.lemmas.Map.Keys.{IsDistinct-IsPermutation}
use Rattle.sqlite_value.specs.Order.{Row as Values, column}
use Rattle.sqlite_trees.specs.Tree.{rowid}
use Rattle.sqlite_trees.specs.View.{is_int}
use Rattle.sqlite.specs.Effect.{Database, IsDatabase}
use Rattle.sqlite.specs.State.{State, HasCleanDisk}
use Rattle.sqlite.proofs.StateLemmas.{survives_then}
use Rattle.sqlite.proofs.Callers.{one_permutation}
use Rattle.dq_tables.specs.declared.row.Row.{Row}
use Rattle.dq_tables.specs.Sound.{is_own_row, IsSound}
use Rattle.dq_tables.proofs.OneOrder.{one_order}
use Rattle.dq_sql.specs.declared.version.Version.{Version}
use Rattle.dq_sql.specs.Schema.{schema_of}
use Rattle.dq_sql.specs.Tie.{IsKeptRow, row_of_cells, kept_in, same_id, IsOfVersion, HasRowsOf, IsAtRest, IsSame, Stays}
use Rattle.dq_sql.specs.RowReads.{selected_columns, ShowsSame, Shows, kept_shown, numbers_shown}
use Rattle.dq_sql.specs.FoundStores.{IsGood, AreGood, AreSound, SaysNumber, IsFound}
use Rattle.dq_sql.proofs.RowOrder.{each_moved}
use Rattle.dq_sql.proofs.AddedRows.{apart_back}

-- ---- the version

shown_numbers : (trees : List Values) → map (λ (r : Values). column r 0) (map (λ (r : Values). let shown : Values = column r 1 ∷ [] in shown) trees) ≡ map (λ r. column r 1) trees
shown_numbers [] = refl
shown_numbers (r ∷ trees) = ap (λ l. column r 1 ∷ l) (shown_numbers trees)

module _ (version : Version) (s : State) (found : List Values) (ours : s.now.schema ≡ schema_of version) (shows : Shows version s numbers_shown found) where
  numbers : IsPermutation (map (λ r. column r 1) (s.now.trees 2)) (map (λ r. column r 0) found)
  numbers =
      subst (λ l. IsPermutation l (map (λ r. column r 0) found)) (shown_numbers (s.now.trees 2))
      (IsPermutation-map (λ (r : Values). column r 0) _ found (shows.rows ours))

  pub version_told : (b : Bool) → MatchBool b (SaysNumber version found) (¬ SaysNumber version found)
      → MatchBool b (IsOfVersion version s.now) (¬ IsOfVersion version s.now)
  version_told true says = record {
    schema = ours;
    says = one_permutation _ _ (subst (λ l. IsPermutation l (map (λ r. column r 1) (s.now.trees 2))) says (IsPermutation-sym _ _ numbers));
  }
  version_told false other =
      λ it. other (one_permutation _ _ (subst (λ l. IsPermutation l (map (λ r. column r 0) found)) it.says numbers))

both_ways : (x y : Bool) → (x ≡ false → y ≡ false) → (y ≡ false → x ≡ false) → x ≡ y
both_ways true true p q = refl
both_ways true false p q = q refl
both_ways false true p q = sym (p refl)
both_ways false false p q = refl

flips : (a b : Values) → same_id a b ≡ same_id b a
flips a b = both_ways (same_id a b) (same_id b a) (apart_back a b) (apart_back b a)

-- ---- the rows

-- found rows have one list of rows
pub one_good : (found : List Values) (a b : List Row) → AreGood found a → AreGood found b → a ≡ b
one_good found a b p q = one_order a b p.rising q.rising (IsPermutation-trans _ _ _ (IsPermutation-sym _ _ p.same) q.same)

each_shown : (P : Values → Type 0) (trees : List Values) → ((r : Values) → P (selected_columns r) → P r) → AllByRecursion P (map selected_columns trees) → AllByRecursion P trees
each_shown P [] f h = tt
each_shown P (r ∷ trees) f h = (f r h.0, each_shown P trees f h.1)

shown_each : (P : Values → Type 0) (trees : List Values) → ((r : Values) → P r → P (selected_columns r)) → AllByRecursion P trees → AllByRecursion P (map selected_columns trees)
shown_each P [] f h = tt
shown_each P (r ∷ trees) f h = (f r h.0, shown_each P trees f h.1)

each_then : (P Q : Values → Type 0) (rows : List Values) → ((r : Values) → P r → Q r) → AllByRecursion P rows → AllByRecursion Q rows
each_then P Q [] f h = tt
each_then P Q (r ∷ rows) f h = (f r h.0, each_then P Q rows f h.1)

apart_shown : (trees : List Values) → IsDistinct same_id (map selected_columns trees) → IsDistinct same_id trees
unfolding IsDistinct
apart_shown [] h = tt
apart_shown (r ∷ trees) h = (each_shown (λ x. same_id r x ≡ false) trees (λ x e. e) h.0, apart_shown trees h.1)

shown_apart : (trees : List Values) → IsDistinct same_id trees → IsDistinct same_id (map selected_columns trees)
unfolding IsDistinct
shown_apart [] h = tt
shown_apart (r ∷ trees) h = (shown_each (λ x. same_id r x ≡ false) trees (λ x e. e) h.0, shown_apart trees h.1)

kept_shown_is : (trees : List Values) → map row_of_cells (map selected_columns trees) ≡ map row_of_cells trees
kept_shown_is [] = refl
kept_shown_is (r ∷ trees) = ap (λ l. row_of_cells r ∷ l) (kept_shown_is trees)

own_each : (rows : List Values) → AllByRecursion IsGood rows → AllByRecursion (λ (row : Row). is_own_row row ≡ true) (map row_of_cells rows)
own_each [] h = tt
own_each (r ∷ rows) h = (h.0.own, own_each rows h.1)

good_each : (rows : List Values) → AllByRecursion IsKeptRow rows → AllByRecursion (λ (row : Row). is_own_row row ≡ true) (map row_of_cells rows) → AllByRecursion IsGood rows
good_each [] h o = tt
good_each (r ∷ rows) h o = (record { kept = h.0; own = o.0 }, good_each rows h.1 o.1)

good_shown : (r : Values) → IsGood r → IsGood (selected_columns r)
good_shown r h =
    let k = h.kept in
    record { kept = record { kind = k.kind; inst = k.inst; key = k.key; above = k.above; patient = k.patient; day = k.day; octets = k.octets; started = k.started }; own = h.own }

shown_kept : (r : Values) → IsKeptRow (selected_columns r) → IsKeptRow r
shown_kept r k = record { kind = k.kind; inst = k.inst; key = k.key; above = k.above; patient = k.patient; day = k.day; octets = k.octets; started = k.started }

-- Found rows are sound, whatever the store has.
pub found_sound : (found : List Values) (rows : List Row) → AreSound found rows → IsSound rows
found_sound found rows sound = record {
  rising = sound.good.rising;
  own = each_moved (λ (row : Row). is_own_row row ≡ true) (map row_of_cells found) rows sound.good.same (own_each found sound.good.each);
  held = sound.held;
}

-- The store has the rows that are found.
pub found_from : (version : Version) (s : State) (found : List Values) (rows : List Row) → IsAtRest s → IsOfVersion version s.now → (IsTrue s.is_open → IsDatabase s.now)
    → Shows version s (kept_shown version) found → AreSound found rows → IsFound version s rows
found_from version s found rows rest ours database shows sound =
    let table = kept_in version s.now in
    let on = shows.rows ours.schema in
    let back = IsPermutation-sym _ _ on in
    let apart = IsDistinct-IsPermutation same_id flips found _ back sound.apart.apart in
    record {
      is_open = shows.is_open;
      rest = rest;
      has = record {
        version_is = ours;
        database = database shows.is_open;
        table = record {
          apart = apart_shown table apart;
          ids = each_shown (λ r. IsTrue (is_int (rowid r))) table (λ r e. e) (each_moved _ found _ back sound.apart.whole);
          kept = each_shown IsKeptRow table shown_kept (each_moved IsKeptRow found _ back (each_then IsGood IsKeptRow found (λ r h. h.kept) sound.good.each));
          same = IsPermutation-trans _ (map row_of_cells found) rows
              (subst (λ l. IsPermutation l (map row_of_cells found)) (kept_shown_is table) (IsPermutation-map row_of_cells _ found on)) sound.good.same;
          rising = sound.good.rising;
        };
      };
      sound = found_sound found rows sound;
    }

-- Where the store has sound rows, these are found.
pub sound_in : (version : Version) (s : State) (found : List Values) (rows : List Row) → Shows version s (kept_shown version) found → HasRowsOf version s.now rows → IsSound rows
    → AreSound found rows
sound_in version s found rows shows has sound =
    let table = kept_in version s.now in
    let on = shows.rows has.version_is.schema in
    let own = each_moved (λ (row : Row). is_own_row row ≡ true) rows (map row_of_cells table) (IsPermutation-sym _ _ has.table.same) sound.own in
    let good = good_each table has.table.kept own in
    record {
      apart = record {
        whole = each_moved (λ r. IsTrue (is_int (rowid r))) _ found on (shown_each _ table (λ r e. e) has.table.ids);
        apart = IsDistinct-IsPermutation same_id flips _ found on (shown_apart table has.table.apart);
      };
      good = record {
        each = each_moved IsGood _ found on (shown_each IsGood table good_shown good);
        same = IsPermutation-trans _ (map row_of_cells table) rows
            (subst (IsPermutation (map row_of_cells found)) (kept_shown_is table) (IsPermutation-map row_of_cells found _ (IsPermutation-sym _ _ on))) has.table.same;
        rising = has.table.rising;
      };
      held = sound.held;
    }

-- ---- two reads in turn

pub stays_then : (a b c : State) → Stays a b → Stays b c → Stays a c
stays_then a b c one two = record {
  survives = survives_then a b c _ _ _ (λ _ db none. none) (λ _ db none. none) one.survives two.survives;
  mode = λ out. two.mode (one.mode out);
  same = λ clean live rest. whole (omega (arith, two.survives.clean)) rest (two.same clean live);
}
  where
    whole : HasCleanDisk b → IsAtRest a → (IsAtRest b → IsSame b c) → IsSame a c
    whole late rest next =
        let second = next (record {
          autocommit = one.mode rest.autocommit;
          settled = λ up. let same = one.same late up rest in same.now ∙ (rest.settled same.was_open ∙ sym same.committed);
        }) in
        let first = one.same late second.was_open rest in
        record { was_open = first.was_open; now = second.now ∙ first.now; committed = second.committed ∙ first.committed }

-- what is shown after a read is what was there before it
shown_before : (version : Version) (a b : State) (rows : Database → List Values) (found : List Values) → IsAtRest a → Stays a b → HasCleanDisk b
    → Shows version b rows found → Shows version a rows found
shown_before version a b rows found rest stays clean shows =
    let same = stays.same clean shows.is_open rest in
    record {
      is_open = same.was_open;
      rows = subst (λ (d : Database). d.schema ≡ schema_of version → IsPermutation (rows d) found) same.now shows.rows;
    }

-- the same after a read that shows the same
pub shown_same : (version : Version) (a b : State) (rows : Database → List Values) (found : List Values) → ShowsSame a b → Shows version b rows found → Shows version a rows found
shown_same version a b rows found same shows = record {
  is_open = same.was_open shows.is_open;
  rows = subst (λ (d : Database). d.schema ≡ schema_of version → IsPermutation (rows d) found) same.now shows.rows;
}

pub found_after : (version : Version) (a b : State) (items found : List Values) (rows : List Row) → IsAtRest a → IsOfVersion version a.now
    → (IsTrue a.is_open → IsDatabase a.now) → Stays a b → HasCleanDisk b
    → Shows version b (kept_shown version) items → found ≡ items → AreSound found rows → IsFound version a rows
found_after version a b items found rows rest ours database stays clean shows same sound =
    found_from version a found rows rest ours database
    (subst (Shows version a (kept_shown version)) (sym same) (shown_before version a b (kept_shown version) items rest stays clean shows)) sound

pub sound_after : (version : Version) (a b : State) (items found : List Values) (rows : List Row) → IsAtRest a → Stays a b → HasCleanDisk b
    → Shows version b (kept_shown version) items → found ≡ items → HasRowsOf version a.now rows → IsSound rows → AreSound found rows
sound_after version a b items found rows rest stays clean shows same has sound =
    sound_in version a found rows (subst (Shows version a (kept_shown version)) (sym same) (shown_before version a b (kept_shown version) items rest stays clean shows)) has sound

pub ok_then : {A E : Type 0} (P Q : A → Type 0) (r : Result A E) → ((x : A) → P x → Q x) → IfOk r P → IfOk r Q
ok_then P Q (Ok x) f h = f x h
ok_then P Q (Err e) f h = tt

pub told : {P : Type 0} (Q : Type 0) (b : Bool) → b ≡ true → MatchBool b P Q → P
told Q true h p = p
told Q false h q = absurd (cc)

pub untold : {Q : Type 0} (P : Type 0) (b : Bool) → b ≡ false → MatchBool b P Q → Q
untold P true h p = absurd (cc)
untold P false h q = q
