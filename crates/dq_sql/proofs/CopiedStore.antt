-- Rows of some institutions, copied into a new store.
use Rattle.std.proofs.Common.{◌≡◌, ◌≢◌, ◌⊎◌, ℕ, Bool, true, false, if◌then◌else◌, List, [], ◌∷◌, map, Option, Some, None, IsTrue, inl, inr, refl, sym, ap, subst, ◌∙◌}
use Rattle.std.specs.Prelude.{◌&&◌, ◌||◌, Contains, filter, find, is_some}
use Rattle.std.specs.Borrow.{Bor}
use Rattle.std.specs.List.{AllByRecursion, list_any}
use Rattle.std.specs.Str.{bytes_eq}
use Rattle.std.proofs.lemmas.Bool.{false≢true}
use Rattle.std.proofs.lemmas.List.Folds.{list_any_at, Any-from_list_any}
use Rattle.std.proofs.lemmas.Slice.Eq.{bytes_eq-Decides}
use Rattle.sqlite_trees.specs.Tree.{Trees}
use Rattle.sqlite.specs.State.{State, HasCleanDisk, Survives}
use Rattle.sqlite.proofs.StateLemmas.{survives_weaker}
use Rattle.dq_tables.specs.declared.row.Kind.{Kind}
use Rattle.dq_tables.specs.declared.row.Kind.TheVariants.{Study, Series, Image, Entry, Step}
use Rattle.dq_tables.specs.declared.row.Row.{Row}
use Rattle.dq_tables.specs.Rows.{rows_named, IsRising}
use Rattle.dq_tables.specs.Lookups.{is_of_kind, row_at}
use Rattle.dq_tables.specs.Sound.{is_own_row, is_held, OwnEach, HeldEach, IsSound}
use Rattle.dq_tables.proofs.Order.{IsRising-filter}
use Rattle.dq_sql.specs.declared.fault.StoreFault.{StoreFault}
use Rattle.dq_sql.specs.declared.fault.StoreFault.TheVariants as fault
use Rattle.dq_sql.specs.declared.version.Version.TheVariants.{Two}
use Rattle.dq_sql.specs.Tie.{IsAtRest, IsSame, Stays}
use Rattle.dq_sql.specs.FoundStores.{IsRefused}
use Rattle.dq_sql.specs.FirstRows.{HasThese}
use Rattle.dq_sql.specs.StoreCopies.{is_row_of, copied_rows, IsCopyOf, IsNotCopied}
use Rattle.dq_sql.proofs.Migrations.{survives_itself}

-- ---- filters

find-filtered : {X : Type 0} (p q : X → Bool) → ((x : X) → q x ≡ true → p x ≡ true) → (xs : List X) → find q (filter p xs) ≡ find q xs
find-filtered p q within [] = refl
find-filtered p q within (x ∷ xs) = by (p x) (q x) refl refl (find-filtered p q within xs) where
  by : (b c : Bool) → p x ≡ b → q x ≡ c → find q (filter p xs) ≡ find q xs
      → find q (if b then x ∷ filter p xs else filter p xs) ≡ (if c then Some x else find q xs)
  by true true kept found later = rw found refl
  by true false kept found later = rw found later
  by false true kept found later = absurd (false≢true (sym kept ∙ within x found))
  by false false kept found later = later

each-filtered : {X : Type 0} (P : X → Type 0) (p : X → Bool) (xs : List X) → AllByRecursion P xs → AllByRecursion P (filter p xs)
each-filtered P p [] all = tt
each-filtered P p (x ∷ xs) all = by (p x) (each-filtered P p xs all.1) where
  by : (b : Bool) → AllByRecursion P (filter p xs) → AllByRecursion P (if b then x ∷ filter p xs else filter p xs)
  by true later = (all.0, later)
  by false later = later

-- ---- sound rows

both-first : (a b : Bool) → (a && b) ≡ true → a ≡ true
both-first true b is = refl
both-first false b is = cc

both-second : (a b : Bool) → (a && b) ≡ true → b ≡ true
both-second true b is = is
both-second false b is = cc

module _ (names : List (List ℕ)) where
  kept-like : (row : Row) (institution : List ℕ) → list_any (bytes_eq institution) names ≡ true → bytes_eq row.inst institution ≡ true → is_row_of names row ≡ true
  kept-like row institution chosen same = let is : row.inst ≡ institution = (bytes_eq-Decides row.inst institution).0 same in rw is chosen

  there : (kind : Kind) (institution key : List ℕ) (rows : List Row) → list_any (bytes_eq institution) names ≡ true
      → row_at kind institution key (filter (is_row_of names) rows) ≡ row_at kind institution key rows
  unfolding row_at
  there kind institution key rows chosen =
      find-filtered (is_row_of names) _ (λ row found. kept-like row institution chosen (both-second _ _ (both-first _ _ found))) rows

  still-held : (kind : Kind) (institution above : List ℕ) (all : List Row) → list_any (bytes_eq institution) names ≡ true
      → is_held all kind institution above ≡ true → is_held (filter (is_row_of names) all) kind institution above ≡ true
  unfolding is_held
  still-held Series institution above all chosen held = ap is_some (there Study institution above all chosen) ∙ held
  still-held Image institution above all chosen held = ap is_some (there Series institution above all chosen) ∙ held
  still-held Study institution above all chosen held = refl
  still-held Entry institution above all chosen held = refl
  still-held Step institution above all chosen held = refl

  each-held : (all rows : List Row) → HeldEach all rows → HeldEach (filter (is_row_of names) all) (filter (is_row_of names) rows)
  each-held all [] held = tt
  each-held all (row ∷ rows) held = by (is_row_of names row) refl (each-held all rows held.1) where
    by : (b : Bool) → is_row_of names row ≡ b → HeldEach (filter (is_row_of names) all) (filter (is_row_of names) rows)
        → HeldEach (filter (is_row_of names) all) (if b then row ∷ filter (is_row_of names) rows else filter (is_row_of names) rows)
    by true chosen later = (still-held row.kind row.inst row.above all chosen held.0, later)
    by false chosen later = later

-- sound rows of which some institutions' are kept
pub copied_sound : (names : List (List ℕ)) (rows : List Row) → IsSound rows → IsSound (copied_rows names rows)
copied_sound [] rows sound = sound
copied_sound (name ∷ names) rows sound = record {
  rising = IsRising-filter (is_row_of (name ∷ names)) rows sound.rising;
  own = each-filtered _ (is_row_of (name ∷ names)) rows sound.own;
  held = each-held (name ∷ names) rows rows sound.held;
}

-- ---- of whom the rows are

filter-filtered : {X : Type 0} (p q : X → Bool) → ((x : X) → q x ≡ true → p x ≡ true) → (xs : List X) → filter q (filter p xs) ≡ filter q xs
filter-filtered p q within [] = refl
filter-filtered p q within (x ∷ xs) = by (p x) (q x) refl refl (filter-filtered p q within xs) where
  by : (b c : Bool) → p x ≡ b → q x ≡ c → filter q (filter p xs) ≡ filter q xs
      → filter q (if b then x ∷ filter p xs else filter p xs) ≡ (if c then x ∷ filter q xs else filter q xs)
  by true true kept found later = rw (found, later) refl
  by true false kept found later = rw found later
  by false true kept found later = absurd (false≢true (sym kept ∙ within x found))
  by false false kept found later = later

filter-none : {X : Type 0} (p q : X → Bool) → ((x : X) → p x ≡ true → q x ≡ true → ⊥) → (xs : List X) → filter q (filter p xs) ≡ []
filter-none p q apart [] = refl
filter-none p q apart (x ∷ xs) = by (p x) (q x) refl refl (filter-none p q apart xs) where
  by : (b c : Bool) → p x ≡ b → q x ≡ c → filter q (filter p xs) ≡ [] → filter q (if b then x ∷ filter p xs else filter p xs) ≡ []
  by true true kept found later = absurd (apart x kept found)
  by true false kept found later = rw found later
  by false c kept found later = later

-- the test of a name that is there
named : (names : List (List ℕ)) (name : List ℕ) → Contains names name → list_any (bytes_eq name) names ≡ true
named names name it = list_any_at (bytes_eq name) names it.0 name it.1 (rw it.2 ((bytes_eq-Decides name name).1 refl))

contained : (names : List (List ℕ)) (name : List ℕ) → list_any (bytes_eq name) names ≡ true → Contains names name
contained names name found =
    let it = Any-from_list_any (bytes_eq name) names found in
    let same : name ≡ it.1 = (bytes_eq-Decides name it.1).0 it.4 in
    subst (Contains names) (sym same) (it.0, it.2, it.3)

-- of one institution
pub copied_of_one : (name : List ℕ) (rows : List Row) → copied_rows (name ∷ []) rows ≡ rows_named name rows
copied_of_one name [] = refl
copied_of_one name (row ∷ rows) = by (bytes_eq row.inst name) (copied_of_one name rows) where
  by : (b : Bool) → copied_rows (name ∷ []) rows ≡ rows_named name rows
      → (if b || false then row ∷ copied_rows (name ∷ []) rows else copied_rows (name ∷ []) rows)
      ≡ (if b then row ∷ rows_named name rows else rows_named name rows)
  by true later = ap (λ some. row ∷ some) later
  by false later = later

-- of each that is named
pub copied_of_named : (names : List (List ℕ)) (name : List ℕ) (rows : List Row) → Contains names name → rows_named name (copied_rows names rows) ≡ rows_named name rows
copied_of_named [] name rows there = refl
copied_of_named (first ∷ names) name rows there =
    filter-filtered (is_row_of (first ∷ names)) (λ (row : Row). bytes_eq row.inst name)
    (λ row same. kept-like (first ∷ names) row name (named (first ∷ names) name there) same) rows

-- of no other
pub copied_of_others : (names : List (List ℕ)) (name : List ℕ) (rows : List Row) → names ≢ [] → ¬ Contains names name → rows_named name (copied_rows names rows) ≡ []
copied_of_others [] name rows some absent = absurd (some refl)
copied_of_others (first ∷ names) name rows some absent =
    filter-none (is_row_of (first ∷ names)) (λ (row : Row). bytes_eq row.inst name)
    (λ row kept same.
    let is : row.inst ≡ name = (bytes_eq-Decides row.inst name).0 same in
    absent (contained (first ∷ names) name (subst (λ (n : List ℕ). list_any (bytes_eq n) (first ∷ names) ≡ true) is kept))) rows

-- ---- refusals

-- the new store is not made
pub not_filled : (names : List (List ℕ)) (old left new after : State) (rows : List Row) → (HasCleanDisk left → IsCopyOf names old rows)
    → Survives new after (HasThese rows) → after.in_transaction ≡ false
    → (HasCleanDisk after → IsTrue after.is_open → IsAtRest new → IsSame new after) → IsNotCopied names old left new after
not_filled names old left new after rows are survives mode same = record {
  survives = survives_weaker new after _ _ (λ _ trees has clean. record { rows = rows; are = are clean; has = has }) survives;
  mode = λ _. mode;
  same = same;
}
