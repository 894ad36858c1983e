-- What is kept of found rows, when one more is judged.
use Rattle.std.proofs.Common.{◌≡◌, ◌++◌, ◌∷◌, [], ℤ, List, map, Option, None, Some, IfSome, refl, sym, ap, subst, ◌∙◌}
use Rattle.std.specs.Prelude.{Vec}
use Rattle.std.specs.List.{AllByRecursion}
use Rattle.std.proofs.lemmas.List.{append_assoc, append-nil}
use Rattle.std.specs.List.Sorted.{IsPermutation}
use Rattle.sqlite_value.specs.Order.{Row as Values}
use Rattle.dq_tables.specs.declared.row.Row.{Row}
use Rattle.dq_tables.specs.Rows.{IsRising}
use Rattle.dq_sql.specs.Tie.{row_of_cells}
use Rattle.dq_sql.specs.FoundStores.{HoldOctets, IsGood, IsPlaceTaken, AreGood, AreSound, HasWholeRowid, rowid_of, AreRows}
use Rattle.dq_sql.proofs.RowOrder.{at_middle, each_and, good_next, bad_next}

front_each : {X : Type 0} (P : X → Type 0) (xs ys : List X) → AllByRecursion P (xs ++ ys) → AllByRecursion P xs
front_each P [] ys h = tt
front_each P (x ∷ xs) ys h = (h.0, front_each P xs ys h.1)

map_last : {X Y : Type 0} (f : X → Y) (xs : List X) (x : X) → map f (xs ++ x ∷ []) ≡ map f xs ++ f x ∷ []
map_last f [] x = refl
map_last f (y ∷ xs) x = ap (λ l. f y ∷ l) (map_last f xs x)

-- ---- rowids

pub id_more : (seen : List Values) (x : Values) (n : ℤ) (ids new : List ℤ) → AllByRecursion HasWholeRowid seen × (ids ≡ map rowid_of seen) → HasWholeRowid x → rowid_of x ≡ n
    → new ≡ ids ++ n ∷ [] → AllByRecursion HasWholeRowid (seen ++ x ∷ []) × (new ≡ map rowid_of (seen ++ x ∷ []))
id_more seen x n ids new all numbered same is = (
  each_and HasWholeRowid seen x all.0 numbered,
  is ∙ ap (λ l. l ++ n ∷ []) all.1 ∙ ap (λ (k : ℤ). map rowid_of seen ++ k ∷ []) (sym same) ∙ sym (map_last rowid_of seen x),
)

pub id_none : (seen : List Values) (x : Values) → ¬ AllByRecursion HasWholeRowid seen → ¬ AllByRecursion HasWholeRowid (seen ++ x ∷ [])
id_none seen x none all = none (front_each HasWholeRowid seen (x ∷ []) all)

pub id_bad : (seen : List Values) (x : Values) → ¬ HasWholeRowid x → ¬ AllByRecursion HasWholeRowid (seen ++ x ∷ [])
id_bad seen x bad all = bad (at_middle HasWholeRowid seen x [] all)

-- ---- rows

-- no more of them make good rows
abbrev pub NoneAreGood : List Values → Type 0
NoneAreGood seen = (more : List Values) (rows : List Row) → ¬ AreGood (seen ++ more) rows

pub still_none : (seen : List Values) (x : Values) → NoneAreGood seen → NoneAreGood (seen ++ x ∷ [])
still_none seen x none more rows good = none (x ∷ more) rows (subst (λ l. AreGood l rows) (append_assoc seen (x ∷ []) more) good)

pub row_none : (seen : List Values) (x : Values) (rows : List Row) → AreGood seen rows → (IsGood x → IsPlaceTaken rows (row_of_cells x)) → NoneAreGood (seen ++ x ∷ [])
row_none seen x rows good bad more all every =
    bad_next ((seen ++ x ∷ []) ++ more) seen more x rows (sym (append_assoc seen (x ∷ []) more)) good bad all every

pub row_more : (seen : List Values) (x : Values) (rows new : List Row) → AreGood seen rows × HoldOctets rows → IsGood x → IsPermutation (row_of_cells x ∷ rows) new → IsRising new
    → (HoldOctets rows → HoldOctets new) → AreGood (seen ++ x ∷ []) new × HoldOctets new
row_more seen x rows new good is_good added rising octets = (good_next seen x rows new good.0 is_good added rising, octets good.1)

-- the rows of found ones are in order
pub rows_rise : {A : Type 0} (seen : List Values) (rows : Option (Vec Row A)) → AreRows seen rows → IfSome rows (λ rows. IsRising rows.items)
rows_rise seen None h = tt
rows_rise seen (Some rows) h = h.0.rising

-- where no more make found rows good, these are not sound
pub none_sound : (found : List Values) → NoneAreGood found → (rows : List Row) → ¬ AreSound found rows
none_sound found none rows sound = none [] rows (subst (λ l. AreGood l rows) (sym (append-nil found)) sound.good)
