-- The records of an institution, each of which is that of a row of its own.
use Rattle.std.proofs.Common.{◌≡◌, ℕ, Bool, true, false, List, [], ◌∷◌, map, filter, Option, Some, None, refl, sym, ap, subst, ◌∙◌, if◌then◌else◌, inl, inr}
use Rattle.std.specs.List.{AllByRecursion}
use Rattle.std.specs.Str.{bytes_eq}
use Rattle.std.proofs.lemmas.Slice.Eq.{bytes_eq-Decides}
use Rattle.dq_list.specs.Among.{IsAmong}
use Rattle.dq_tables.specs.declared.row.Row.{Row}
use Rattle.dq_tables.specs.Rows.{Record, record_of, of}
use Rattle.dq_tables.specs.Keys.{value_passing}
use Rattle.dq_tables.specs.Sound.{OwnEach, is_own_row, is_value}

-- what holds of the record of each row that is its own
module _ (P : Record → Type 0) (each : (row : Row) → is_own_row row ≡ true → P (record_of row)) (r : Record) where
  step : (row : Row) (b : Bool) (kept : List Row) → is_own_row row ≡ true → (IsAmong r (map record_of kept) → P r)
      → IsAmong r (map record_of (if b then row ∷ kept else kept)) → P r
  step row true kept own rest (inl e) = subst P e (each row own)
  step row true kept own rest (inr h) = rest h
  step row false kept own rest h = rest h

  filtered : (p : Row → Bool) (rows : List Row) → AllByRecursion (λ (row : Row). is_own_row row ≡ true) rows → IsAmong r (map record_of (filter p rows)) → P r
  filtered p [] own h = absurd h
  filtered p (row ∷ rows) own h = step row (p row) (filter p rows) own.0 (filtered p rows own.1) h

  pub of_each : (institution : List ℕ) (rows : List Row) → OwnEach rows → IsAmong r (of institution rows) → P r
  unfolding of
  of_each institution rows own h = filtered (λ (row : Row). bytes_eq row.inst institution) rows own h

-- a value that passes a test
passed_by : (test : List ℕ → Bool) (value wanted : List ℕ) (b : Bool) → test value ≡ b → (if b then Some value else None) ≡ Some wanted
    → (value ≡ wanted) × (test wanted ≡ true)
passed_by test value wanted true e h = (let same : value ≡ wanted = cc in (same, ap test (sym same) ∙ e))
passed_by test value wanted false e h = absurd cc

pub passed : (test : List ℕ → Bool) (value : Option (List ℕ)) (wanted : List ℕ) → value_passing test value ≡ Some wanted
    → (value ≡ Some wanted) × (test wanted ≡ true)
passed test None wanted h = absurd cc
passed test (Some value) wanted h =
    let parts = passed_by test value wanted (test value) refl h in
    (ap (λ (v : List ℕ). Some v) parts.0, parts.1)

-- a value that is those octets
pub value_from : (value : Option (List ℕ)) (octets : List ℕ) → is_value value octets ≡ true → value ≡ Some octets
value_from None octets h = absurd cc
value_from (Some value) octets h = ap (λ (v : List ℕ). Some v) ((bytes_eq-Decides value octets).0 h)
