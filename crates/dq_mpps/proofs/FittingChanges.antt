-- A change that adds a step, or replaces one, fits the rows.
use Rattle.std.proofs.Common.{◌≡◌, ℕ, Bool, true, false, ◌&&◌, List, [], ◌∷◌, Some, None, is_some, find, refl, sym, ◌∙◌, ap, subst, if◌then◌else◌, Result, Ok, Err}
use Rattle.std.specs.List.{AllByRecursion}
use Rattle.std.specs.Option.{option_map}
use Rattle.std.specs.Str.{bytes_eq}
use Rattle.std.proofs.lemmas.Slice.Eq.{bytes_eq-Decides}
use Rattle.std.proofs.lemmas.Bool.{and_parts}
use Rattle.dq_value.specs.Uid.{is_uid}
use Rattle.dq_dataset.specs.declared.header.Syntax.TheVariants.{Explicit}
use Rattle.dq_dataset.specs.Tree.{ElementList}
use Rattle.dq_dataset.specs.DataSetReader.{data_set_read}
use Rattle.dq_dataset.specs.Canonical.{canonical}
use Rattle.dq_dataset.specs.declared.fault.ReadFault.{ReadFault}
use Rattle.dq_tables.specs.declared.row.Kind.{Kind}
use Rattle.dq_tables.specs.declared.row.Kind.TheVariants.{Entry, Step}
use Rattle.dq_tables.specs.declared.row.Row.{Row}
use Rattle.dq_tables.specs.Rows.{of, row_of}
use Rattle.dq_tables.specs.Lookups.{same_kind, is_of_kind, row_at, record_at}
use Rattle.dq_tables.specs.Sound.{is_record_of, may_be_started, is_own_row, OwnEach, is_held, has_key, has_above, is_within_limits, IsNew, FitsStep, MayReplace}
use Rattle.dq_tables.specs.StartedEntries.{entries_named}
use Rattle.dq_tables.proofs.OwnRows.{found_own}
use Rattle.dq_tables.proofs.RecordLists.{one_kind}
use Rattle.dq_mpps.specs.Steps.{spelled_step, step_record}
use Rattle.dq_mpps.proofs.NamedEntries.{named_are_there}

same_bytes : (o : List ℕ) → bytes_eq o o ≡ true
same_bytes o = (bytes_eq-Decides o o).1 refl

-- the record of a step is its own
pub own_step : (h uid : List ℕ) (d : ElementList) → data_set_read Explicit (canonical Explicit d) ≡ Ok d → is_uid uid ≡ true
    → is_own_row (row_of h (step_record uid d)) ≡ true
unfolding is_own_row has_key has_above is_within_limits
own_step h uid d back uid_is = rw (back, same_bytes (canonical Explicit d), uid_is) refl

pub new_fits : (h uid : List ℕ) (d : ElementList) (rows : List Row) → data_set_read Explicit (canonical Explicit d) ≡ Ok d → is_uid uid ≡ true
    → record_at Step uid (of h rows) ≡ None → IsNew rows Step (row_of h (step_record uid d))
unfolding is_held
new_fits h uid d rows back uid_is free = record {
  kind_is = refl;
  free = found_own Step h uid rows ∙ ap (option_map (row_of h)) free;
  own = own_step h uid d back uid_is;
  held = refl;
}

-- with the keys of the entries that it names
pub new_step_fits : (h uid : List ℕ) (d : ElementList) (rows : List Row) (keys : List (List ℕ)) → data_set_read Explicit (canonical Explicit d) ≡ Ok d
    → is_uid uid ≡ true → record_at Step uid (of h rows) ≡ None → keys ≡ entries_named (of h rows) d
    → FitsStep rows (row_of h (step_record uid d)) keys
new_step_fits h uid d rows keys back uid_is free keys_are = record {
  step_new = new_fits h uid d rows back uid_is free;
  there = subst (AllByRecursion (λ (key : List ℕ). is_some (row_at Entry h key rows) ≡ true)) (sym keys_are) (named_are_there h rows d);
}

-- ---- a step that is kept has a UID

found_step : {X : Type 0} (P : X → Type 0) (p : X → Bool) (x y : X) (xs : List X) (b : Bool) → p x ≡ b → P x
    → (find p xs ≡ Some y → P y × (p y ≡ true)) → (if b then Some x else find p xs) ≡ Some y → P y × (p y ≡ true)
found_step P p x y xs true e h rest found = (let same : x ≡ y = cc in (subst P same h, subst (λ z. p z ≡ true) same e))
found_step P p x y xs false e h rest found = rest found

found_among : {X : Type 0} (P : X → Type 0) (p : X → Bool) (y : X) (xs : List X) → AllByRecursion P xs → find p xs ≡ Some y → P y × (p y ≡ true)
found_among P p y [] all found = cc
found_among P p y (x ∷ xs) all found = found_step P p x y xs (p x) refl all.0 (found_among P p y xs all.1) found

uid_of_record : (r : Result ElementList ReadFault) (row : Row) → row.kind ≡ Step → is_record_of r row ≡ true → is_uid row.key ≡ true
unfolding has_key
uid_of_record (Err fault) row kind own = cc
uid_of_record (Ok d) row kind own =
    let above = has_above row.kind row.above d && is_within_limits row.kind row.octets in
    let keys = (and_parts (bytes_eq (canonical Explicit d) row.octets) (has_key row.kind row.key d && above) own).1 in
    let has_its_key = (and_parts (has_key row.kind row.key d) above keys).0 in
    subst (λ (k : Kind). has_key k row.key d ≡ true) kind has_its_key

uid_of_row : (row : Row) → row.kind ≡ Step → is_own_row row ≡ true → is_uid row.key ≡ true
unfolding is_own_row
uid_of_row row kind own =
    uid_of_record (data_set_read Explicit row.octets) row kind
    (and_parts (may_be_started row.kind row.started) (is_record_of (data_set_read Explicit row.octets) row) own).1

kept_uid : (h uid : List ℕ) (rows : List Row) (row : Row) → OwnEach rows → row_at Step h uid rows ≡ Some row → is_uid uid ≡ true
unfolding row_at
kept_uid h uid rows row own found =
    let both = found_among (λ (r : Row). is_own_row r ≡ true) (λ (r : Row). is_of_kind Step h r && bytes_eq r.key uid) row rows own found in
    let tests = and_parts (is_of_kind Step h row) (bytes_eq row.key uid) both.1 in
    let kind = one_kind row.kind Step (and_parts (same_kind row.kind Step) (bytes_eq row.inst h) tests.0).0 in
    subst (λ (key : List ℕ). is_uid key ≡ true) ((bytes_eq-Decides row.key uid).0 tests.1) (uid_of_row row kind both.0)

-- a changed step takes the place of the one that is kept
pub changed_fits : (h uid : List ℕ) (d : ElementList) (octets : List ℕ) (rows : List Row) (row : Row) → OwnEach rows → Some row ≡ row_at Step h uid rows
    → octets ≡ canonical Explicit d → data_set_read Explicit octets ≡ Ok d → MayReplace rows Step (row_of h (spelled_step uid octets))
changed_fits h uid d octets rows row own found spelled back =
    let back_again = subst (λ (o : List ℕ). data_set_read Explicit o ≡ Ok d) spelled back in
    record {
      kind_is = refl;
      there = ap is_some (sym found);
      own = subst (λ (o : List ℕ). is_own_row (row_of h (spelled_step uid o)) ≡ true) (sym spelled)
          (own_step h uid d back_again (kept_uid h uid rows row own (sym found)));
    }
