-- What the kept steps start, and which rows these are.
use Rattle.std.proofs.Common.{◌≡◌, ℕ, ◌+◌, ◌<◌, ◌≤◌, Bool, true, false, ◌&&◌, ◌||◌, List, [], ◌∷◌, ◌++◌, length, get_or, take, map, filter, append-nil, if◌then◌else◌, Option, Some, None, refl, sym, ap, ap₂, subst, ◌∙◌}
use Rattle.std.specs.List.{AllByRecursion, find, list_any}
use Rattle.std.specs.Ordering.{is_lt, is_eq, is_gt}
use Rattle.std.specs.declared.cmp.Ordering.{Ordering}
use Rattle.std.specs.declared.cmp.Ordering.TheVariants.{Less, Equal, Greater}
use Rattle.std.specs.Str.{bytes_eq}
use Rattle.std.proofs.lemmas.List.{map-append, take_all, take_more}
use Rattle.std.proofs.lemmas.List.Elements.{filter-append}
use Rattle.dq_tables.specs.declared.row.Kind.TheVariants.{Entry, Step}
use Rattle.dq_tables.specs.declared.row.Row.{Row}
use Rattle.dq_tables.specs.Rows.{RowPlace, Operation, Start, by, place, row_place_of, row_place_order, rows_before, rows_past, after, after_edit, after_edits, after_all, IsRising, same_kind}
use Rattle.dq_tables.specs.Lookups.{is_of_kind, row_at}
use Rattle.dq_tables.specs.Records.{data_set_of}
use Rattle.dq_tables.specs.StartedEntries.{ids_named, names}
use Rattle.dq_tables.specs.Sound.{IsSound}
use Rattle.dq_tables.proofs.Order.{is_at, is_before, is_past, each_passed, IsRising-split}
use Rattle.dq_tables.proofs.InOrder.{at_is_found, row_at_is}
use Rattle.dq_tables.proofs.Members.{one_at}
use Rattle.dq_tables.proofs.Lens.{rising}
use Rattle.dq_tables.proofs.StartedEntries.{started, is_found, start_is_put, start_of_none}
use Rattle.dq_tables.proofs.Soundness.{starts_sound}
use Rattle.dq_sql.specs.declared.kept_steps.NamedEntries.{NamedEntries}
use Rattle.dq_sql.specs.MigratedRows.{starts_of, starting_operation, steps_among, migrated_rows, is_entry_named, with_start}

-- ---- rows that are started by a test

abbrev start_if : Bool → Row → Row
start_if b row = if b then started row else row

abbrev start_by : (Row → Bool) → Row → Row
start_by p row = start_if (p row) row

-- rows that no test starts
unchanged : (p : Row → Bool) (rows : List Row) → AllByRecursion (λ (row : Row). p row ≡ false) rows → map (start_by p) rows ≡ rows
unchanged p [] none = refl
unchanged p (row ∷ rows) none = rw (none.0) (ap (λ l. row ∷ l) (unchanged p rows none.1))

-- tests that agree start the same rows
same_by : (p q : Row → Bool) → ((row : Row) → p row ≡ q row) → (rows : List Row) → map (start_by p) rows ≡ map (start_by q) rows
same_by p q agree [] = refl
same_by p q agree (row ∷ rows) = ap₂ ◌∷◌ (ap (λ b. start_if b row) (agree row)) (same_by p q agree rows)

started_again : (b : Bool) (row : Row) → start_if b (started row) ≡ started row
started_again true row = refl
started_again false row = refl

-- two tests in turn, of which the second does not see what is started
then_by : (p q : Row → Bool) → ((row : Row) → q (started row) ≡ q row) → (rows : List Row)
    → map (start_by q) (map (start_by p) rows) ≡ map (start_by (λ row. p row || q row)) rows
then_by p q blind [] = refl
then_by p q blind (row ∷ rows) = ap₂ ◌∷◌ (each (p row)) (then_by p q blind rows)
  where
    each : (b : Bool) → start_by q (start_if b row) ≡ start_if (b || q row) row
    each true = started_again (q (started row)) row
    each false = refl

-- ---- one entry

not_before : (o : Ordering) → is_lt o ≡ true → is_eq o ≡ false
not_before Less e = refl
not_before Equal e = absurd (cc)
not_before Greater e = absurd (cc)

not_past : (o : Ordering) → is_gt o ≡ true → is_eq o ≡ false
not_past Less e = absurd (cc)
not_past Equal e = absurd (cc)
not_past Greater e = refl

-- at a place where one row is, that row is started
one_started : (p : RowPlace) (rows : List Row) (row : Row) → IsRising rows → row_at p.kind p.institution p.key rows ≡ Some row
    → map (start_by (is_at p)) rows ≡ (rows_before p rows ++ started row ∷ []) ++ rows_past p rows
one_started p rows row rising found =
    let here : filter (is_at p) rows ≡ row ∷ [] = one_at p rows row rising found in
    let first = unchanged (is_at p) (rows_before p rows)
    (each_passed (λ (r : Row). is_at p r ≡ false) (is_before p) (λ (r : Row) h. not_before (row_place_order (row_place_of r) p) h) rows) in
    let last = unchanged (is_at p) (rows_past p rows)
    (each_passed (λ (r : Row). is_at p r ≡ false) (is_past p) (λ (r : Row) h. not_past (row_place_order (row_place_of r) p) h) rows) in
    let it : is_at p row ≡ true = (subst (AllByRecursion (λ (r : Row). is_at p r ≡ true)) here
    (each_passed (λ (r : Row). is_at p r ≡ true) (is_at p) (λ (r : Row) h. h) rows)).0 in
    ap (map (start_by (is_at p))) (IsRising-split p rows rising)
    ∙ map-append (start_by (is_at p)) (rows_before p rows ++ filter (is_at p) rows) (rows_past p rows)
    ∙ ap₂ ◌++◌ (map-append (start_by (is_at p)) (rows_before p rows) (filter (is_at p) rows)
    ∙ ap₂ ◌++◌ first (ap (map (start_by (is_at p))) here ∙ ap (λ b. start_if b row ∷ []) it)) last

none_step : (p : Row → Bool) (row : Row) (rows : List Row) (b : Bool) → p row ≡ b → find p (row ∷ rows) ≡ None
    → (find p rows ≡ None → AllByRecursion (λ (r : Row). p r ≡ false) rows) → AllByRecursion (λ (r : Row). p r ≡ false) (row ∷ rows)
none_step p row rows true e none on = absurd (let wrong = rw e at none in cc)
none_step p row rows false e none on = (e, on (rw e at none))

none_at : (p : Row → Bool) (rows : List Row) → find p rows ≡ None → AllByRecursion (λ (row : Row). p row ≡ false) rows
none_at p [] none = tt
none_at p (row ∷ rows) none = none_step p row rows (p row) refl none (none_at p rows)

start_at : (h key : List ℕ) (rows : List Row) → IsRising rows → (o : Option Row) → row_at Entry h key rows ≡ o
    → after_edit h (Start key) rows ≡ map (start_by (is_at (place Entry h key))) rows
unfolding after_edit
start_at h key rows up None e =
    let p = place Entry h key in
    start_of_none h key rows up e ∙ sym (unchanged (is_at p) rows (none_at (is_at p) rows (sym (row_at_is p rows) ∙ e)))
start_at h key rows up (Some row) e =
    let it = is_found h key rows row e in
    let p = row_place_of row in
    let here : place Entry h key ≡ p = rw (it.kind_is, it.inst_is, it.key_is) refl in
    let same : row_at p.kind p.institution p.key rows ≡ row_at Entry h key rows = rw (it.kind_is, it.inst_is, it.key_is) refl in
    start_is_put h key rows row e
    ∙ sym (rw here (one_started p rows row up (same ∙ e)))

-- ---- the entries of an institution with some ids

abbrev is_listed : List ℕ → List (List ℕ) → Row → Bool
is_listed h ids row = is_of_kind Entry h row && list_any (bytes_eq row.key) ids

and_none : (a : Bool) → (a && false) ≡ false
and_none true = refl
and_none false = refl

both_or : (a b c : Bool) → ((a && b) || (a && c)) ≡ (a && (b || c))
both_or true b c = refl
both_or false b c = refl

none_listed : (h : List ℕ) (rows : List Row) → AllByRecursion (λ (row : Row). is_listed h [] row ≡ false) rows
none_listed h [] = tt
none_listed h (row ∷ rows) = (and_none (is_of_kind Entry h row), none_listed h rows)

ids_started : (h : List ℕ) (ids : List (List ℕ)) (rows : List Row) → IsRising rows
    → after_edits h (map Start ids) rows ≡ map (start_by (is_listed h ids)) rows
ids_started h [] rows up = sym (unchanged (is_listed h []) rows (none_listed h rows))
ids_started h (id ∷ ids) rows up =
    let p = place Entry h id in
    ids_started h ids (after_edit h (Start id) rows) (rising (by h (Start id ∷ [])) rows up)
    ∙ ap (map (start_by (is_listed h ids))) (start_at h id rows up (row_at Entry h id rows) refl)
    ∙ then_by (is_at p) (is_listed h ids) (λ row. refl) rows
    ∙ same_by (λ row. is_at p row || is_listed h ids row) (is_listed h (id ∷ ids))
    (λ row. ap (λ b. b || is_listed h ids row) (sym (at_is_found p row)) ∙ both_or (is_of_kind Entry h row) (bytes_eq row.key id) (list_any (bytes_eq row.key) ids)) rows

-- ---- all steps

abbrev names_it : Row → Row → Bool
names_it row step = is_of_kind Entry step.inst row && names (data_set_of step.octets) row.key

none_named : (rows : List Row) → AllByRecursion (λ (row : Row). list_any (names_it row) [] ≡ false) rows
none_named [] = tt
none_named (row ∷ rows) = (refl, none_named rows)

steps_started : (steps rows : List Row) → IsRising rows → after_all (map starts_of steps) rows ≡ map (start_by (λ row. list_any (names_it row) steps)) rows
steps_started [] rows up = sym (unchanged (λ row. list_any (names_it row) []) rows (none_named rows))
steps_started (step ∷ steps) rows up =
    steps_started steps (after (starts_of step) rows) (rising (starts_of step) rows up)
    ∙ ap (map (start_by (λ row. list_any (names_it row) steps))) (ids_started step.inst (ids_named (data_set_of step.octets)) rows up)
    ∙ then_by (is_listed step.inst (ids_named (data_set_of step.octets))) (λ row. list_any (names_it row) steps) (λ row. refl) rows

any_step : (p q : Row → Bool) (row : Row) (rows : List Row) (b : Bool) → p row ≡ b → list_any q (filter p rows) ≡ list_any (λ r. p r && q r) rows
    → list_any q (filter p (row ∷ rows)) ≡ list_any (λ r. p r && q r) (row ∷ rows)
any_step p q row rows true e on = rw e (ap (λ rest. q row || rest) on)
any_step p q row rows false e on = rw e on

any_chosen : (p q : Row → Bool) (rows : List Row) → list_any q (filter p rows) ≡ list_any (λ row. p row && q row) rows
any_chosen p q [] = refl
any_chosen p q (row ∷ rows) = any_step p q row rows (p row) refl (any_chosen p q rows)

-- The rows are those that were there, each started where it is an entry that a kept step names.
pub migrated_is : (rows : List Row) → IsRising rows → migrated_rows rows ≡ map (with_start rows) rows
unfolding migrated_rows
migrated_is rows up =
    steps_started (steps_among rows) rows up
    ∙ same_by (λ row. list_any (names_it row) (steps_among rows)) (is_entry_named rows)
    (λ row. any_chosen (λ (step : Row). same_kind step.kind Step) (names_it row) rows) rows

-- ---- sound rows

all_sound : (steps rows : List Row) → IsSound rows → IsSound (after_all (map starts_of steps) rows)
all_sound [] rows sound = sound
all_sound (step ∷ steps) rows sound =
    all_sound steps (after (starts_of step) rows) (starts_sound step.inst (ids_named (data_set_of step.octets)) rows sound)

pub migrated_sound : (rows : List Row) → IsSound rows → IsSound (migrated_rows rows)
unfolding migrated_rows
migrated_sound rows sound = all_sound (steps_among rows) rows sound

-- ---- in turn

all_append : (os ps : List Operation) (rows : List Row) → after_all (os ++ ps) rows ≡ after_all ps (after_all os rows)
all_append [] ps rows = refl
all_append (o ∷ os) ps rows = all_append os ps (after o rows)

-- what one more step starts
pub next_starts : (all : List NamedEntries) (i : ℕ) (starts : NamedEntries) (rows mid new : List Row) → i < length all → starts ≡ get_or all i starts
    → mid ≡ after_all (map starting_operation (take i all)) rows → new ≡ after (starting_operation starts) mid → new ≡ after_all (map starting_operation (take (i + 1) all)) rows
next_starts all i starts rows mid new within is had next =
    next ∙ ap (after (starting_operation starts)) had
    ∙ sym (all_append (map starting_operation (take i all)) (starting_operation starts ∷ []) rows)
    ∙ ap (λ os. after_all os rows) (sym (map-append starting_operation (take i all) (starts ∷ [])) ∙ ap (λ l. map starting_operation (take i all ++ l ∷ [])) is
    ∙ ap (map starting_operation) (sym (take_more all i starts within)))

-- all steps
pub all_started : (all given : List NamedEntries) (i : ℕ) (rows shown new : List Row) → shown ≡ rows → map starting_operation all ≡ map starts_of (steps_among shown)
    → given ≡ all → length given ≤ i → new ≡ after_all (map starting_operation (take i given)) rows → new ≡ migrated_rows rows
unfolding migrated_rows
all_started all given i rows shown new same found is whole done =
    done ∙ ap (λ l. after_all (map starting_operation l) rows) (take_all i given whole ∙ is)
    ∙ ap (λ os. after_all os rows) (found ∙ ap (λ l. map starts_of (steps_among l)) same)
