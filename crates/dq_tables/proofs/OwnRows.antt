-- What is found among rows is what is found among the institution's records.
use Rattle.std.proofs.Common.{◌≡◌, ℕ, Bool, true, false, not, List, [], ◌∷◌, map, length, take, drop, Option, Some, None, refl, ◌∙◌, ap, arith}
use Rattle.std.specs.List.{filter}
use Rattle.std.specs.Option.{option_map}
use Rattle.std.specs.Ordering.{is_gt}
use Rattle.std.specs.Str.{bytes_eq}
use Rattle.std.proofs.lemmas.Slice.Eq.{bytes_eq-Decides}
use Rattle.std.proofs.lemmas.List.{length-map, take-map, drop-map}
use Rattle.dq_tables.specs.declared.choice.Choice.{Choice}
use Rattle.dq_tables.specs.declared.row.Kind.{Kind}
use Rattle.dq_tables.specs.declared.row.Kind.TheVariants.{Study, Entry}
use Rattle.dq_tables.specs.declared.row.Row.{Row}
use Rattle.dq_tables.specs.Rows.{Record, octet_order, of, row_of, record_of}
use Rattle.dq_tables.specs.StudyChoices.{is_chosen, studies_in, studies_among}
use Rattle.dq_tables.specs.Lookups.{record_at, records_of, records_above, records_after, records_behind, waiting_among, row_at, rows_of, rows_above, rows_after, rows_behind, waiting_entries, same_kind}

own_row : (h : List ℕ) (row : Row) → bytes_eq row.inst h ≡ true → row ≡ row_of h (record_of row)
own_row h row same = ap (λ (i : List ℕ). row_of i (record_of row)) ((bytes_eq-Decides row.inst h).0 same)

found_step : (kind : Kind) (h key : List ℕ) (row : Row) (rows : List Row) → row_at kind h key rows ≡ option_map (row_of h) (record_at kind key (of h rows))
    → (m k b : Bool) → bytes_eq row.inst h ≡ m → same_kind row.kind kind ≡ k → bytes_eq row.key key ≡ b
    → row_at kind h key (row ∷ rows) ≡ option_map (row_of h) (record_at kind key (of h (row ∷ rows)))
unfolding row_at record_at of
found_step kind h key row rows rest true true true m k b = rw (m, k, b) (ap (λ (r : Row). Some r) (own_row h row m))
found_step kind h key row rows rest true true false m k b = rw (m, k, b) rest
found_step kind h key row rows rest true false b' m k b = rw (m, k) rest
found_step kind h key row rows rest false true b' m k b = rw (m, k) rest
found_step kind h key row rows rest false false b' m k b = rw (m, k) rest

pub found_own : (kind : Kind) (h key : List ℕ) (rows : List Row) → row_at kind h key rows ≡ option_map (row_of h) (record_at kind key (of h rows))
unfolding row_at record_at of
found_own kind h key [] = refl
found_own kind h key (row ∷ rows) =
    found_step kind h key row rows (found_own kind h key rows) (bytes_eq row.inst h) (same_kind row.kind kind) (bytes_eq row.key key) refl refl refl

listed_step : (kind : Kind) (h : List ℕ) (row : Row) (rows : List Row) → rows_of kind h rows ≡ map (row_of h) (records_of kind (of h rows))
    → (m k : Bool) → bytes_eq row.inst h ≡ m → same_kind row.kind kind ≡ k
    → rows_of kind h (row ∷ rows) ≡ map (row_of h) (records_of kind (of h (row ∷ rows)))
unfolding rows_of records_of of
listed_step kind h row rows rest true true m k = rw (m, k) (ap (λ (r : Row). r ∷ rows_of kind h rows) (own_row h row m)
    ∙ ap (λ (rs : List Row). row_of h (record_of row) ∷ rs) rest)
listed_step kind h row rows rest true false m k = rw (m, k) rest
listed_step kind h row rows rest false true m k = rw (m, k) rest
listed_step kind h row rows rest false false m k = rw (m, k) rest

pub listed_own : (kind : Kind) (h : List ℕ) (rows : List Row) → rows_of kind h rows ≡ map (row_of h) (records_of kind (of h rows))
unfolding rows_of records_of of
listed_own kind h [] = refl
listed_own kind h (row ∷ rows) = listed_step kind h row rows (listed_own kind h rows) (bytes_eq row.inst h) (same_kind row.kind kind) refl refl

pub filter_map_row : (h : List ℕ) (p : Row → Bool) (rs : List Record)
    → filter p (map (row_of h) rs) ≡ map (row_of h) (filter (λ (r : Record). p (row_of h r)) rs)
filter_map_row h p [] = refl
filter_map_row h p (r ∷ rs) = grind (arith, filter_map_row h p rs)

pub above_own : (kind : Kind) (h above : List ℕ) (rows : List Row) → rows_above kind h above rows ≡ map (row_of h) (records_above kind above (of h rows))
unfolding rows_above records_above
above_own kind h above rows = ap (filter (λ (row : Row). bytes_eq row.above above)) (listed_own kind h rows)
    ∙ filter_map_row h (λ (row : Row). bytes_eq row.above above) (records_of kind (of h rows))

pub chosen_own : (choice : Choice) (h : List ℕ) (rows : List Row) → studies_in choice h rows ≡ map (row_of h) (studies_among choice (of h rows))
unfolding studies_in studies_among
chosen_own choice h rows = ap (filter (λ (row : Row). is_chosen choice (record_of row))) (listed_own Study h rows)
    ∙ filter_map_row h (λ (row : Row). is_chosen choice (record_of row)) (records_of Study (of h rows))

pub waiting_own : (h : List ℕ) (rows : List Row) → waiting_entries h rows ≡ map (row_of h) (waiting_among (of h rows))
waiting_own h rows = ap (filter (λ (row : Row). not row.started)) (listed_own Entry h rows)
    ∙ filter_map_row h (λ (row : Row). not row.started) (records_of Entry (of h rows))

pub window_own : (kind : Kind) (h : List ℕ) (from most : ℕ) (rows : List Row)
    → take most (drop from (rows_of kind h rows)) ≡ map (row_of h) (take most (drop from (records_of kind (of h rows))))
window_own kind h from most rows = ap (λ (rs : List Row). take most (drop from rs)) (listed_own kind h rows)
    ∙ ap (take most) (drop-map (row_of h) from (records_of kind (of h rows)))
    ∙ take-map (row_of h) most (drop from (records_of kind (of h rows)))

pub after_own : (kind : Kind) (h key : List ℕ) (rows : List Row) → rows_after kind h key rows ≡ map (row_of h) (records_after kind key (of h rows))
unfolding rows_after records_after
after_own kind h key rows = ap (filter (λ (row : Row). is_gt (octet_order row.key key))) (listed_own kind h rows)
    ∙ filter_map_row h (λ (row : Row). is_gt (octet_order row.key key)) (records_of kind (of h rows))

pub page_own : (kind : Kind) (h key : List ℕ) (most : ℕ) (rows : List Row)
    → take most (rows_after kind h key rows) ≡ map (row_of h) (take most (records_after kind key (of h rows)))
page_own kind h key most rows = ap (take most) (after_own kind h key rows) ∙ take-map (row_of h) most (records_after kind key (of h rows))

-- those behind a key, where there is one
behind_own : (h : List ℕ) (after : Option (List ℕ)) (rs : List Record) → rows_behind after (map (row_of h) rs) ≡ map (row_of h) (records_behind after rs)
behind_own h None rs = refl
behind_own h (Some key) rs = filter_map_row h (λ (row : Row). is_gt (octet_order row.key key)) rs

page_behind_own : (h : List ℕ) (after : Option (List ℕ)) (most : ℕ) (rows : List Row) (rs : List Record) → rows ≡ map (row_of h) rs
    → take most (rows_behind after rows) ≡ map (row_of h) (take most (records_behind after rs))
page_behind_own h after most rows rs is =
    ap (λ (found : List Row). take most (rows_behind after found)) is
    ∙ ap (take most) (behind_own h after rs)
    ∙ take-map (row_of h) most (records_behind after rs)

pub above_page_own : (kind : Kind) (h above : List ℕ) (after : Option (List ℕ)) (most : ℕ) (rows : List Row)
    → take most (rows_behind after (rows_above kind h above rows))
    ≡ map (row_of h) (take most (records_behind after (records_above kind above (of h rows))))
above_page_own kind h above after most rows = page_behind_own h after most _ _ (above_own kind h above rows)

pub waiting_page_own : (h : List ℕ) (after : Option (List ℕ)) (most : ℕ) (rows : List Row)
    → take most (rows_behind after (waiting_entries h rows))
    ≡ map (row_of h) (take most (records_behind after (waiting_among (of h rows))))
waiting_page_own h after most rows = page_behind_own h after most _ _ (waiting_own h rows)

pub counted_own : (kind : Kind) (h : List ℕ) (rows : List Row) → length (rows_of kind h rows) ≡ length (records_of kind (of h rows))
counted_own kind h rows = ap length (listed_own kind h rows) ∙ length-map (records_of kind (of h rows)) (row_of h)
