-- The records of a kind, in the order of their keys.
use Rattle.std.proofs.Common.{◌≡◌, ℕ, Bool, true, false, nat_eq, List, [], ◌∷◌, map, filter, refl, sym, ap, ◌∙◌, subst, arith, if◌then◌else◌}
use Rattle.std.specs.List.{AllByRecursion}
use Rattle.std.specs.Str.{bytes_eq}
use Rattle.std.specs.declared.cmp.Ordering.TheVariants.{Less}
use Rattle.std.specs.Ordering.{ordering_then}
use Rattle.std.proofs.lemmas.Bool.{and_parts}
use Rattle.std.proofs.lemmas.Bool.Decides.{nat_tests}
use Rattle.std.proofs.lemmas.Cmp.{nat_cmp_total, nat_list_cmp_total, tied_itself}
use Rattle.std.proofs.lemmas.Slice.Eq.{bytes_eq-Decides}
use Rattle.dq_list.specs.Among.{IsAmong}
use Rattle.dq_list.proofs.Among.{among_filter, filtered_from}
use Rattle.dq_tables.specs.declared.row.Kind.{Kind}
use Rattle.dq_tables.specs.declared.row.Kind.TheVariants.{Study, Series, Image, Entry, Step}
use Rattle.dq_tables.specs.declared.row.Row.{Row}
use Rattle.dq_tables.specs.Rows.{Record, IsRising, octet_order, kind_order, number_of_kind, record_of, row_of, row_place_of, row_place_order, of}
use Rattle.dq_tables.specs.Lookups.{same_kind, is_of_kind, rows_of, rows_above, records_of, records_above}
use Rattle.dq_tables.specs.Records.{AreInOrder}
use Rattle.dq_tables.proofs.Order.{each_passed, each_filtered, IsRising-filter}
use Rattle.dq_tables.proofs.OwnRows.{listed_own, above_own}

-- ---- of one kind

abbrev kind_at : ℕ → Kind
kind_at n = if nat_eq n 1 then Study else (if nat_eq n 2 then Series else (if nat_eq n 3 then Image else (if nat_eq n 4 then Entry else Step)))

kind_back : (k : Kind) → kind_at (number_of_kind k) ≡ k
kind_back Study = refl
kind_back Series = refl
kind_back Image = refl
kind_back Entry = refl
kind_back Step = refl

pub one_kind : (a b : Kind) → same_kind a b ≡ true → a ≡ b
one_kind a b h = grind (arith, nat_tests, kind_back)

pub its_kind : (a b : Kind) → a ≡ b → same_kind a b ≡ true
its_kind a b e = let numbers : number_of_kind a ≡ number_of_kind b = ap number_of_kind e in grind (arith, nat_tests)

pub of_kind_from : (k : Kind) (r : Record) (records : List Record) → IsAmong r (records_of k records) → IsAmong r records × (r.kind ≡ k)
unfolding records_of
of_kind_from k r records h = grind (arith, nat_tests, filtered_from, one_kind)

pub of_kind_to : (k : Kind) (r : Record) (records : List Record) → IsAmong r records → r.kind ≡ k → IsAmong r (records_of k records)
unfolding records_of
of_kind_to k r records h e = among_filter (λ (s : Record). same_kind s.kind k) r records h (its_kind r.kind k e)

-- ---- rows as records

pub own_records : (institution : List ℕ) (records : List Record) → map record_of (map (row_of institution) records) ≡ records
own_records institution [] = refl
own_records institution (r ∷ records) = ap (λ (others : List Record). r ∷ others) (own_records institution records)

-- the rows that are found under another hold the records that are under it
pub found_above : (kind : Kind) (institution above : List ℕ) (rows found : List Row) → found ≡ rows_above kind institution above rows
    → map record_of found ≡ records_above kind above (of institution rows)
found_above kind institution above rows found is =
    ap (map record_of) (is ∙ above_own kind institution above rows) ∙ own_records institution (records_above kind above (of institution rows))

-- ---- in order

abbrev IsAt : Kind → List ℕ → Row → Type 0
IsAt k institution row = (row.kind ≡ k) × (row.inst ≡ institution)

by_key : (k : Kind) (institution : List ℕ) (a b : Row) → IsAt k institution a → IsAt k institution b → row_place_order (row_place_of a) (row_place_of b) ≡ Less
    → octet_order a.key b.key ≡ Less
by_key k institution a b at_a at_b less =
    let kinds = (λ i. kind_order (at_a.0 i) (at_b.0 i)) ∙ tied_itself nat_cmp_total (number_of_kind k) in
    let names = (λ i. octet_order (at_a.1 i) (at_b.1 i)) ∙ tied_itself nat_list_cmp_total institution in
    sym (λ i. ordering_then (ordering_then (kinds i) (names i)) (octet_order a.key b.key)) ∙ less

past_key : (k : Kind) (institution : List ℕ) (row : Row) (rows : List Row) → IsAt k institution row → AllByRecursion (IsAt k institution) rows
    → AllByRecursion (λ (later : Row). row_place_order (row_place_of row) (row_place_of later) ≡ Less) rows
    → AllByRecursion (λ (s : Record). octet_order row.key s.key ≡ Less) (map record_of rows)
past_key k institution row [] at all less = tt
past_key k institution row (later ∷ rows) at all less = (by_key k institution row later at all.0 less.0, past_key k institution row rows at all.1 less.1)

by_keys : (k : Kind) (institution : List ℕ) (rows : List Row) → AllByRecursion (IsAt k institution) rows → IsRising rows → AreInOrder (map record_of rows)
unfolding IsRising
by_keys k institution [] all rising = tt
by_keys k institution (row ∷ rows) all rising = (past_key k institution row rows all.0 all.1 rising.0, by_keys k institution rows all.1 rising.1)

listed_at : (k : Kind) (institution : List ℕ) (rows : List Row) → AllByRecursion (IsAt k institution) (rows_of k institution rows)
unfolding rows_of
listed_at k institution rows =
    each_passed (IsAt k institution) (is_of_kind k institution)
    (λ row h. let parts = and_parts (same_kind row.kind k) (bytes_eq row.inst institution) h in
    (one_kind row.kind k parts.0, (bytes_eq-Decides row.inst institution).0 parts.1)) rows

pub listed_in_order : (k : Kind) (institution : List ℕ) (rows : List Row) → IsRising rows → AreInOrder (records_of k (of institution rows))
unfolding rows_of
listed_in_order k institution rows rising =
    subst AreInOrder (ap (map record_of) (listed_own k institution rows) ∙ own_records institution (records_of k (of institution rows)))
    (by_keys k institution (rows_of k institution rows) (listed_at k institution rows) (IsRising-filter (is_of_kind k institution) rows rising))

pub above_in_order : (k : Kind) (institution above : List ℕ) (rows : List Row) → IsRising rows → AreInOrder (records_above k above (of institution rows))
unfolding rows_of rows_above
above_in_order k institution above rows rising =
    let under = λ (row : Row). bytes_eq row.above above in
    subst AreInOrder (found_above k institution above rows (rows_above k institution above rows) refl)
    (by_keys k institution (rows_above k institution above rows)
    (each_filtered (IsAt k institution) under (rows_of k institution rows) (listed_at k institution rows))
    (IsRising-filter under (rows_of k institution rows) (IsRising-filter (is_of_kind k institution) rows rising)))

-- records that a filter keeps stay in order
in_order_by : (r : Record) (kept : List Record) (b : Bool) → AllByRecursion (λ (s : Record). octet_order r.key s.key ≡ Less) kept → AreInOrder kept
    → AreInOrder (if b then r ∷ kept else kept)
in_order_by r kept true later ordered = (later, ordered)
in_order_by r kept false later ordered = ordered

pub in_order_filter : (p : Record → Bool) (records : List Record) → AreInOrder records → AreInOrder (filter p records)
in_order_filter p [] ordered = tt
in_order_filter p (r ∷ records) ordered =
    in_order_by r (filter p records) (p r) (each_filtered (λ (s : Record). octet_order r.key s.key ≡ Less) p records ordered.0)
    (in_order_filter p records ordered.1)
