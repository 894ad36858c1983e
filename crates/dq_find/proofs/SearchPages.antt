-- What is left of an open search, a page after the other.
use Rattle.std.proofs.Common.{◌≡◌, ℕ, zero, suc, ◌+◌, ◌<◌, ◌≤◌, ◌⊎◌, Bool, true, false, List, [], ◌∷◌, ◌++◌, map, filter, length, take, drop, Option, Some, None, refl, sym, ap, subst, ◌∙◌, append_assoc, arith, if◌then◌else◌, inl, inr}
use Rattle.std.specs.List.{AllByRecursion, filter_map}
use Rattle.std.specs.Ordering.{is_gt, ordering_reverse}
use Rattle.std.specs.declared.cmp.Ordering.{Ordering}
use Rattle.std.specs.declared.cmp.Ordering.TheVariants.{Less, Equal, Greater}
use Rattle.std.proofs.lemmas.Cmp.{nat_list_cmp_total, tied_itself}
use Rattle.std.proofs.lemmas.List.{take-append-drop, drop-drop}
use Rattle.std.proofs.lemmas.List.Elements.{filter_map-append}
use Rattle.dq_tables.specs.declared.row.Row.{Row}
use Rattle.dq_tables.specs.Rows.{Record, octet_order, row_of}
use Rattle.dq_tables.specs.Records.{AreInOrder}
use Rattle.dq_tables.proofs.RecordLists.{in_order_filter}
use Rattle.dq_tables.proofs.Order.{each_weaker, each_passed, filter_all}
use Rattle.dq_find.specs.declared.open_search.SearchCursor.{SearchCursor}
use Rattle.dq_find.specs.declared.open_search.SearchCursor.TheVariants.{Under, Named, Nothing}
use Rattle.dq_find.specs.declared.open_search.OpenSearch.{OpenSearch}
use Rattle.dq_find.specs.declared.query.Query.{Query}
use Rattle.dq_find.specs.Candidates.{named_record}
use Rattle.dq_find.specs.Queries.{record_answer, asked_records, records_behind}
use Rattle.dq_find.specs.OpenSearches.{candidates_left, left_of, next_candidates, last_key, under_after, left_after}
use Rattle.dq_find.proofs.FromPlace.{past_all}

abbrev pub behind : List ℕ → Record → Bool
behind key r = is_gt (octet_order r.key key)

-- ---- in order, those behind a record are those after it

later_behind : (key : List ℕ) (rs : List Record) → AllByRecursion (λ (s : Record). octet_order key s.key ≡ Less) rs → filter (behind key) rs ≡ rs
later_behind key rs after =
    filter_all (behind key) rs
    (each_weaker (λ (s : Record). octet_order key s.key ≡ Less) (λ (s : Record). behind key s ≡ true)
    (λ s less. ap is_gt (greater key s.key less)) rs after)
  where
    greater : (a b : List ℕ) → octet_order a b ≡ Less → octet_order b a ≡ Greater
    greater a b less = nat_list_cmp_total.antisymm b a ∙ ap ordering_reverse less

pub split_behind : (before : List Record) (r : Record) (later : List Record) → AreInOrder (before ++ (r ∷ later)) → filter (behind r.key) (before ++ (r ∷ later)) ≡ later
split_behind [] r later ordered = rw (tied_itself nat_list_cmp_total r.key) (later_behind r.key later ordered.0)
split_behind (x ∷ before) r later ordered =
    rw (each_middle (λ (s : Record). octet_order x.key s.key ≡ Less) before r later ordered.0) (split_behind before r later ordered.1)
  where
    each_middle : (P : Record → Type 0) (xs : List Record) (y : Record) (ys : List Record) → AllByRecursion P (xs ++ (y ∷ ys)) → P y
    each_middle P [] y ys each = each.0
    each_middle P (x ∷ xs) y ys each = each_middle P xs y ys each.1

-- ---- a filter that lets through no more than another

narrower_by : (p q : Record → Bool) (r : Record) (rs : List Record) (a b : Bool) → p r ≡ a → q r ≡ b → (p r ≡ true → q r ≡ true)
    → filter p (filter q rs) ≡ filter p rs → filter p (if b then r ∷ filter q rs else filter q rs) ≡ (if a then r ∷ filter p rs else filter p rs)
narrower_by p q r rs true true a b imp rest = rw a (ap (λ l. r ∷ l) rest)
narrower_by p q r rs false true a b imp rest = rw a rest
narrower_by p q r rs true false a b imp rest = absurd (cc (sym b ∙ imp a))
narrower_by p q r rs false false a b imp rest = rest

pub narrower : (p q : Record → Bool) → ((r : Record) → p r ≡ true → q r ≡ true) → (rs : List Record) → filter p (filter q rs) ≡ filter p rs
narrower p q imp [] = refl
narrower p q imp (r ∷ rs) = narrower_by p q r rs (p r) (q r) refl refl (imp r) (narrower p q imp rs)

-- behind a key that is behind another
gt_less : (o : Ordering) → is_gt o ≡ true → o ≡ Greater
gt_less Less h = absurd cc
gt_less Equal h = absurd cc
gt_less Greater h = refl

behind_further : (key further : List ℕ) (s : Record) → is_gt (octet_order further key) ≡ true → behind further s ≡ true → behind key s ≡ true
behind_further key further s gt h =
    let one : octet_order key further ≡ Less = nat_list_cmp_total.antisymm key further ∙ ap ordering_reverse (gt_less (octet_order further key) gt) in
    let two : octet_order further s.key ≡ Less = nat_list_cmp_total.antisymm further s.key ∙ ap ordering_reverse (gt_less (octet_order s.key further) h) in
    ap is_gt (nat_list_cmp_total.antisymm s.key key ∙ ap ordering_reverse (nat_list_cmp_total.trans key further s.key one two))

module _ (records : List Record) (ordered : AreInOrder records) where
  behind_ordered : (key : Option (List ℕ)) → AreInOrder (records_behind key records)
  behind_ordered None = ordered
  behind_ordered (Some key) = in_order_filter (behind key) records ordered

  -- those behind one of those that are behind a key
  behind_one : (key : Option (List ℕ)) (before : List Record) (r : Record) (later : List Record) → records_behind key records ≡ before ++ (r ∷ later)
      → filter (behind r.key) records ≡ filter (behind r.key) (records_behind key records)
  behind_one None before r later is = refl
  behind_one (Some key) before r later is =
      sym (narrower (behind r.key) (behind key) (λ s. behind_further key r.key s (middle_passed before is)) records)
    where
      middle_of : (xs : List Record) → AllByRecursion (λ (s : Record). behind key s ≡ true) (xs ++ (r ∷ later)) → behind key r ≡ true
      middle_of [] each = each.0
      middle_of (x ∷ xs) each = middle_of xs each.1

      middle_passed : (xs : List Record) → filter (behind key) records ≡ xs ++ (r ∷ later) → behind key r ≡ true
      middle_passed xs e =
          middle_of xs (subst (AllByRecursion (λ (s : Record). behind key s ≡ true)) e
          (each_passed (λ (s : Record). behind key s ≡ true) (behind key) (λ s h. h) records))

  -- those after one of them are those behind it
  pub later_of_one : (key : Option (List ℕ)) (before : List Record) (r : Record) (later : List Record) → records_behind key records ≡ before ++ (r ∷ later)
      → filter (behind r.key) records ≡ later
  later_of_one key before r later is =
      behind_one key before r later is ∙ ap (filter (behind r.key)) is ∙ split_behind before r later (subst AreInOrder is (behind_ordered key))

  -- those after a page of them are those behind its last
  pub after_last : (key : Option (List ℕ)) (most : ℕ) (before : List Record) (r : Record) → take most (records_behind key records) ≡ before ++ (r ∷ [])
      → drop most (records_behind key records) ≡ filter (behind r.key) records
  after_last key most before r page =
      let whole = records_behind key records in
      let later = drop most whole in
      let is : whole ≡ before ++ (r ∷ later) = sym (take-append-drop most whole) ∙ ap (λ l. l ++ later) page ∙ append_assoc before (r ∷ []) later in
      sym (later_of_one key before r later is)

-- ---- some keys, and those that are left of them

left_keys : (keys : List (List ℕ)) (from most : ℕ) → drop (from + length (take most (drop from keys))) keys ≡ drop most (drop from keys)
left_keys keys from most =
    sym (drop-drop (length (take most (drop from keys))) from keys) ∙ as_many most (drop from keys)
  where
    as_many : (n : ℕ) (xs : List (List ℕ)) → drop (length (take n xs)) xs ≡ drop n xs
    as_many zero xs = refl
    as_many (suc n) [] = refl
    as_many (suc n) (x ∷ xs) = as_many n xs

-- ---- what is looked at, and what is left then

-- none, or some and a last one
pub ends_of : (xs : List Record) → (xs ≡ []) ⊎ ((before : List Record) × (r : Record) × (xs ≡ before ++ (r ∷ [])))
ends_of [] = inl refl
ends_of (x ∷ xs) = inr (one_more x xs (ends_of xs))
  where
    one_more : (x : Record) (xs : List Record) → (xs ≡ []) ⊎ ((before : List Record) × (r : Record) × (xs ≡ before ++ (r ∷ [])))
        → (before : List Record) × (r : Record) × (x ∷ xs ≡ before ++ (r ∷ []))
    one_more x xs (inl none) = ([], x, ap (λ l. x ∷ l) none)
    one_more x xs (inr (before, r, is)) = (x ∷ before, r, ap (λ l. x ∷ l) is)

pub last_of : (h : List ℕ) (before : List Record) (r : Record) → last_key (map (row_of h) (before ++ (r ∷ []))) ≡ Some r.key
last_of h [] r = refl
last_of h (x ∷ []) r = refl
last_of h (x ∷ (y ∷ before)) r = last_of h (y ∷ before) r

none_first : (most : ℕ) (xs : List Record) → 0 < most → take most xs ≡ [] → xs ≡ []
none_first most [] some none = refl
none_first zero (x ∷ xs) some none = absurd (omega arith)
none_first (suc most) (x ∷ xs) some none = absurd cc

module _ (h : List ℕ) (most : ℕ) (some : 0 < most) (records : List Record) (query : Query) (ordered : AreInOrder (asked_records records query)) where
  abbrev looked_at : SearchCursor → List Record
  looked_at left = next_candidates most records query left

  abbrev then_left : SearchCursor → SearchCursor
  then_left left = left_after most (map (row_of h) (looked_at left)) left

  abbrev asked : Option (List ℕ) → List Record
  asked key = records_behind key (asked_records records query)

  asked_pass : (key : Option (List ℕ)) → asked key
      ≡ take most (asked key) ++ candidates_left records query (under_after (last_key (map (row_of h) (take most (asked key)))))
  asked_pass key = by_end (ends_of page)
    where
      page : List Record
      page = take most (asked key)

      by_end : (page ≡ []) ⊎ ((before : List Record) × (r : Record) × (page ≡ before ++ (r ∷ [])))
          → asked key ≡ page ++ candidates_left records query (under_after (last_key (map (row_of h) page)))
      by_end (inl none) = none_first most (asked key) some none
          ∙ sym (ap (λ l. l ++ candidates_left records query (under_after (last_key (map (row_of h) l)))) none)
      by_end (inr (before, r, is)) = sym (take-append-drop most (asked key))
          ∙ ap (λ l. page ++ l) (after_last (asked_records records query) ordered key most before r is)
          ∙ sym (ap (λ k. page ++ candidates_left records query (under_after k)) (ap (λ l. last_key (map (row_of h) l)) is ∙ last_of h before r))

  named_pass : (keys : List (List ℕ)) (from : ℕ) → filter_map (named_record records query) (drop from keys)
      ≡ filter_map (named_record records query) (take most (drop from keys))
      ++ filter_map (named_record records query) (drop (from + length (take most (drop from keys))) keys)
  named_pass keys from =
      ap (filter_map (named_record records query)) (sym (take-append-drop most (drop from keys)))
      ∙ filter_map-append (named_record records query) (take most (drop from keys)) (drop most (drop from keys))
      ∙ ap (λ l. filter_map (named_record records query) (take most (drop from keys)) ++ filter_map (named_record records query) l) (sym (left_keys keys from most))

  pub passed : (left : SearchCursor) → candidates_left records query left ≡ looked_at left ++ candidates_left records query (then_left left)
  passed (Under key) = asked_pass key
  passed (Named keys from) = named_pass keys from
  passed Nothing = refl

  -- the answers of those that are looked at stand first
  pub page_first : (called : List ℕ) (left : SearchCursor) → filter_map (record_answer records called query) (candidates_left records query left)
      ≡ filter_map (record_answer records called query) (looked_at left)
      ++ filter_map (record_answer records called query) (candidates_left records query (then_left left))
  page_first called left =
      ap (filter_map (record_answer records called query)) (passed left)
      ∙ filter_map-append (record_answer records called query) (looked_at left) (candidates_left records query (then_left left))

-- nothing is left of keys from their end on
pub none_left : (search : OpenSearch) (keys : List (List ℕ)) (from : ℕ) (records : List Record) → search.cursor ≡ Named keys from → length keys ≤ from
    → left_of search records ≡ []
unfolding left_of
none_left search keys from records is le =
    ap (λ (l : SearchCursor). filter_map (record_answer records search.called search.query) (candidates_left records search.query l)) is
    ∙ ap (λ l. filter_map (record_answer records search.called search.query) (filter_map (named_record records search.query) l)) (past_all keys from le)

pub nothing_left : (search : OpenSearch) (records : List Record) → search.cursor ≡ Nothing → left_of search records ≡ []
unfolding left_of
nothing_left search records is =
    ap (λ (l : SearchCursor). filter_map (record_answer records search.called search.query) (candidates_left records search.query l)) is

pub last_row : (before : List Row) (row : Row) → last_key (before ++ (row ∷ [])) ≡ Some row.key
last_row [] row = refl
last_row (x ∷ []) row = refl
last_row (x ∷ (y ∷ before)) row = last_row (y ∷ before) row

-- the keys of rows are those of their records
pub keys_of_rows : (h : List ℕ) (rs : List Record) → map (λ (row : Row). row.key) (map (row_of h) rs) ≡ map (λ (r : Record). r.key) rs
keys_of_rows h [] = refl
keys_of_rows h (r ∷ rs) = ap (λ l. r.key ∷ l) (keys_of_rows h rs)
