-- The records that were there before some were added, as they are found.
use Rattle.std.proofs.Common.{◌≡◌, ℕ, zero, suc, ◌+◌, Bool, true, false, not, ◌&&◌, ◌||◌, List, [], ◌∷◌, map, filter, length, take, drop, Option, Some, None, option_map, refl, sym, ap, subst, ◌∙◌, if◌then◌else◌, arith}
use Rattle.std.specs.List.{AllByRecursion}
use Rattle.std.specs.Option.{option_to_list}
use Rattle.std.specs.Str.{bytes_eq}
use Rattle.std.specs.Ordering.{is_gt}
use Rattle.std.specs.declared.cmp.Ordering.TheVariants.{Less}
use Rattle.std.proofs.lemmas.Bool.{and_parts, or_parts}
use Rattle.std.proofs.lemmas.Cmp.{nat_list_cmp_total, tied_itself}
use Rattle.std.proofs.lemmas.List.{drop-take}
use Rattle.std.proofs.lemmas.Slice.Eq.{bytes_eq-Decides}
use Rattle.dq_tables.specs.declared.choice.Choice.{Choice}
use Rattle.dq_tables.specs.declared.row.Kind.{Kind}
use Rattle.dq_tables.specs.declared.row.Kind.TheVariants.{Study}
use Rattle.dq_tables.specs.declared.row.Row.{Row}
use Rattle.dq_tables.specs.Rows.{Record, octet_order, record_of, row_of}
use Rattle.dq_tables.specs.StudyChoices.{is_chosen, studies_among}
use Rattle.dq_tables.specs.Lookups.{same_kind, record_at, records_of, records_above, records_after, records_behind}
use Rattle.dq_tables.specs.Records.{AreInOrder}
use Rattle.dq_tables.proofs.RecordLists.{one_kind, its_kind, in_order_filter}
use Rattle.dq_tables.proofs.Order.{each_filtered, each_passed, each_weaker, filter_all, both_tests}
use Rattle.dq_tables.proofs.OwnRows.{filter_map_row}
use Rattle.dq_archive.specs.declared.additions.Addition.{Addition}
use Rattle.dq_archive.specs.Additions.{is_added, is_later, of_kind, without, is_touched, unless_later}
use Rattle.dq_archive.proofs.UniqueKeys.{only_named}

abbrev stays : List Addition → Record → Bool
stays later r = not (is_later later r)

-- one test and then another
pub swapped : {X : Type 0} (p q : X → Bool) (xs : List X) → filter p (filter q xs) ≡ filter q (filter p xs)
swapped p q [] = refl
swapped p q (x ∷ xs) = grind (arith, swapped p q xs)

-- ---- what is found among them is found among all, but for those that were added

module _ (later : List Addition) where
  pub left_of_kind : (kind : Kind) (records : List Record) → without later (records_of kind records) ≡ records_of kind (without later records)
  unfolding without records_of
  left_of_kind kind records = swapped (stays later) (λ (r : Record). same_kind r.kind kind) records

  pub left_above : (kind : Kind) (above : List ℕ) (records : List Record) → without later (records_above kind above records) ≡ records_above kind above (without later records)
  unfolding without records_above
  left_above kind above records =
      swapped (stays later) (λ (r : Record). bytes_eq r.above above) (records_of kind records)
      ∙ ap (filter (λ (r : Record). bytes_eq r.above above)) (left_of_kind kind records)

  pub left_after : (kind : Kind) (key : List ℕ) (records : List Record) → without later (records_after kind key records) ≡ records_after kind key (without later records)
  unfolding without records_after
  left_after kind key records =
      swapped (stays later) (λ (r : Record). is_gt (octet_order r.key key)) (records_of kind records)
      ∙ ap (filter (λ (r : Record). is_gt (octet_order r.key key))) (left_of_kind kind records)

  pub left_behind : (after : Option (List ℕ)) (records : List Record) → without later (records_behind after records) ≡ records_behind after (without later records)
  unfolding without
  left_behind None records = refl
  left_behind (Some key) records = swapped (stays later) (λ (r : Record). is_gt (octet_order r.key key)) records

  pub left_chosen : (choice : Choice) (records : List Record) → without later (studies_among choice records) ≡ studies_among choice (without later records)
  unfolding without studies_among
  left_chosen choice records = swapped (stays later) (is_chosen choice) (records_of Study records) ∙ ap (filter (is_chosen choice)) (left_of_kind Study records)

  -- as rows
  pub left_rows : (h : List ℕ) (records : List Record)
      → filter (λ (row : Row). not (is_later later (record_of row))) (map (row_of h) records) ≡ map (row_of h) (without later records)
  unfolding without
  left_rows h records = filter_map_row h (λ (row : Row). not (is_later later (record_of row))) records

-- ---- nothing was added under a record

not_added : (added : Addition) (kind : Kind) (above : List ℕ) (r : Record) → same_kind r.kind kind ≡ true → bytes_eq r.above above ≡ true
    → (same_kind added.kind kind && bytes_eq added.above above) ≡ false → (b : Bool) → is_added added r ≡ b → b ≡ false
not_added added kind above r k u free false is = refl
not_added added kind above r k u free true is =
    let parts = and_parts (same_kind r.kind added.kind) (bytes_eq r.key added.key && bytes_eq r.above added.above) is in
    let keys = and_parts (bytes_eq r.key added.key) (bytes_eq r.above added.above) parts.1 in
    let kind_is : added.kind ≡ kind = sym (one_kind r.kind added.kind parts.0) ∙ one_kind r.kind kind k in
    let above_is : added.above ≡ above = sym ((bytes_eq-Decides r.above added.above).0 keys.1) ∙ (bytes_eq-Decides r.above above).0 u in
    absurd (cc (sym free ∙ (λ i. its_kind added.kind kind kind_is i && (bytes_eq-Decides added.above above).1 above_is i)))

untouched_one : (later : List Addition) (kind : Kind) (above : List ℕ) (r : Record) → is_touched later kind above ≡ false
    → same_kind r.kind kind ≡ true → bytes_eq r.above above ≡ true → is_later later r ≡ false
untouched_one [] kind above r free k u = refl
untouched_one (added ∷ later) kind above r free k u =
    let parts = or_parts (same_kind added.kind kind && bytes_eq added.above above) (is_touched later kind above) free in
    rw (not_added added kind above r k u parts.0 (is_added added r) refl) (untouched_one later kind above r parts.1 k u)

pub untouched_above : (later : List Addition) (kind : Kind) (above : List ℕ) (records : List Record) → is_touched later kind above ≡ false
    → records_above kind above records ≡ records_above kind above (without later records)
unfolding without records_above records_of
untouched_above later kind above records free =
    let under : Record → Bool = λ r. same_kind r.kind kind && bytes_eq r.above above in
    let both = both_tests (λ (r : Record). same_kind r.kind kind) (λ (r : Record). bytes_eq r.above above) records in
    sym (sym (left_above later kind above records) ∙ ap (filter (stays later)) both
    ∙ filter_all (stays later) (filter under records) (each_passed (λ (r : Record). stays later r ≡ true) under
    (λ r h. (let parts = and_parts (same_kind r.kind kind) (bytes_eq r.above above) h in ap not (untouched_one later kind above r free parts.0 parts.1))) records)
    ∙ sym both)

-- ---- the record with a key

one_left_by : (later : List Addition) (h : List ℕ) (r : Record) (o : Option Record) (b : Bool) → is_later later r ≡ b
    → option_to_list o ≡ (if not b then r ∷ [] else []) → option_map (row_of h) o ≡ (if b then None else Some (row_of h r))
one_left_by later h r None true is e = refl
one_left_by later h r (Some s) true is e = absurd cc
one_left_by later h r None false is e = absurd cc
one_left_by later h r (Some s) false is e = (let same : s ≡ r = cc in ap (λ (t : Record). Some (row_of h t)) same)

one_left : (later : List Addition) (h : List ℕ) (p o : Option Record) → option_to_list o ≡ without later (option_to_list p)
    → option_map (row_of h) o ≡ unless_later later (option_map (row_of h) p)
unfolding without
one_left later h None None e = refl
one_left later h None (Some s) e = absurd cc
one_left later h (Some r) o e = one_left_by later h r o (is_later later r) refl e

module _ (later : List Addition) (kind : Kind) (key : List ℕ) (records : List Record) (ordered : AreInOrder (records_of kind records)) where
  keyed : Record → Bool
  keyed r = bytes_eq r.key key

  left_named : option_to_list (record_at kind key (without later records)) ≡ without later (option_to_list (record_at kind key records))
  unfolding without keyed
  left_named =
      sym (only_named kind key (without later records) (subst AreInOrder (left_of_kind later kind records) (in_order_filter (stays later) (records_of kind records) ordered)))
      ∙ ap (filter keyed) (sym (left_of_kind later kind records))
      ∙ swapped keyed (stays later) (records_of kind records)
      ∙ ap (filter (stays later)) (only_named kind key records ordered)

  pub left_at : (h : List ℕ) → unless_later later (option_map (row_of h) (record_at kind key records)) ≡ option_map (row_of h) (record_at kind key (without later records))
  left_at h = sym (one_left later h (record_at kind key records) (record_at kind key (without later records)) left_named)

-- ---- the first of those that are left are among as many more as were added

each_taken : {X : Type 0} (P : X → Type 0) (n : ℕ) (xs : List X) → AllByRecursion P xs → AllByRecursion P (take n xs)
each_taken P zero xs h = tt
each_taken P (suc n) [] h = tt
each_taken P (suc n) (x ∷ xs) h = (h.0, each_taken P n xs h.1)

in_order_take : (n : ℕ) (rs : List Record) → AreInOrder rs → AreInOrder (take n rs)
in_order_take zero rs ordered = tt
in_order_take (suc n) [] ordered = tt
in_order_take (suc n) (r ∷ rs) ordered = (each_taken (λ (s : Record). octet_order r.key s.key ≡ Less) n rs ordered.0, in_order_take n rs ordered.1)

abbrev but : Addition → List Record → List Record
but added rs = filter (λ (r : Record). not (is_added added r)) rs

but_more : (added : Addition) (later : List Addition) (rs : List Record) → without (added ∷ later) rs ≡ but added (without later rs)
unfolding without
but_more added later [] = refl
but_more added later (r ∷ rs) = grind (arith, but_more added later rs)

other_key : (added : Addition) (r s : Record) → is_added added r ≡ true → octet_order r.key s.key ≡ Less → (b : Bool) → is_added added s ≡ b → not b ≡ true
other_key added r s is less false e = refl
other_key added r s is less true e =
    let one = and_parts (bytes_eq r.key added.key) (bytes_eq r.above added.above) (and_parts (same_kind r.kind added.kind) _ is).1 in
    let other = and_parts (bytes_eq s.key added.key) (bytes_eq s.above added.above) (and_parts (same_kind s.kind added.kind) _ e).1 in
    let same : s.key ≡ r.key = (bytes_eq-Decides s.key added.key).0 other.0 ∙ sym ((bytes_eq-Decides r.key added.key).0 one.0) in
    absurd (cc (sym less ∙ ap (octet_order r.key) same ∙ tied_itself nat_list_cmp_total r.key))

none_after : (added : Addition) (r : Record) (rs : List Record) → is_added added r ≡ true → AllByRecursion (λ (s : Record). octet_order r.key s.key ≡ Less) rs
    → but added rs ≡ rs
none_after added r rs is after =
    filter_all (λ (s : Record). not (is_added added s)) rs
    (each_weaker (λ (s : Record). octet_order r.key s.key ≡ Less) (λ (s : Record). not (is_added added s) ≡ true) (λ s less. other_key added r s is less (is_added added s) refl) rs after)

take_twice : {X : Type 0} (m : ℕ) (xs : List X) → take m (take m xs) ≡ take m xs
take_twice zero xs = refl
take_twice (suc m) [] = refl
take_twice (suc m) (x ∷ xs) = ap (λ l. x ∷ l) (take_twice m xs)

one_less_by : (added : Addition) (m : ℕ) (r : Record) (rs : List Record) (b : Bool) → is_added added r ≡ b → AreInOrder (r ∷ rs)
    → (take m (but added rs) ≡ take m (but added (take (suc m) rs)))
    → take (suc m) (if not b then r ∷ but added rs else but added rs) ≡ take (suc m) (if not b then r ∷ but added (take (suc m) rs) else but added (take (suc m) rs))
one_less_by added m r rs true is ordered rest =
    ap (take (suc m)) (none_after added r rs is ordered.0)
    ∙ sym (ap (take (suc m)) (none_after added r (take (suc m) rs) is (each_taken (λ (s : Record). octet_order r.key s.key ≡ Less) (suc m) rs ordered.0)) ∙ take_twice (suc m) rs)
one_less_by added m r rs false is ordered rest = ap (λ l. r ∷ l) rest

one_less : (added : Addition) (m : ℕ) (rs : List Record) → AreInOrder rs → take m (but added rs) ≡ take m (but added (take (suc m) rs))
one_less added m [] ordered = refl
one_less added zero (r ∷ rs) ordered = refl
one_less added (suc m) (r ∷ rs) ordered = one_less_by added m r rs (is_added added r) refl ordered (one_less added m rs ordered.1)

in_order_without : (later : List Addition) (rs : List Record) → AreInOrder rs → AreInOrder (without later rs)
unfolding without
in_order_without later rs ordered = in_order_filter (stays later) rs ordered

pub none_left_out : (rs : List Record) → without [] rs ≡ rs
unfolding without
none_left_out [] = refl
none_left_out (r ∷ rs) = ap (λ l. r ∷ l) (none_left_out rs)

first_left : (later : List Addition) (m n : ℕ) (rs : List Record) → n ≡ m + length later → AreInOrder rs
    → take m (without later rs) ≡ take m (without later (take n rs))
first_left [] m n rs e ordered =
    ap (take m) (none_left_out rs) ∙ sym (take_twice m rs) ∙ ap (λ k. take m (take k rs)) (omega arith) ∙ sym (ap (take m) (none_left_out (take n rs)))
first_left (added ∷ later) m n rs e ordered =
    ap (take m) (but_more added later rs)
    ∙ one_less added m (without later rs) (in_order_without later rs ordered)
    ∙ ap (λ l. take m (but added l)) (first_left later (suc m) n rs (omega arith) ordered)
    ∙ sym (one_less added m (without later (take n rs)) (in_order_without later (take n rs) (in_order_take n rs ordered)))
    ∙ sym (ap (take m) (but_more added later (take n rs)))

-- ---- of records of a kind, only additions of that kind are left out

other_kind : (added : Addition) (kind : Kind) (r : Record) → same_kind r.kind kind ≡ true → same_kind added.kind kind ≡ false
    → (b : Bool) → is_added added r ≡ b → b ≡ false
other_kind added kind r k other false is = refl
other_kind added kind r k other true is =
    let parts = and_parts (same_kind r.kind added.kind) (bytes_eq r.key added.key && bytes_eq r.above added.above) is in
    absurd (cc (sym other ∙ its_kind added.kind kind (sym (one_kind r.kind added.kind parts.0) ∙ one_kind r.kind kind k)))

later_by : (added : Addition) (later : List Addition) (kind : Kind) (r : Record) → same_kind r.kind kind ≡ true → (b : Bool) → same_kind added.kind kind ≡ b
    → is_later later r ≡ is_later (of_kind kind later) r
    → (is_added added r || is_later later r) ≡ is_later (if b then added ∷ of_kind kind later else of_kind kind later) r
later_by added later kind r k true is rest = ap (λ (b : Bool). is_added added r || b) rest
later_by added later kind r k false is rest = rw (other_kind added kind r k is (is_added added r) refl) rest

later_of : (kind : Kind) (later : List Addition) (r : Record) → same_kind r.kind kind ≡ true → is_later later r ≡ is_later (of_kind kind later) r
later_of kind [] r k = refl
later_of kind (added ∷ later) r k = later_by added later kind r k (same_kind added.kind kind) refl (later_of kind later r k)

abbrev pub AreOf : Kind → List Record → Type 0
AreOf kind rs = AllByRecursion (λ (r : Record). same_kind r.kind kind ≡ true) rs

without_of : (kind : Kind) (later : List Addition) (rs : List Record) → AreOf kind rs → without later rs ≡ without (of_kind kind later) rs
unfolding without
without_of kind later [] each = refl
without_of kind later (r ∷ rs) each =
    λ i. if not (later_of kind later r each.0 i) then r ∷ without_of kind later rs each.1 i else without_of kind later rs each.1 i

pub are_of : (kind : Kind) (records : List Record) → AreOf kind (records_of kind records)
unfolding records_of
are_of kind records = each_passed (λ (r : Record). same_kind r.kind kind ≡ true) (λ (r : Record). same_kind r.kind kind) (λ r k. k) records

pub are_of_after : (kind : Kind) (key : List ℕ) (records : List Record) → AreOf kind (records_after kind key records)
unfolding records_after
are_of_after kind key records =
    each_filtered (λ (r : Record). same_kind r.kind kind ≡ true) (λ (r : Record). is_gt (octet_order r.key key)) (records_of kind records) (are_of kind records)

pub are_of_above : (kind : Kind) (above : List ℕ) (records : List Record) → AreOf kind (records_above kind above records)
unfolding records_above
are_of_above kind above records =
    each_filtered (λ (r : Record). same_kind r.kind kind ≡ true) (λ (r : Record). bytes_eq r.above above) (records_of kind records) (are_of kind records)

pub are_of_behind : (kind : Kind) (after : Option (List ℕ)) (rs : List Record) → AreOf kind rs → AreOf kind (records_behind after rs)
are_of_behind kind None rs each = each
are_of_behind kind (Some key) rs each = each_filtered (λ (r : Record). same_kind r.kind kind ≡ true) (λ (r : Record). is_gt (octet_order r.key key)) rs each

module _ (kind : Kind) (later : List Addition) (rs : List Record) (of : AreOf kind rs) where
  pub first_of_kind : (m n : ℕ) → n ≡ m + length (of_kind kind later) → AreInOrder rs → take m (without later rs) ≡ take m (without later (take n rs))
  first_of_kind m n e ordered =
      ap (take m) (without_of kind later rs of)
      ∙ first_left (of_kind kind later) m n rs e ordered
      ∙ ap (take m) (sym (without_of kind later (take n rs) (each_taken (λ (r : Record). same_kind r.kind kind ≡ true) n rs of)))

  -- a part of them from a place on
  pub part_left : (from most n : ℕ) → n ≡ from + most + length (of_kind kind later) → AreInOrder rs
      → take most (drop from (without later rs)) ≡ take most (drop from (without later (take n rs)))
  part_left from most n e ordered =
      sym (drop-take from most (without later rs)) ∙ ap (drop from) (first_of_kind (from + most) n e ordered)
      ∙ drop-take from most (without later (take n rs))

  pub nothing_left_out : length (of_kind kind later) ≡ 0 → rs ≡ without later rs
  nothing_left_out e = none_of (of_kind kind later) e ∙ sym (without_of kind later rs of)
    where
      none_of : (own : List Addition) → length own ≡ 0 → rs ≡ without own rs
      none_of [] e = sym (none_left_out rs)
      none_of (added ∷ own) e = absurd (omega (arith, e))

pub after_in_order : (kind : Kind) (records : List Record) (key : List ℕ) → AreInOrder (records_of kind records) → AreInOrder (records_after kind key records)
unfolding records_after
after_in_order kind records key ordered = in_order_filter (λ (r : Record). is_gt (octet_order r.key key)) (records_of kind records) ordered

pub behind_in_order : (after : Option (List ℕ)) (rs : List Record) → AreInOrder rs → AreInOrder (records_behind after rs)
behind_in_order None rs ordered = ordered
behind_in_order (Some key) rs ordered = in_order_filter (λ (r : Record). is_gt (octet_order r.key key)) rs ordered
