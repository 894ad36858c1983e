-- Records in order that are read a few at a time: those behind the last key of a read are those that it left.
use Rattle.std.proofs.Common.{◌≡◌, ℕ, zero, suc, ◌<◌, ◌⊎◌, Bool, true, false, List, [], ◌∷◌, ◌++◌, map, filter, take, drop, Option, Some, None, refl, sym, ap, subst, ◌∙◌, append_assoc, arith, if◌then◌else◌, inl, inr}
use Rattle.std.specs.List.{AllByRecursion}
use Rattle.std.specs.Ordering.{is_gt, ordering_reverse}
use Rattle.std.specs.declared.cmp.Ordering.TheVariants.{Less, Greater}
use Rattle.std.specs.declared.cmp.Ordering.{Ordering}
use Rattle.std.proofs.lemmas.Cmp.{nat_list_cmp_total, tied_itself}
use Rattle.std.proofs.lemmas.List.{take-append-drop}
use Rattle.dq_tables.specs.declared.row.Row.{Row}
use Rattle.dq_tables.specs.Rows.{Record, octet_order, row_of}
use Rattle.dq_tables.specs.Lookups.{records_behind}
use Rattle.dq_tables.specs.Records.{AreInOrder}
use Rattle.dq_tables.proofs.Order.{each_weaker, filter_all}
use Rattle.dq_worklist.specs.EntryReads.{last_key, left_behind}

abbrev behind : List ℕ → Record → Bool
behind key r = is_gt (octet_order r.key key)

-- ---- in order, those behind a record are those after it

greater : (a b : List ℕ) → octet_order a b ≡ Less → octet_order b a ≡ Greater
greater a b less = nat_list_cmp_total.antisymm b a ∙ ap ordering_reverse less

later_behind : (key : List ℕ) (rs : List Record) → AllByRecursion (λ (s : Record). octet_order key s.key ≡ Less) rs → filter (behind key) rs ≡ rs
later_behind key rs after =
    filter_all (behind key) rs
    (each_weaker (λ (s : Record). octet_order key s.key ≡ Less) (λ (s : Record). behind key s ≡ true)
    (λ s less. ap is_gt (greater key s.key less)) rs after)

each_middle : (P : Record → Type 0) (xs : List Record) (y : Record) (ys : List Record) → AllByRecursion P (xs ++ (y ∷ ys)) → P y
each_middle P [] y ys each = each.0
each_middle P (x ∷ xs) y ys each = each_middle P xs y ys each.1

split_behind : (before : List Record) (r : Record) (later : List Record) → AreInOrder (before ++ (r ∷ later)) → filter (behind r.key) (before ++ (r ∷ later)) ≡ later
split_behind [] r later ordered = rw (tied_itself nat_list_cmp_total r.key) (later_behind r.key later ordered.0)
split_behind (x ∷ before) r later ordered =
    rw (each_middle (λ (s : Record). octet_order x.key s.key ≡ Less) before r later ordered.0) (split_behind before r later ordered.1)

-- ---- those behind a key are the last of them

-- a list ends with another
abbrev pub EndsWith : List Record → List Record → Type 0
EndsWith all end = (before : List Record) × (all ≡ before ++ end)

gt_less : (o : Ordering) → is_gt o ≡ true → o ≡ Greater
gt_less o h = grind arith

-- those after one that is behind a key are behind it
later_too : (key : List ℕ) (r s : Record) → behind key r ≡ true → octet_order r.key s.key ≡ Less → behind key s ≡ true
later_too key r s h less =
    let first : octet_order key r.key ≡ Less = nat_list_cmp_total.antisymm key r.key ∙ ap ordering_reverse (gt_less (octet_order r.key key) h) in
    ap is_gt (greater key s.key (nat_list_cmp_total.trans key r.key s.key first less))

ends_step : (key : List ℕ) (r : Record) (rs : List Record) (b : Bool) → behind key r ≡ b
    → AllByRecursion (λ (s : Record). octet_order r.key s.key ≡ Less) rs → EndsWith rs (filter (behind key) rs)
    → EndsWith (r ∷ rs) (if b then r ∷ filter (behind key) rs else filter (behind key) rs)
ends_step key r rs true h later rest = (
  [],
  ap (λ (l : List Record). r ∷ l) (sym (filter_all (behind key) rs
      (each_weaker (λ (s : Record). octet_order r.key s.key ≡ Less) (λ (s : Record). behind key s ≡ true) (λ s less. later_too key r s h less) rs later))),
)
ends_step key r rs false h later rest = (r ∷ rest.0, ap (λ (l : List Record). r ∷ l) rest.1)

ends_behind : (key : List ℕ) (rs : List Record) → AreInOrder rs → EndsWith rs (filter (behind key) rs)
ends_behind key [] ordered = ([], refl)
ends_behind key (r ∷ rs) ordered = ends_step key r rs (behind key r) refl ordered.0 (ends_behind key rs ordered.1)

pub ends_with_those_behind : (key : Option (List ℕ)) (rs : List Record) → AreInOrder rs → EndsWith rs (records_behind key rs)
ends_with_those_behind None rs ordered = ([], refl)
ends_with_those_behind (Some key) rs ordered = ends_behind key rs ordered

pub ends_with_dropped : (from : ℕ) (rs : List Record) → EndsWith rs (drop from rs)
ends_with_dropped from rs = (take from rs, sym (take-append-drop from rs))

-- ---- what a read finds, and what it leaves

-- none, or some and a last one
ends_of : (xs : List Record) → (xs ≡ []) ⊎ ((before : List Record) × (r : Record) × (xs ≡ before ++ (r ∷ [])))
ends_of [] = inl refl
ends_of (x ∷ xs) = inr (one_more x xs (ends_of xs))
  where
    one_more : (x : Record) (xs : List Record) → (xs ≡ []) ⊎ ((before : List Record) × (r : Record) × (xs ≡ before ++ (r ∷ [])))
        → (before : List Record) × (r : Record) × (x ∷ xs ≡ before ++ (r ∷ []))
    one_more x xs (inl none) = ([], x, ap (λ l. x ∷ l) none)
    one_more x xs (inr (before, r, is)) = (x ∷ before, r, ap (λ l. x ∷ l) is)

last_of : (h : List ℕ) (before : List Record) (r : Record) → last_key (map (row_of h) (before ++ (r ∷ []))) ≡ Some r.key
last_of h [] r = refl
last_of h (x ∷ []) r = refl
last_of h (x ∷ (y ∷ before)) r = last_of h (y ∷ before) r

none_first : (most : ℕ) (xs : List Record) → 0 < most → take most xs ≡ [] → xs ≡ []
none_first most [] some none = refl
none_first zero (x ∷ xs) some none = absurd (omega arith)
none_first (suc most) (x ∷ xs) some none = absurd cc

module _ (h : List ℕ) (most : ℕ) (some : 0 < most) (all : List Record) (ordered : AreInOrder all) (end : List Record) (ends : EndsWith all end) where
  abbrev page : List Record
  page = take most end

  read_by : (page ≡ []) ⊎ ((before : List Record) × (r : Record) × (page ≡ before ++ (r ∷ [])))
      → end ≡ page ++ left_behind (last_key (map (row_of h) page)) all
  read_by (inl none) =
      none_first most end some none ∙ sym (ap (λ (l : List Record). l ++ left_behind (last_key (map (row_of h) l)) all) none)
  read_by (inr (before, r, is)) =
      let later = drop most end in
      let end_is : end ≡ before ++ (r ∷ later) =
      sym (take-append-drop most end) ∙ ap (λ (l : List Record). l ++ later) is ∙ append_assoc before (r ∷ []) later in
      let all_is : all ≡ (ends.0 ++ before) ++ (r ∷ later) =
      ends.1 ∙ ap (λ (l : List Record). ends.0 ++ l) end_is ∙ sym (append_assoc ends.0 before (r ∷ later)) in
      let left_is : filter (behind r.key) all ≡ later =
      ap (filter (behind r.key)) all_is ∙ split_behind (ends.0 ++ before) r later (subst AreInOrder all_is ordered) in
      sym (take-append-drop most end) ∙ ap (λ (l : List Record). page ++ l) (sym left_is)
      ∙ sym (ap (λ (key : Option (List ℕ)). page ++ left_behind key all) (ap (λ (l : List Record). last_key (map (row_of h) l)) is ∙ last_of h before r))

  -- the last of some records are those that a read finds, and those that are left behind its last key
  pub read_on : end ≡ page ++ left_behind (last_key (map (row_of h) page)) all
  read_on = read_by (ends_of page)

pub last_row : (before : List Row) (row : Row) → last_key (before ++ (row ∷ [])) ≡ Some row.key
last_row [] row = refl
last_row (x ∷ []) row = refl
last_row (x ∷ (y ∷ before)) row = last_row (y ∷ before) row
