-- Edits of rows by their indexes.
use Rattle.std.proofs.Common.{◌≡◌, ℕ, zero, suc, ◌+◌, ◌<◌, ◌≤◌, List, [], ◌∷◌, ◌++◌, length, take, drop, set, get_or, Option, refl, sym, ◌∙◌, ap, arith, append_assoc, add-one, append-nil}
use Rattle.std.specs.List.{insert, remove, filter_map}
use Rattle.std.proofs.lemmas.List.{take-append-drop, take_more}
use Rattle.std.proofs.lemmas.List.Elements.{filter_map-append}
use Rattle.dq_tables.specs.declared.row.Kind.{Kind}
use Rattle.dq_tables.specs.declared.row.Row.{Row}
use Rattle.dq_tables.specs.Rows.{Put, Remove, record_of, after_edit, place}
use Rattle.dq_tables.specs.Lookups.{IsAtIndex, IsFree}

set_at : {X : Type 0} (xs : List X) (i : ℕ) (y : X) → i < length xs → set xs i y ≡ (take i xs ++ y ∷ []) ++ drop (suc i) xs
set_at [] i y l = absurd (omega arith)
set_at (x ∷ xs) zero y l = refl
set_at (x ∷ xs) (suc i) y l = ap (λ ys. x ∷ ys) (set_at xs i y (omega arith))

pub set_is : {X : Type 0} (xs : List X) (i : ℕ) (y : X) → i < length xs → set xs i y ≡ (take i xs ++ y ∷ []) ++ drop (i + 1) xs
set_is xs i y l = rw add-one (set_at xs i y l)

insert_is : {X : Type 0} (xs : List X) (i : ℕ) (y : X) → i ≤ length xs → insert xs i y ≡ (take i xs ++ y ∷ []) ++ drop i xs
insert_is xs i y l = sym (append_assoc (take i xs) (y ∷ []) (drop i xs))

remove_is : {X : Type 0} (xs : List X) (i : ℕ) → remove xs i ≡ take i xs ++ drop (i + 1) xs
remove_is xs i = rw add-one refl

pub replaces : (rows : List Row) (row : Row) (at : ℕ) → IsAtIndex (place row.kind row.inst row.key) rows at
    → set rows at row ≡ after_edit row.inst (Put (record_of row)) rows
unfolding after_edit
replaces rows row at there = rw (set_is rows at row there.within, there.before, there.past) refl

pub inserts : (rows : List Row) (row : Row) (at : ℕ) → IsFree (place row.kind row.inst row.key) rows at
    → insert rows at row ≡ after_edit row.inst (Put (record_of row)) rows
unfolding after_edit
inserts rows row at free = rw (insert_is rows at row free.within, free.before, free.past) refl

pub removes : (rows : List Row) (kind : Kind) (institution key : List ℕ) (at : ℕ) → IsAtIndex (place kind institution key) rows at
    → remove rows at ≡ after_edit institution (Remove kind key) rows
unfolding after_edit
removes rows kind institution key at there = rw (remove_is rows at, there.before, there.past, append-nil) refl

pub removes_nothing : (rows : List Row) (kind : Kind) (institution key : List ℕ) (at : ℕ) → IsFree (place kind institution key) rows at
    → rows ≡ after_edit institution (Remove kind key) rows
unfolding after_edit
removes_nothing rows kind institution key at free = grind (arith, take-append-drop, append-nil)

-- what a loop has made of one more item
pub made_more : {X Y : Type 0} (f : X → Option Y) (xs : List X) (i : ℕ) (x : X) (made more : List Y) → i < length xs → get_or xs i x ≡ x
    → made ≡ filter_map f (take i xs) → more ≡ made ++ filter_map f (x ∷ []) → more ≡ filter_map f (take (i + 1) xs)
made_more f xs i x made more within here before added =
    added ∙ ap (λ ys. ys ++ filter_map f (x ∷ [])) before ∙ sym (filter_map-append f (take i xs) (x ∷ []))
    ∙ ap (filter_map f) (sym (take_more xs i x within ∙ ap (λ y. take i xs ++ y ∷ []) here))
