-- What is found among what a filter keeps.
use Rattle.std.proofs.Common.{◌≡◌, Bool, true, false, List, [], ◌∷◌, Some, None, find, filter, refl, if◌then◌else◌}

kept_step : {X : Type 0} (p : X → Bool) (x : X) (kept xs : List X) (a b : Bool) → p x ≡ a → (a ≡ true → b ≡ true) → find p kept ≡ find p xs
    → find p (if b then x ∷ kept else kept) ≡ (if a then Some x else find p xs)
kept_step p x kept xs true true here both rest = rw here refl
kept_step p x kept xs true false here both rest = (let no : false ≡ true = both refl in cc)
kept_step p x kept xs false true here both rest = rw here rest
kept_step p x kept xs false false here both rest = rest

-- those that are looked for are all kept
pub found_filtered : {X : Type 0} (p q : X → Bool) → ((x : X) → p x ≡ true → q x ≡ true) → (xs : List X) → find p (filter q xs) ≡ find p xs
found_filtered p q both [] = refl
found_filtered p q both (x ∷ xs) = kept_step p x (filter q xs) xs (p x) (q x) refl (both x) (found_filtered p q both xs)

lost_step : {X : Type 0} (p : X → Bool) (x : X) (kept : List X) (a b : Bool) → p x ≡ a → (a ≡ true → b ≡ false) → find p kept ≡ None
    → find p (if b then x ∷ kept else kept) ≡ None
lost_step p x kept true true here none rest = (let no : true ≡ false = none refl in cc)
lost_step p x kept true false here none rest = rest
lost_step p x kept false true here none rest = rw here rest
lost_step p x kept false false here none rest = rest

-- or none of them is
pub none_filtered : {X : Type 0} (p q : X → Bool) → ((x : X) → p x ≡ true → q x ≡ false) → (xs : List X) → find p (filter q xs) ≡ None
none_filtered p q none [] = refl
none_filtered p q none (x ∷ xs) = lost_step p x (filter q xs) (p x) (q x) refl (none x) (none_filtered p q none xs)
