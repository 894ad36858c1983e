-- What a search for the first item that passes a test finds.
use Rattle.std.proofs.Common.{◌≡◌, zero, suc, Bool, true, false, cond, List, [], ◌∷◌, Some, None, refl, sym, ap, ◌∙◌, arith}
use Rattle.std.specs.Prelude.{Contains, find}

contains_later : {X : Type 0} (x y : X) (xs : List X) → Contains xs y → Contains (x ∷ xs) y
contains_later x y xs (k, within, is) = (suc k, omega arith, is)

found-case : {X : Type 0} (b : Bool) (p : X → Bool) (x y : X) (xs : List X) → p x ≡ b → cond b (Some x) (find p xs) ≡ Some y
    → (find p xs ≡ Some y → Contains xs y × (p y ≡ true)) → Contains (x ∷ xs) y × (p y ≡ true)
found-case true p x y xs passes h later =
    let is : x ≡ y = cc in
    ((0, omega arith, is), sym (ap p is) ∙ passes)
found-case false p x y xs fails h later =
    let found = later h in
    (contains_later x y xs found.0, found.1)

-- it is an item of the list, and passes
pub found : {X : Type 0} (p : X → Bool) (xs : List X) (y : X) → find p xs ≡ Some y → Contains xs y × (p y ≡ true)
found p [] y h = absurd cc
found p (x ∷ xs) y h = found-case (p x) p x y xs refl h (found p xs y)

none-case : {X : Type 0} (b : Bool) (p : X → Bool) (x : X) (xs : List X) → p x ≡ b → cond b (Some x) (find p xs) ≡ None → (p x ≡ false) × (find p xs ≡ None)
none-case true p x xs passes h = absurd cc
none-case false p x xs fails h = (fails, h)

-- and where nothing is found no item passes
pub none_found : {X : Type 0} (p : X → Bool) (xs : List X) (y : X) → find p xs ≡ None → Contains xs y → p y ≡ false
none_found p [] y h (k, within, is) = absurd (omega arith)
none_found p (x ∷ xs) y h (zero, within, is) = sym (ap p is) ∙ (none-case (p x) p x xs refl h).0
none_found p (x ∷ xs) y h (suc k, within, is) = none_found p xs y (none-case (p x) p x xs refl h).1 (k, omega arith, is)
