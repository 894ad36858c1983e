-- Loops that go on with one more item of a list.
use Rattle.std.proofs.Common.{◌≡◌, ℕ, zero, suc, arith, ◌+◌, ◌<◌, ◌≤◌, List, [], ◌∷◌, ◌++◌, length, map, get_or, take, Option, Some, None, refl, sym, ap, ◌∙◌}
use Rattle.std.specs.Option.{option_to_list}
use Rattle.std.specs.List.{filter_map}
use Rattle.std.proofs.lemmas.List.{map-append, take_all, take_more}
use Rattle.std.proofs.lemmas.List.Elements.{filter_map-append}

taken : {A : Type 0} (all : List A) (i : ℕ) (x : A) → i < length all → x ≡ get_or all i x → take (i + 1) all ≡ take i all ++ x ∷ []
taken all i x lt is = take_more all i x lt ∙ ap (λ y. take i all ++ y ∷ []) (sym is)

-- an item does not depend on what stands past the end
pub same_at : {A : Type 0} (all : List A) (i : ℕ) (d e : A) → i < length all → get_or all i d ≡ get_or all i e
same_at [] i d e lt = absurd (omega arith)
same_at (x ∷ xs) zero d e lt = refl
same_at (x ∷ xs) (suc i) d e lt = same_at xs i d e (omega (arith, lt))

-- one that keeps what a function gives of each item
pub map-next : {A B : Type 0} (f : A → B) (done longer : List B) (all : List A) (i : ℕ) (x : A) (y : B) → i < length all → x ≡ get_or all i x
    → y ≡ f x → longer ≡ done ++ y ∷ [] → done ≡ map f (take i all) → longer ≡ map f (take (i + 1) all)
map-next f done longer all i x y lt is e grows so =
    grows ∙ ap (λ list. list ++ y ∷ []) so ∙ ap (λ z. map f (take i all) ++ z ∷ []) e
    ∙ sym (ap (map f) (taken all i x lt is) ∙ map-append f (take i all) (x ∷ []))

pub map-end : {A B : Type 0} (f : A → B) (done : List B) (all : List A) (i : ℕ) → length all ≤ i → done ≡ map f (take i all) → done ≡ map f all
map-end f done all i le so = so ∙ ap (map f) (take_all i all le)

-- one that keeps what a function may give of each item
given : {A B : Type 0} (f : A → Option B) (x : A) (o : Option B) → f x ≡ o → filter_map f (x ∷ []) ≡ option_to_list o
given f x None e = rw e refl
given f x (Some y) e = rw e refl

pub filter_map-next : {A B : Type 0} (f : A → Option B) (done longer : List B) (all : List A) (i : ℕ) (x : A) (o : Option B)
    → i < length all → x ≡ get_or all i x → f x ≡ o → longer ≡ done ++ option_to_list o
    → done ≡ filter_map f (take i all) → longer ≡ filter_map f (take (i + 1) all)
filter_map-next f done longer all i x o lt is e grows so =
    grows ∙ ap (λ list. list ++ option_to_list o) so
    ∙ sym (ap (filter_map f) (taken all i x lt is) ∙ filter_map-append f (take i all) (x ∷ []) ∙ ap (λ list. filter_map f (take i all) ++ list) (given f x o e))

pub filter_map-end : {A B : Type 0} (f : A → Option B) (done : List B) (all : List A) (i : ℕ) → length all ≤ i → done ≡ filter_map f (take i all)
    → done ≡ filter_map f all
filter_map-end f done all i le so = so ∙ ap (filter_map f) (take_all i all le)
