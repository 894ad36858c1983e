-- Lists: the end of one.
use Rattle.std.proofs.Common.{◌≡◌, ℕ, Bool, true, false, take, zero, suc, ◌+◌, ◌-◌, ◌<◌, ◌≤◌, List, [], ◌∷◌, ◌++◌, length, get_or, refl, sym, ap, ◌∙◌, arith, length-append}
use Rattle.std.specs.List.{flat_map}
use Rattle.std.proofs.lemmas.Bool.{ne_eqb, eqb-true, and_right}
use Rattle.std.proofs.lemmas.List.{take_more, take_all}
use Rattle.std.specs.Prelude.{not, ◌==◌}
use Rattle.dq_list.specs.Lengths.{is_empty}
use Rattle.dq_pdu.specs.Octets.{is_uid_padding, without_uid_padding}
use Rattle.dq_pdu.specs.Writing.{is_bare}

-- the last octet decides
pub bare_last : (octets : List ℕ) → 0 < length octets → is_bare octets ≡ not (is_uid_padding (get_or octets (length octets - 1) 0))
bare_last [] h = absurd (omega arith)
bare_last (x ∷ []) h = refl
bare_last (x ∷ y ∷ ys) h =
    let k : suc (suc (length ys)) - 1 ≡ suc (suc (length ys) - 1) = omega arith in
    rw k (bare_last (y ∷ ys) (omega arith))

pub empty_by_length : {A : Type 0} (xs : List A) → is_empty xs ≡ (length xs == 0)
empty_by_length [] = refl
empty_by_length (x ∷ xs) = sym (ne_eqb (suc (length xs)) 0 (λ h. absurd (omega arith)))

-- no piece is longer than all of them together
pub piece_le : {X : Type 0} (f : X → List ℕ) (xs : List X) (i : ℕ) (d : X) → i < length xs → length (f (get_or xs i d)) ≤ length (flat_map f xs)
piece_le f [] i d h = absurd (omega arith)
piece_le f (x ∷ xs) zero d h = omega (arith, length-append (f x) (flat_map f xs))
piece_le f (x ∷ xs) (suc i) d h = omega (arith, length-append (f x) (flat_map f xs), piece_le f xs i d (omega arith))

pub piece_fits : {X : Type 0} (f : X → List ℕ) (xs : List X) (i : ℕ) (d : X) (n : ℕ) → length (flat_map f xs) ≤ n → i < length xs
    → length (f (get_or xs i d)) ≤ n
piece_fits f xs i d n le h = omega (arith, piece_le f xs i d h)

-- ---- padding at the end

unpadded-padding : (octets : List ℕ) (octet : ℕ) → is_uid_padding octet ≡ true → without_uid_padding (octets ++ octet ∷ []) ≡ without_uid_padding octets
unpadded-padding [] octet p = rw p refl
unpadded-padding (x ∷ xs) octet p = rw (unpadded-padding xs octet p) refl

not_empty : {A : Type 0} (xs : List A) (x : A) → is_empty (xs ++ x ∷ []) ≡ false
not_empty [] x = refl
not_empty (y ∷ ys) x = refl

unpadded-other : (octets : List ℕ) (octet : ℕ) → is_uid_padding octet ≡ false → without_uid_padding (octets ++ octet ∷ []) ≡ octets ++ octet ∷ []
unpadded-other [] octet p = rw p refl
unpadded-other (x ∷ xs) octet p = rw (unpadded-other xs octet p, not_empty xs octet, and_right (is_uid_padding x) false refl) refl

front_last : (xs : List ℕ) (n : ℕ) (d : ℕ) → length xs ≡ n + 1 → xs ≡ take n xs ++ get_or xs n d ∷ []
front_last xs n d h = grind (arith, take_more, take_all)

-- one octet at the end of octets, and those before it
pub unpadded_less : (octets : List ℕ) (n : ℕ) (d : ℕ) → length octets ≡ n + 1 → is_uid_padding (get_or octets n d) ≡ true
    → without_uid_padding (take n octets) ≡ without_uid_padding octets
unpadded_less octets n d h p =
    sym (unpadded-padding (take n octets) (get_or octets n d) p) ∙ ap without_uid_padding (sym (front_last octets n d h))

pub unpadded_all : (octets : List ℕ) (n : ℕ) (d : ℕ) → length octets ≡ n + 1 → is_uid_padding (get_or octets n d) ≡ false → without_uid_padding octets ≡ octets
unpadded_all octets n d h p =
    let e = front_last octets n d h in
    ap without_uid_padding e ∙ unpadded-other (take n octets) (get_or octets n d) p ∙ sym e

-- ---- what `is_empty` of a slice tells

pub not_zero : (n : ℕ) (b : Bool) → b ≡ (n == 0) → b ≡ false → 0 < n
not_zero zero b e f = absurd cc
not_zero (suc n) b e f = omega arith

pub is_zero : (n : ℕ) (b : Bool) → b ≡ (n == 0) → b ≡ true → n ≡ 0
is_zero n b e f = eqb-true n 0 (sym e ∙ f)
