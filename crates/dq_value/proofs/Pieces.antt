-- The halves round the first separator, by its place.
use Rattle.std.proofs.Common.{◌≡◌, ◌==◌, ℕ, ◌+◌, not, suc, Bool, true, false, cond, List, [], ◌∷◌, take, drop, length, Option, Some, None, option_map, position, nat_lt, refl, sym, ap, ◌∙◌, arith, add-one, drop-drop}
use Rattle.std.proofs.lemmas.Bool.Decides.{nat_tests}
use Rattle.std.specs.List.{position_or_len}
use Rattle.dq_vr.specs.declared.Vr.{Vr}
use Rattle.dq_value.specs.Range.{halves, behind}
use Rattle.dq_value.specs.Parts.{pieces, onto_first, has_separator, value_pieces, pieces_left}

position-case : (b : Bool) (n len : ℕ)
    → cond (nat_lt (cond (not b) (1 + n) 0) (suc len)) (Some (cond (not b) (1 + n) 0)) None
    ≡ cond b (Some 0) (option_map suc (cond (nat_lt n len) (Some n) None))
position-case true n len = grind (arith, nat_tests)
position-case false n len = grind (arith, nat_tests)

position-cons : (p : ℕ → Bool) (x : ℕ) (xs : List ℕ) → position p (x ∷ xs) ≡ cond (p x) (Some 0) (option_map suc (position p xs))
position-cons p x xs = position-case (p x) (position_or_len p xs) (length xs)

abbrev pub halves_at : List ℕ → Option ℕ → Option (List ℕ × List ℕ)
halves_at xs None = None
halves_at xs (Some i) = Some (take i xs, drop (suc i) xs)

halves_at-case : (b : Bool) (x : ℕ) (xs : List ℕ) (at : Option ℕ)
    → cond b (Some ([], xs)) (behind x (halves_at xs at)) ≡ halves_at (x ∷ xs) (cond b (Some 0) (option_map suc at))
unfolding behind
halves_at-case true x xs at = refl
halves_at-case false x xs None = refl
halves_at-case false x xs (Some i) = refl

pub halves-position : (separator : ℕ) (xs : List ℕ) → halves separator xs ≡ halves_at xs (position (λ octet. octet == separator) xs)
unfolding halves behind
halves-position separator [] = refl
halves-position separator (x ∷ xs) = search (position-cons, halves_at-case, halves-position separator xs)

pub no_halves : (separator : ℕ) (xs : List ℕ) → position (λ octet. octet == separator) xs ≡ None → halves separator xs ≡ None
no_halves separator xs e = halves-position separator xs ∙ ap (halves_at xs) e

pub halves_found : (separator : ℕ) (xs : List ℕ) (i : ℕ) → position (λ octet. octet == separator) xs ≡ Some i
    → halves separator xs ≡ Some (take i xs, drop (suc i) xs)
halves_found separator xs i e = halves-position separator xs ∙ ap (halves_at xs) e

pub halves_cut : (separator : ℕ) (xs before others rest : List ℕ) (i : ℕ) → Some i ≡ position (λ octet. octet == separator) xs → before ≡ take i xs
    → others ≡ drop i xs → rest ≡ drop 1 others → Some (before, rest) ≡ halves separator xs
halves_cut separator xs before others rest i at e f g =
    let behind_it : drop 1 (drop i xs) ≡ drop (suc i) xs = drop-drop 1 i xs ∙ ap (λ n. drop n xs) (add-one i) in
    sym (halves_found separator xs i (sym at) ∙ rw (e, g, f, behind_it) refl)

-- the first piece, and the pieces of the rest
abbrev pub pieces_at : ℕ → List ℕ → Option (List ℕ × List ℕ) → List (List ℕ)
pieces_at separator xs None = xs ∷ []
pieces_at separator xs (Some h) = h.0 ∷ pieces separator h.1

pieces-case : (b : Bool) (separator x : ℕ) (xs : List ℕ) (h : Option (List ℕ × List ℕ))
    → cond b ([] ∷ pieces separator xs) (onto_first x (pieces_at separator xs h)) ≡ pieces_at separator (x ∷ xs) (cond b (Some ([], xs)) (behind x h))
unfolding onto_first behind
pieces-case true separator x xs h = refl
pieces-case false separator x xs None = refl
pieces-case false separator x xs (Some h) = refl

pub pieces-halves : (separator : ℕ) (xs : List ℕ) → pieces separator xs ≡ pieces_at separator xs (halves separator xs)
unfolding pieces halves
pieces-halves separator [] = refl
pieces-halves separator (x ∷ xs) = grind (arith, nat_tests, pieces-case, pieces-halves separator xs)

-- the values as they stand, by the first and what is left
pub sole_piece : (vr : Vr) (octets : List ℕ) → has_separator vr ≡ false → value_pieces vr octets ≡ octets ∷ pieces_left vr None
unfolding value_pieces pieces_left
sole_piece vr octets apart = rw apart refl

pub last_piece : (vr : Vr) (octets : List ℕ) → has_separator vr ≡ true → None ≡ halves 0x5c octets → value_pieces vr octets ≡ octets ∷ pieces_left vr None
unfolding value_pieces pieces_left
last_piece vr octets splits none = rw splits (pieces-halves 0x5c octets ∙ ap (pieces_at 0x5c octets) (sym none))

pub next_piece : (vr : Vr) (octets piece others : List ℕ) → has_separator vr ≡ true → Some (piece, others) ≡ halves 0x5c octets
    → value_pieces vr octets ≡ piece ∷ pieces_left vr (Some others)
unfolding value_pieces pieces_left
next_piece vr octets piece others splits some = rw splits (pieces-halves 0x5c octets ∙ ap (pieces_at 0x5c octets) (sym some))
