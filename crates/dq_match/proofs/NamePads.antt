-- What the last octet is to the end of a name.
use Rattle.std.proofs.Common.{◌≡◌, ℕ, Bool, true, false, cond, List, [], ◌∷◌, ◌++◌, length, refl, arith}
use Rattle.dq_value.specs.Trimming.{kept_before, without_trailing}

kept_before-push : (test : ℕ → Bool) (octet last : ℕ) (xs : List ℕ) → kept_before test octet (xs ++ last ∷ []) ≡ octet ∷ (xs ++ last ∷ [])
unfolding kept_before
kept_before-push test octet last [] = refl
kept_before-push test octet last (x ∷ xs) = refl

kept_before-cond : (test : ℕ → Bool) (octet last : ℕ) (xs : List ℕ) (b : Bool)
    → kept_before test octet (cond b (without_trailing test xs) (xs ++ last ∷ [])) ≡ cond b (without_trailing test (octet ∷ xs)) (octet ∷ (xs ++ last ∷ []))
unfolding without_trailing
kept_before-cond test octet last xs true = refl
kept_before-cond test octet last xs false = kept_before-push test octet last xs

pub without_trailing-push : (test : ℕ → Bool) (last : ℕ) (xs : List ℕ) → without_trailing test (xs ++ last ∷ [])
    ≡ cond (test last) (without_trailing test xs) (xs ++ last ∷ [])
unfolding without_trailing kept_before
without_trailing-push test last [] = refl
without_trailing-push test last (x ∷ xs) = rw (without_trailing-push test last xs) (kept_before-cond test x last xs (test last))

pub nothing_left : (test : ℕ → Bool) (kept octets : List ℕ) → length kept ≡ 0 → without_trailing test kept ≡ without_trailing test octets
    → kept ≡ without_trailing test octets
unfolding without_trailing
nothing_left test [] octets none same = same
nothing_left test (x ∷ kept) octets none same = absurd (omega arith)

pub ruleset name_pads = (without_trailing-push, nothing_left)
