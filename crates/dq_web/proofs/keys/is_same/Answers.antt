use Rattle.std.proofs.Common.{◌≡◌, ℕ, zero, suc, ◌<◌, List, [], ◌∷◌, ◌&&◌, Bool, true, false, length, take, get_or, nat_eq, refl, arith}
use Rattle.std.specs.Str.{bytes_eq}
use Rattle.dq_web.proofs.keys.is_same.Goals as goal

both_true : (b : Bool) → (b && true) ≡ b
both_true true = refl
both_true false = refl

both_assoc : (a b c : Bool) → (a && (b && c)) ≡ ((a && b) && c)
both_assoc true b c = refl
both_assoc false b c = refl

one_more : (i : ℕ) (a b : List ℕ) → i < length a → i < length b
    → bytes_eq (take (suc i) a) (take (suc i) b) ≡ (bytes_eq (take i a) (take i b) && nat_eq (get_or a i 0) (get_or b i 0))
one_more i [] b la lb = absurd (omega arith)
one_more i (x ∷ xs) [] la lb = absurd (omega arith)
one_more zero (x ∷ xs) (y ∷ ys) la lb = both_true (nat_eq x y)
one_more (suc i) (x ∷ xs) (y ∷ ys) la lb =
    rw (one_more i xs ys (omega arith) (omega arith)) (both_assoc (nat_eq x y) _ _)

pub loop-at-preserved : goal.loop-at-preserved
loop-at-preserved c = grind (arith, one_more)
