-- Where lines end.
use Rattle.std.proofs.Common.{◌≡◌, ◌≤◌, ◌<◌, ◌+◌, ◌-◌, ℕ, zero, suc, nat_lt, Bool, true, false, cond, not, List, [], ◌∷◌, ◌++◌, length, take, drop, None, Some, position, refl, sym, ap, ◌∙◌, arith}
use Rattle.std.specs.List.{position_or_len}
use Rattle.std.proofs.lemmas.List.{take_rest, length-drop, take-take, drop_all}
use Rattle.std.proofs.lemmas.List.Sums.{prefix_len-le-length}
use Rattle.std.proofs.lemmas.Grind.{common_steps}
use Rattle.dq_console.specs.Console.{line_most, first_line_length, line_to, first_line, other_lines}

module _ {X : Type 0} (p : X → Bool) where
  pub end-le-length : (xs : List X) → position_or_len p xs ≤ length xs
  end-le-length xs = prefix_len-le-length (λ x. not (p x)) xs

  at : (b : Bool) (x : X) (xs : List X) → p x ≡ b → position_or_len p (x ∷ xs) ≡ cond (not b) (1 + position_or_len p xs) 0
  at b x xs e = ap (λ t. cond (not t) (1 + position_or_len p xs) 0) e

  -- what was searched in vain need not be searched again
  pub end-drop : (xs : List X) (k : ℕ) → k ≤ position_or_len p xs → position_or_len p xs ≡ k + position_or_len p (drop k xs)
  end-drop [] zero le = refl
  end-drop [] (suc k) le = absurd (omega (arith, le))
  end-drop (x ∷ xs) zero le = omega arith
  end-drop (x ∷ xs) (suc k) le = by (λ h. end-drop xs k h) (p x) refl
    where
      by : (k ≤ position_or_len p xs → position_or_len p xs ≡ k + position_or_len p (drop k xs)) → (b : Bool) → p x ≡ b → position_or_len p (x ∷ xs) ≡ suc k + position_or_len p (drop k xs)
      by rest true e = absurd (omega (arith, le, at true x xs e))
      by rest false e = omega (arith, at false x xs e, rest (omega (arith, le, at false x xs e)))

  -- more octets do not end a line earlier
  pub end-append : (xs ys : List X) → position_or_len p xs ≤ position_or_len p (xs ++ ys)
  end-append [] ys = omega arith
  end-append (x ∷ xs) ys = by (end-append xs ys) (p x) refl
    where
      by : position_or_len p xs ≤ position_or_len p (xs ++ ys) → (b : Bool) → p x ≡ b → position_or_len p (x ∷ xs) ≤ position_or_len p (x ∷ (xs ++ ys))
      by rest true e = omega (arith, at true x xs e)
      by rest false e = omega (arith, at false x xs e, at false x (xs ++ ys) e, rest)

  pub position-at : (xs : List X) (i : ℕ) → position p xs ≡ Some i → (position_or_len p xs ≡ i) × (i < length xs)
  position-at xs i e = (grind (arith, common_steps), grind (arith, common_steps))

  pub position-none : (xs : List X) → position p xs ≡ None → position_or_len p xs ≡ length xs
  position-none xs e =
      let within = end-le-length xs in
      grind (arith, common_steps)

  -- a search from so far on
  module _ (xs looked : List X) (k : ℕ) (same : looked ≡ xs) (within : k ≤ length xs) (le : k ≤ position_or_len p xs) where
    rest : take (length looked - k) (drop k looked) ≡ drop k xs
    rest = rw same (take_rest xs k)

    pub searched-none : position p (take (length looked - k) (drop k looked)) ≡ None → position_or_len p xs ≡ length xs
    searched-none e =
        omega (arith, end-drop xs k le, position-none (drop k xs) (ap (position p) (sym rest) ∙ e), length-drop k xs)

    pub searched-some : (at : ℕ) → position p (take (length looked - k) (drop k looked)) ≡ Some at
        → (position_or_len p xs ≡ k + at) × (k + at < length xs)
    searched-some at e =
        let found = position-at (drop k xs) at (ap (position p) (sym rest) ∙ e) in
        (omega (arith, end-drop xs k le, found.0), omega (arith, found.1, length-drop k xs))

-- ---- lines of a client

pub cut-line : (end : ℕ) (octets : List ℕ) → line_to end (take (end + 1) octets) ≡ line_to end octets
cut-line end octets = rw (take-take end (end + 1) octets (omega arith)) refl

module _ (octets : List ℕ) (none : first_line_length octets ≡ length octets) (long : line_most < length octets) where
  pub long-line : first_line octets ≡ []
  long-line = let long : nat_lt line_most (first_line_length octets) ≡ true = grind (arith, common_steps, none, long) in rw long refl

  pub long-others : other_lines octets ≡ []
  long-others = drop_all (first_line_length octets + 1) octets (omega (arith, none))
