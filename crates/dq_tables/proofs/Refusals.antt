-- Refusals in their order, and what they leave.
use Rattle.std.proofs.Common.{◌≡◌, Bool, true, false, List, [], ◌∷◌, ◌++◌, Option, Some, None, refl, if◌then◌else◌}
use Rattle.dq_tables.specs.Rows.{Edit}
use Rattle.dq_tables.specs.ServiceEffects.{first_refusal, refusal_or}

module _ {Refusal : Type 0} where
  first_step : (b : Bool) (x r : Refusal) (o p : Option Refusal) → (o ≡ Some r → p ≡ Some r) → (if b then Some x else o) ≡ Some r
      → (if b then Some x else p) ≡ Some r
  first_step true x r o p rest h = h
  first_step false x r o p rest h = rest h

  -- the first refusal of some is the first of more
  pub first_in : (some others : List (Bool × Refusal)) (r : Refusal) → first_refusal some ≡ Some r → first_refusal (some ++ others) ≡ Some r
  first_in [] others r h = cc
  first_in (x ∷ xs) others r h = first_step x.0 x.1 r (first_refusal xs) (first_refusal (xs ++ others)) (first_in xs others r) h

  past_step : (b : Bool) (x : Refusal) (o p q : Option Refusal) → (o ≡ None → p ≡ q) → (if b then Some x else o) ≡ None → (if b then Some x else p) ≡ q
  past_step true x o p q rest h = cc
  past_step false x o p q rest h = rest h

  -- where none of some holds, the first is that of the others
  pub first_past : (some others : List (Bool × Refusal)) → first_refusal some ≡ None → first_refusal (some ++ others) ≡ first_refusal others
  first_past [] others h = refl
  first_past (x ∷ xs) others h = past_step x.0 x.1 (first_refusal xs) (first_refusal (xs ++ others)) (first_refusal others) (first_past xs others) h

module _ {Answer : Type 0} (done : Answer × List Edit) where
  stopped_step : (b : Bool) (x : Answer) (o : Option Answer) → (refusal_or o done).1 ≡ [] → (refusal_or (if b then Some x else o) done).1 ≡ []
  stopped_step true x o h = refl
  stopped_step false x o h = h

  -- where a refusal of the list holds, nothing is edited
  pub stopped : (before others : List (Bool × Answer)) (r : Answer) → (refusal_or (first_refusal (before ++ (true, r) ∷ others)) done).1 ≡ []
  stopped [] others r = refl
  stopped (x ∷ before) others r = stopped_step x.0 x.1 (first_refusal (before ++ (true, r) ∷ others)) (stopped before others r)
