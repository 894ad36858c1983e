-- Parts that fill octets: what is read fills them, and what fills them is read.
use Rattle.std.proofs.Common.{◌≡◌, ℕ, zero, suc, ◌<◌, List, [], ◌∷◌, ◌++◌, length, Option, Some, refl, sym, ap, subst, ◌∙◌, arith, length-append}
use Rattle.dq_list.specs.Readers.{◌>>=◌}
use Rattle.dq_list.proofs.Readers.{bind_some}
use Rattle.dq_pdu.specs.Octets.{Fills, successive_parts, parts_of}
use Rattle.dq_pdu.specs.Shrinking.{Shrinks}
use Rattle.dq_pdu.proofs.Filling.{parts_step}

pub some_is : {A : Type 0} (x y : A) → Some x ≡ Some y → x ≡ y
some_is x y e = cc

abbrev pub Sound : {A : Type 0} → (A → List ℕ → Type 0) → (List ℕ → Option (A × List ℕ)) → Type 0
Sound {A} Part part = (octets : List ℕ) (x : A) (behind : List ℕ) → part octets ≡ Some (x, behind)
    → (front : List ℕ) × (octets ≡ front ++ behind) × Part x front

abbrev pub Complete : {A : Type 0} → (A → List ℕ → Type 0) → (List ℕ → Option (A × List ℕ)) → Type 0
Complete {A} Part part = (x : A) (front behind : List ℕ) → Part x front → (0 < length front) × (part (front ++ behind) ≡ Some (x, behind))

parts_fill : {A : Type 0} (Part : A → List ℕ → Type 0) (part : List ℕ → Option (A × List ℕ)) → Sound Part part → (fuel : ℕ) (octets : List ℕ) (xs : List A)
    → successive_parts part fuel octets ≡ Some xs → Fills Part xs octets
unfolding successive_parts
parts_fill Part part sound fuel [] xs e = subst (λ ys. Fills Part ys []) (some_is [] xs e) refl
parts_fill Part part sound zero (o ∷ os) xs e = absurd cc
parts_fill {A} Part part sound (suc fuel) (o ∷ os) xs e =
    let a = bind_some (part (o ∷ os)) (λ f. successive_parts part fuel f.1 >>= λ others. Some (f.0 ∷ others)) xs e in
    let b = bind_some (successive_parts part fuel a.0.1) (λ others. Some (a.0.0 ∷ others)) xs a.2 in
    let s = sound (o ∷ os) a.0.0 a.0.1 a.1 in
    let rest = parts_fill Part part sound fuel a.0.1 b.0 b.1 in
    subst (λ (ys : List A). Fills Part ys (o ∷ os)) (some_is (a.0.0 ∷ b.0) xs b.2) (s.0, a.0.1, s.1, s.2, rest)

pub fills_from : {A : Type 0} (Part : A → List ℕ → Type 0) (part : List ℕ → Option (A × List ℕ)) → Sound Part part → (octets : List ℕ) (xs : List A)
    → parts_of part octets ≡ Some xs → Fills Part xs octets
fills_from Part part sound octets xs e = parts_fill Part part sound (length octets) octets xs e

pub parts_from : {A : Type 0} (Part : A → List ℕ → Type 0) (part : List ℕ → Option (A × List ℕ)) → Shrinks part → Complete Part part
    → (xs : List A) (octets : List ℕ) → Fills Part xs octets → parts_of part octets ≡ Some xs
unfolding successive_parts
parts_from Part part shrinks complete [] octets e = rw e refl
parts_from Part part shrinks complete (x ∷ xs) octets fills =
    let c = complete x fills.0 fills.1 fills.3 in
    let ih = parts_from Part part shrinks complete xs fills.1 fills.4 in
    let long : 0 < length (fills.0 ++ fills.1) = omega (arith, c.0, length-append fills.0 fills.1) in
    ap (parts_of part) fills.2 ∙ parts_step part shrinks (fills.0 ++ fills.1) (x, fills.1) long c.1 ∙ rw ih refl

-- octets are filled by one list of parts alone
pub fills_once : {A : Type 0} (Part : A → List ℕ → Type 0) (part : List ℕ → Option (A × List ℕ)) → Shrinks part → Complete Part part
    → (xs ys : List A) (octets : List ℕ) → Fills Part xs octets → Fills Part ys octets → xs ≡ ys
fills_once Part part shrinks complete xs ys octets f g =
    some_is xs ys (sym (parts_from Part part shrinks complete xs octets f) ∙ parts_from Part part shrinks complete ys octets g)
