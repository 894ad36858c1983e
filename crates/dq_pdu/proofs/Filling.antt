-- Parts that fill octets, read one after the other.
use Rattle.std.proofs.Common.{◌≡◌, ℕ, zero, suc, ◌<◌, ◌≤◌, List, [], ◌∷◌, ◌++◌, length, Option, Some, None, refl, sym, ap, ◌∙◌, append_assoc, arith}
use Rattle.std.specs.Prelude.{option_map}
use Rattle.std.proofs.lemmas.List.{append-nil}
use Rattle.dq_list.specs.Readers.{◌>>=◌}
use Rattle.dq_pdu.specs.Octets.{successive_parts, parts_of}
use Rattle.dq_pdu.specs.Shrinking.{Shrinks}

-- what was read before, and what is still read
abbrev pub with_front : {A : Type 0} → List A → Option (List A) → Option (List A)
with_front front others = option_map (λ xs. front ++ xs) others

pub with_front-assoc : {A : Type 0} (front : List A) (x : A) (o : Option (List A))
    → with_front front (o >>= λ others. Some (x ∷ others)) ≡ with_front (front ++ x ∷ []) o
with_front-assoc front x None = refl
with_front-assoc front x (Some xs) = ap (λ ys. Some ys) (simp append_assoc)

abbrev after : {A : Type 0} → (List ℕ → Option (A × List ℕ)) → ℕ → Option (A × List ℕ) → Option (List A)
after part fuel first = first >>= λ f. (successive_parts part fuel f.1 >>= λ others. Some (f.0 ∷ others))

more_after : {A : Type 0} (part : List ℕ → Option (A × List ℕ)) (n m : ℕ) (first : Option (A × List ℕ)) → ((x : A × List ℕ) → first ≡ Some x
    → successive_parts part n x.1 ≡ successive_parts part m x.1) → after part n first ≡ after part m first
more_after part n m None h = refl
more_after part n m (Some x) h = rw (h x refl) refl

-- more fuel than octets changes nothing
pub parts_more : {A : Type 0} (part : List ℕ → Option (A × List ℕ)) → Shrinks part → (n m : ℕ) (octets : List ℕ) → length octets ≤ n → length octets ≤ m
    → successive_parts part n octets ≡ successive_parts part m octets
unfolding successive_parts
parts_more part shrinks n m [] hn hm = refl
parts_more part shrinks zero m (o ∷ os) hn hm = absurd (omega arith)
parts_more part shrinks (suc n) zero (o ∷ os) hn hm = absurd (omega arith)
parts_more part shrinks (suc n) (suc m) (o ∷ os) hn hm =
    more_after part n m (part (o ∷ os)) (λ x e. let lt = shrinks (o ∷ os) x e in parts_more part shrinks n m x.1 (omega arith) (omega arith))

pub parts_step : {A : Type 0} (part : List ℕ → Option (A × List ℕ)) → Shrinks part → (octets : List ℕ) (x : A × List ℕ) → 0 < length octets
    → part octets ≡ Some x → parts_of part octets ≡ (parts_of part x.1 >>= λ others. Some (x.0 ∷ others))
unfolding successive_parts
parts_step part shrinks [] x h e = absurd (omega arith)
parts_step part shrinks (o ∷ os) x h e =
    let lt = shrinks (o ∷ os) x e in
    ap (after part (length os)) e ∙ ap (λ (r : Option (List _)). r >>= λ others. Some (x.0 ∷ others)) (parts_more part shrinks (length os) (length x.1) x.1
    (omega arith) (omega arith))

pub parts_none : {A : Type 0} (part : List ℕ → Option (A × List ℕ)) (octets : List ℕ) → 0 < length octets → part octets ≡ None → parts_of part octets ≡ None
unfolding successive_parts
parts_none part [] h e = absurd (omega arith)
parts_none part (o ∷ os) h e = ap (after part (length os)) e

-- ---- a loop over the parts

pub goes_on : {A : Type 0} (part : List ℕ → Option (A × List ℕ)) → Shrinks part
    → (front : List A) (octets : List ℕ) (x : A) (behind : List ℕ) (total : Option (List A))
    → 0 < length octets → part octets ≡ Some (x, behind) → with_front front (parts_of part octets) ≡ total
    → with_front (front ++ x ∷ []) (parts_of part behind) ≡ total
goes_on part shrinks front octets x behind total h e so_far =
    sym (ap (with_front front) (parts_step part shrinks octets (x, behind) h e) ∙ with_front-assoc front x (parts_of part behind)) ∙ so_far

pub ends : {A : Type 0} (part : List ℕ → Option (A × List ℕ)) (front : List A) (octets : List ℕ) (total : Option (List A)) → 0 < length octets
    → part octets ≡ None → with_front front (parts_of part octets) ≡ total → total ≡ None
ends part front octets total h e so_far = sym so_far ∙ ap (with_front front) (parts_none part octets h e)

pub is_done : {A : Type 0} (part : List ℕ → Option (A × List ℕ)) (front : List A) (octets : List ℕ) (total : Option (List A)) → length octets ≡ 0
    → with_front front (parts_of part octets) ≡ total → total ≡ Some front
unfolding successive_parts
is_done part front [] total h so_far = sym so_far ∙ ap (λ xs. Some xs) (append-nil front)
is_done part front (o ∷ os) total h so_far = absurd (omega arith)
