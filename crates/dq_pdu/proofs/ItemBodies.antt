-- The items of one type, read one after the other.
use Rattle.std.proofs.Common.{◌≡◌, ℕ, ◌+◌, ◌<◌, List, [], ◌∷◌, ◌++◌, length, get_or, drop, Option, Some, refl, sym, ap, ◌∙◌, arith}
use Rattle.std.proofs.lemmas.Bool.{eq-eqb, ne_eqb}
use Rattle.std.proofs.lemmas.List.{drop_more}
use Rattle.dq_pdu.specs.declared.pdu_reader.Item.{Item}
use Rattle.dq_list.specs.Readers.{◌>>=◌}
use Rattle.dq_pdu.specs.Octets.{bodies, each_given}
use Rattle.dq_pdu.proofs.Filling.{with_front, with_front-assoc}

-- the item at a place, and those after it
pub record StandsAt (items : List Item) (i : ℕ) (item : Item) : Type 0 where
  pub within : i < length items
  pub is : item ≡ get_or items i item

behind : (items : List Item) (i : ℕ) (item : Item) → StandsAt items i item → drop i items ≡ item ∷ drop (i + 1) items
behind items i item at = drop_more items i item at.within ∙ ap (λ (x : Item). x ∷ drop (i + 1) items) (sym at.is)

pub bodies_here : (kind : ℕ) (items : List Item) (i : ℕ) (item : Item) → StandsAt items i item → item.kind ≡ kind
    → bodies kind (drop i items) ≡ item.octets ∷ bodies kind (drop (i + 1) items)
bodies_here kind items i item at e = ap (bodies kind) (behind items i item at) ∙ rw (eq-eqb item.kind kind e) refl

pub bodies_past : (kind : ℕ) (items : List Item) (i : ℕ) (item : Item) → StandsAt items i item → (item.kind ≡ kind → ⊥)
    → bodies kind (drop i items) ≡ bodies kind (drop (i + 1) items)
bodies_past kind items i item at e = ap (bodies kind) (behind items i item at) ∙ rw (ne_eqb item.kind kind e) refl

each_first : {A : Type 0} (f : List ℕ → Option A) (octets : List ℕ) (others : List (List ℕ)) (x : A) → f octets ≡ Some x
    → each_given f (octets ∷ others) ≡ (each_given f others >>= λ xs. Some (x ∷ xs))
each_first f octets others x e = rw e refl

pub each_here : {A : Type 0} (f : List ℕ → Option A) (kind : ℕ) (items : List Item) (i : ℕ) (item : Item) (front : List A) (x : A) (total : Option
    (List A)) → StandsAt items i item → item.kind ≡ kind → f item.octets ≡ Some x
    → with_front front (each_given f (bodies kind (drop i items))) ≡ total → with_front (front ++ x ∷ []) (each_given f (bodies kind (drop (i + 1) items))) ≡ total
each_here f kind items i item front x total at e given so_far =
    grind (arith, with_front, bodies_here, each_first, with_front-assoc)

pub each_past : {A : Type 0} (f : List ℕ → Option A) (kind : ℕ) (items : List Item) (i : ℕ) (item : Item) (front : List A) (total : Option (List A))
    → StandsAt items i item → (item.kind ≡ kind → ⊥)
    → with_front front (each_given f (bodies kind (drop i items))) ≡ total → with_front front (each_given f (bodies kind (drop (i + 1) items))) ≡ total
each_past f kind items i item front total at e so_far =
    sym (ap (λ bs. with_front front (each_given f bs)) (bodies_past kind items i item at e)) ∙ so_far
