-- Checking elements or items one after the other, as a loop does.
use Rattle.std.proofs.Common.{◌≡◌, ℕ, ◌≤◌, ◌<◌, List, ◌∷◌, length, Option, Some, None, Result, Ok, Err, refl, ◌∙◌, arith}
use Rattle.dq_dataset.proofs.Types.{Tag, ReadFault, Syntax, Bound, Header, Element, Value, ElementList}
use Rattle.dq_dataset.specs.DataSetReader.{◌>>=◌, Readers, readers, element_by, elements_by, elements_after, item_by, items_by, items_after}
use Rattle.dq_dataset.specs.Lending.{rest_of, front_header, item_of}
use Rattle.dq_dataset.proofs.Loops.{a_step_left}
use Rattle.dq_dataset.proofs.Fields.{ok_is}

pub record ElementsBehind (bound : Bound) (syntax : Syntax) (levels : ℕ) (all : List ℕ) (last : Option Tag) (rest : List ℕ) : Type 0 where
  pub shorter : length rest ≤ length all
  pub told : (n : ℕ) → length all < n → (m : ℕ) × (length rest < m)
      × (rest_of ((readers n).elements bound syntax levels None all) ≡ rest_of ((readers m).elements bound syntax levels last rest))

pub record ItemsBehind (bound : Bound) (syntax : Syntax) (levels : ℕ) (all rest : List ℕ) : Type 0 where
  pub shorter : length rest ≤ length all
  pub told : (n : ℕ) → length all < n → (m : ℕ) × (length rest < m)
      × (rest_of ((readers n).items bound syntax levels all) ≡ rest_of ((readers m).items bound syntax levels rest))

-- ---- elements

rest_of-kept : (f : List Element → List Element) (read : Result (List Element × List ℕ) ReadFault) → rest_of (read >>= λ x. Ok (f x.0, x.1)) ≡ rest_of read
rest_of-kept f (Ok x) = refl
rest_of-kept f (Err e) = refl

-- what the header that was found tells of the reading after it
after_header : (r : Readers) (bound : Bound) (syntax : Syntax) (levels : ℕ) (read : Result (Option (Header × Value) × List ℕ) ReadFault) (h : Header)
    (after : List ℕ)
    → front_header read ≡ Ok (Some h, after) → rest_of (read >>= λ first. elements_after r bound syntax levels first.0 first.1)
    ≡ rest_of (r.elements bound syntax levels (Some h.tag) after)
unfolding elements_after
after_header r bound syntax levels read h after e = grind (arith, ok_is, rest_of-kept)

after_none : (r : Readers) (bound : Bound) (syntax : Syntax) (levels : ℕ) (read : Result (Option (Header × Value) × List ℕ) ReadFault) (after : List ℕ)
    → front_header read ≡ Ok (None, after) → rest_of (read >>= λ first. elements_after r bound syntax levels first.0 first.1) ≡ Ok after
unfolding elements_after
after_none r bound syntax levels read after e = grind (arith, ok_is)

-- a fault of what is read first is the fault of it all
first_fault : {A B X : Type 0} (read : Result A ReadFault) (seen : A → B) (more : A → Result (X × List ℕ) ReadFault) (f : ReadFault)
    → (read >>= λ x. Ok (seen x)) ≡ Err f → rest_of (read >>= more) ≡ Err f
first_fault (Ok x) seen more f e = absurd cc
first_fault (Err g) seen more f e = cc

module _ (bound : Bound) (syntax : Syntax) (levels : ℕ) (all : List ℕ) where
  module _ (last : Option Tag) (rest : List ℕ) where
    elements_at : ElementsBehind bound syntax levels all last rest → (n : ℕ) → length all < n → (k : ℕ) × (length rest ≤ k)
        × (rest_of ((readers n).elements bound syntax levels None all) ≡ rest_of (elements_by (readers k) bound syntax levels last rest))
    unfolding readers
    elements_at left n lt = a_step_left rest _ (λ m. rest_of ((readers m).elements bound syntax levels last rest)) _ (λ k. refl) (left.told n lt)

    pub elements_fail : ElementsBehind bound syntax levels all last rest → (e : ReadFault)
        → ((n : ℕ) → length rest ≤ n → front_header (element_by (readers n) bound syntax levels last rest) ≡ Err e)
        → (n : ℕ) → length all < n → rest_of ((readers n).elements bound syntax levels None all) ≡ Err e
    unfolding elements_by
    elements_fail left e failed n h =
        let k = elements_at left n h in
        k.2 ∙ first_fault (element_by (readers k.0) bound syntax levels last rest) _ _ e (failed k.0 k.1)

    pub elements_end : ElementsBehind bound syntax levels all last rest → (after : List ℕ)
        → ((n : ℕ) → length rest ≤ n → front_header (element_by (readers n) bound syntax levels last rest) ≡ Ok (None, after))
        → (n : ℕ) → length all < n → rest_of ((readers n).elements bound syntax levels None all) ≡ Ok after
    unfolding elements_by
    elements_end left after ended n h =
        let k = elements_at left n h in
        k.2 ∙ after_none (readers k.0) bound syntax levels (element_by (readers k.0) bound syntax levels last rest) after (ended k.0 k.1)

    pub elements_more : ElementsBehind bound syntax levels all last rest → (h : Header) (after : List ℕ)
        → ((n : ℕ) → length rest ≤ n → front_header (element_by (readers n) bound syntax levels last rest) ≡ Ok (Some h, after))
        → length after < length rest → ElementsBehind bound syntax levels all (Some h.tag) after
    unfolding elements_by
    elements_more left h after found shorter = record {
      shorter = omega (arith, left.shorter);
      told = λ n lt.
          let k = elements_at left n lt in (
            k.0,
            omega (arith, k.1),
            k.2 ∙ after_header (readers k.0) bound syntax levels (element_by (readers k.0) bound syntax levels last rest) h after
                (found k.0 k.1),
          );
    }

-- ---- items

rest_of-first : (d : ElementList) (read : Result (List ElementList × List ℕ) ReadFault) → rest_of (read >>= λ x. Ok (d ∷ x.0, x.1)) ≡ rest_of read
rest_of-first d (Ok x) = refl
rest_of-first d (Err e) = refl

after_item : (r : Readers) (bound : Bound) (syntax : Syntax) (levels : ℕ) (read : Result (Option ElementList × List ℕ) ReadFault) (after : List ℕ)
    → item_of read ≡ Ok (Some tt, after) → rest_of (read >>= λ first. items_after r bound syntax levels first.0 first.1)
    ≡ rest_of (r.items bound syntax levels after)
unfolding items_after
after_item r bound syntax levels read after e = grind (arith, ok_is, rest_of-first)

no_item_after : (r : Readers) (bound : Bound) (syntax : Syntax) (levels : ℕ) (read : Result (Option ElementList × List ℕ) ReadFault) (after : List ℕ)
    → item_of read ≡ Ok (None, after) → rest_of (read >>= λ first. items_after r bound syntax levels first.0 first.1) ≡ Ok after
unfolding items_after
no_item_after r bound syntax levels read after e = grind (arith, ok_is)

module _ (bound : Bound) (syntax : Syntax) (levels : ℕ) (all : List ℕ) where
  module _ (rest : List ℕ) where
    items_at : ItemsBehind bound syntax levels all rest → (n : ℕ) → length all < n → (k : ℕ) × (length rest ≤ k)
        × (rest_of ((readers n).items bound syntax levels all) ≡ rest_of (items_by (readers k) bound syntax levels rest))
    unfolding readers
    items_at left n lt = a_step_left rest _ (λ m. rest_of ((readers m).items bound syntax levels rest)) _ (λ k. refl) (left.told n lt)

    pub items_fail : ItemsBehind bound syntax levels all rest → (e : ReadFault)
        → ((n : ℕ) → length rest ≤ n → item_of (item_by (readers n) bound syntax levels rest) ≡ Err e)
        → (n : ℕ) → length all < n → rest_of ((readers n).items bound syntax levels all) ≡ Err e
    unfolding items_by
    items_fail left e failed n h =
        let k = items_at left n h in
        k.2 ∙ first_fault (item_by (readers k.0) bound syntax levels rest) _ _ e (failed k.0 k.1)

    pub items_end : ItemsBehind bound syntax levels all rest → (after : List ℕ)
        → ((n : ℕ) → length rest ≤ n → item_of (item_by (readers n) bound syntax levels rest) ≡ Ok (None, after))
        → (n : ℕ) → length all < n → rest_of ((readers n).items bound syntax levels all) ≡ Ok after
    unfolding items_by
    items_end left after ended n h =
        let k = items_at left n h in
        k.2 ∙ no_item_after (readers k.0) bound syntax levels (item_by (readers k.0) bound syntax levels rest) after (ended k.0 k.1)

    pub items_more : ItemsBehind bound syntax levels all rest → (after : List ℕ)
        → ((n : ℕ) → length rest ≤ n → item_of (item_by (readers n) bound syntax levels rest) ≡ Ok (Some tt, after))
        → length after < length rest → ItemsBehind bound syntax levels all after
    unfolding items_by
    items_more left after found shorter = record {
      shorter = omega (arith, left.shorter);
      told = λ n lt.
          let k = items_at left n lt in
          (k.0, omega (arith, k.1), k.2 ∙ after_item (readers k.0) bound syntax levels (item_by (readers k.0) bound syntax levels rest) after (found k.0 k.1));
    }
