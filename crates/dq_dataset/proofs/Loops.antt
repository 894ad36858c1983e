-- Reading elements or items one after the other, as a loop does.
use Rattle.std.proofs.Common.{◌≡◌, ◌≢◌, eq-eqb, ℕ, zero, suc, ◌≤◌, ◌<◌, List, [], ◌∷◌, ◌++◌, length, Option, Some, None, Result, Ok, Err, true, refl, sym, ap, ◌∙◌, append_assoc, arith, inl, inr, ◌⊎◌}
use Rattle.std.proofs.lemmas.List.{append-nil}
use Rattle.std.proofs.lemmas.Bool.{ltb-true, ne_eqb}
use Rattle.dq_dataset.proofs.Types.{Tag, ReadFault, NoMemory, Syntax, Bound, Content, Sequence, Header, Element, Value, ElementList}
use Rattle.dq_dataset.specs.DataSetReader.{◌>>=◌, readers, unless_group_length, may_nest, element_by, elements_by, elements_after, item_by, items_by, items_after}

-- what was read before, and what is still read
abbrev pub with_front : {X : Type 0} → List X → Result (List X × List ℕ) ReadFault → Result (List X × List ℕ) ReadFault
with_front front read = read >>= λ x. Ok (front ++ x.0, x.1)

pub record ElementsLeft (bound : Bound) (syntax : Syntax) (levels : ℕ) (all : List ℕ) (done : List Element) (last : Option Tag) (rest : List ℕ) : Type 0 where
  pub shorter : length rest ≤ length all
  pub told : (n : ℕ) → length all < n → (m : ℕ) × (length rest < m)
      × ((readers n).elements bound syntax levels None all ≡ with_front done ((readers m).elements bound syntax levels last rest))

pub record ItemsLeft (bound : Bound) (syntax : Syntax) (levels : ℕ) (all : List ℕ) (done : List ElementList) (rest : List ℕ) : Type 0 where
  pub shorter : length rest ≤ length all
  pub told : (n : ℕ) → length all < n → (m : ℕ) × (length rest < m)
      × ((readers n).items bound syntax levels all ≡ with_front done ((readers m).items bound syntax levels rest))

-- with steps enough for the rest, one is left
pub a_step_left : {A : Type 0} (rest : List ℕ) (whole : A) (read next : ℕ → A) → ((k : ℕ) → read (suc k) ≡ next k)
    → (m : ℕ) × (length rest < m) × (whole ≡ read m) → (k : ℕ) × (length rest ≤ k) × (whole ≡ next k)
a_step_left rest whole read next step (zero, lt, is) = absurd (omega arith)
a_step_left rest whole read next step (suc m, lt, is) = (m, omega arith, is ∙ step m)

with_front-nil : {X : Type 0} (read : Result (List X × List ℕ) ReadFault) → read ≡ with_front [] read
with_front-nil (Ok x) = refl
with_front-nil (Err e) = refl

-- ---- elements

kept-append : (h : Header) (v : Value) (others : List Element) → unless_group_length h v others ≡ unless_group_length h v [] ++ others
kept-append h v others = grind arith

after_kept : (done : List Element) (h : Header) (v : Value) (read : Result (List Element × List ℕ) ReadFault)
    → with_front done (read >>= λ x. Ok (unless_group_length h v x.0, x.1)) ≡ with_front (done ++ unless_group_length h v []) read
after_kept done h v read = grind (arith, kept-append, append_assoc)

module _ (bound : Bound) (syntax : Syntax) (levels : ℕ) (all : List ℕ) where
  pub elements_start : ElementsLeft bound syntax levels all [] None all
  elements_start = record { shorter = omega arith; told = λ n h. (n, h, with_front-nil ((readers n).elements bound syntax levels None all)) }

  module _ (done : List Element) (last : Option Tag) (rest : List ℕ) where
    elements_at : ElementsLeft bound syntax levels all done last rest → (n : ℕ) → length all < n → (k : ℕ) × (length rest ≤ k)
        × ((readers n).elements bound syntax levels None all ≡ with_front done (elements_by (readers k) bound syntax levels last rest))
    unfolding readers
    elements_at left n lt = a_step_left rest _ (λ m. with_front done ((readers m).elements bound syntax levels last rest)) _ (λ k. refl) (left.told n lt)

    pub elements_fail : ElementsLeft bound syntax levels all done last rest → (e : ReadFault)
        → ((n : ℕ) → length rest ≤ n → (e ≡ NoMemory) ⊎ (element_by (readers n) bound syntax levels last rest ≡ Err e))
        → (n : ℕ) → length all < n → (e ≡ NoMemory) ⊎ ((readers n).elements bound syntax levels None all ≡ Err e)
    unfolding elements_by
    elements_fail left e failed n h =
        let k = elements_at left n h in
        elim (failed k.0 k.1) [ inl memory ↦ inl memory | inr fault ↦ inr (k.2 ∙ rw fault refl) ]

    pub elements_end : ElementsLeft bound syntax levels all done last rest → (after : List ℕ)
        → ((n : ℕ) → length rest ≤ n → element_by (readers n) bound syntax levels last rest ≡ Ok (None, after))
        → (n : ℕ) → length all < n → (readers n).elements bound syntax levels None all ≡ Ok (done, after)
    unfolding elements_by elements_after
    elements_end left after ended n h =
        let k = elements_at left n h in
        k.2 ∙ rw (ended k.0 k.1) (ap (λ (es : List Element). Ok (es, after)) (append-nil done))

    pub elements_more : ElementsLeft bound syntax levels all done last rest → (h : Header) (v : Value) (after : List ℕ)
        → ((n : ℕ) → length rest ≤ n → element_by (readers n) bound syntax levels last rest ≡ Ok (Some (h, v), after))
        → length after < length rest → ElementsLeft bound syntax levels all (done ++ unless_group_length h v []) (Some h.tag) after
    unfolding elements_by elements_after
    elements_more left h v after found shorter = record {
      shorter = omega (arith, left.shorter);
      told = λ n lt.
          let k = elements_at left n lt in
          (k.0, omega (arith, k.1), k.2 ∙ rw (found k.0 k.1) (after_kept done h v ((readers k.0).elements bound syntax levels (Some h.tag) after)));
    }

-- ---- items

after_item : (done : List ElementList) (d : ElementList) (read : Result (List ElementList × List ℕ) ReadFault)
    → with_front done (read >>= λ x. Ok (d ∷ x.0, x.1)) ≡ with_front (done ++ d ∷ []) read
after_item done d (Ok x) = ap (λ (ds : List ElementList). Ok (ds, x.1)) (sym (append_assoc done (d ∷ []) x.0))
after_item done d (Err e) = refl

module _ (bound : Bound) (syntax : Syntax) (levels : ℕ) (all : List ℕ) where
  pub items_start : ItemsLeft bound syntax levels all [] all
  items_start = record { shorter = omega arith; told = λ n h. (n, h, with_front-nil ((readers n).items bound syntax levels all)) }

  module _ (done : List ElementList) (rest : List ℕ) where
    items_at : ItemsLeft bound syntax levels all done rest → (n : ℕ) → length all < n → (k : ℕ) × (length rest ≤ k)
        × ((readers n).items bound syntax levels all ≡ with_front done (items_by (readers k) bound syntax levels rest))
    unfolding readers
    items_at left n lt = a_step_left rest _ (λ m. with_front done ((readers m).items bound syntax levels rest)) _ (λ k. refl) (left.told n lt)

    pub items_fail : ItemsLeft bound syntax levels all done rest → (e : ReadFault)
        → ((n : ℕ) → length rest ≤ n → (e ≡ NoMemory) ⊎ (item_by (readers n) bound syntax levels rest ≡ Err e))
        → (n : ℕ) → length all < n → (e ≡ NoMemory) ⊎ ((readers n).items bound syntax levels all ≡ Err e)
    unfolding items_by
    items_fail left e failed n h =
        let k = items_at left n h in
        elim (failed k.0 k.1) [ inl memory ↦ inl memory | inr fault ↦ inr (k.2 ∙ rw fault refl) ]

    pub items_end : ItemsLeft bound syntax levels all done rest → (after : List ℕ)
        → ((n : ℕ) → length rest ≤ n → item_by (readers n) bound syntax levels rest ≡ Ok (None, after))
        → (n : ℕ) → length all < n → (readers n).items bound syntax levels all ≡ Ok (done, after)
    unfolding items_by items_after
    items_end left after ended n h =
        let k = items_at left n h in
        k.2 ∙ rw (ended k.0 k.1) (ap (λ (ds : List ElementList). Ok (ds, after)) (append-nil done))

    pub items_more : ItemsLeft bound syntax levels all done rest → (d : ElementList) (after : List ℕ)
        → ((n : ℕ) → length rest ≤ n → item_by (readers n) bound syntax levels rest ≡ Ok (Some d, after))
        → length after < length rest → ItemsLeft bound syntax levels all (done ++ d ∷ []) after
    unfolding items_by items_after
    items_more left d after found shorter = record {
      shorter = omega (arith, left.shorter);
      told = λ n lt.
          let k = items_at left n lt in
          (k.0, omega (arith, k.1), k.2 ∙ rw (found k.0 k.1) (after_item done d ((readers k.0).items bound syntax levels after)));
    }

-- where a sequence may be nested, a level is left
pub level_left : (levels : ℕ) (content : Content) (syntax : Syntax) (n : Option ℕ) → may_nest levels content ≡ true → content ≡ Sequence syntax n → 0 < levels
level_left levels content syntax n h e = ltb-true 0 levels (sym (ap (may_nest levels) e) ∙ h)

-- a header that is not of a group length keeps its element, and one of a group length drops it
pub kept_one : (h : Header) (v : Value) → h.tag.element ≢ 0 → unless_group_length h v [] ≡ record { tag = h.tag; vr = h.vr; value = v } ∷ []
kept_one h v ne = rw (ne_eqb h.tag.element 0 ne) refl

pub kept_none : (h : Header) (v : Value) → h.tag.element ≡ 0 → unless_group_length h v [] ≡ []
kept_none h v e = rw (eq-eqb h.tag.element 0 e) refl
