-- The octets of values, one after the other.
use Rattle.std.proofs.Common.{◌≡◌, ℕ, ◌+◌, ◌<◌, ◌≤◌, List, [], ◌∷◌, ◌++◌, length, drop, get_or, Option, Some, None, option_map, refl, sym, ap, ◌∙◌, append_assoc}
use Rattle.std.specs.Int.{w16, to_le_bytes}
use Rattle.std.proofs.lemmas.List.{append-nil, drop_more, drop_all}
use Rattle.json.specs.declared.value.Value.{Value}
use Rattle.json.specs.Value.{value_view, items_view}
use Rattle.dq_list.specs.Readers.{◌>>=◌}
use Rattle.dq_vr.specs.declared.Vr.{Vr}
use Rattle.dq_json.specs.Values.{value_text, separated, short_of, shorts}

at_drop : {A X : Type 0} (read : List A → X) (all : List A) (i : ℕ) (v : A) → i < length all → v ≡ get_or all i v
    → read (drop i all) ≡ read (v ∷ drop (i + 1) all)
at_drop read all i v lt is = ap read (drop_more all i v lt ∙ ap (λ x. x ∷ drop (i + 1) all) (sym is))

-- ---- text

text_read : (done text : List ℕ) (rest : Option (List ℕ))
    → option_map (λ r. done ++ r) (rest >>= λ r. Some (0x5c ∷ (text ++ r))) ≡ option_map (λ r. ((done ++ 0x5c ∷ []) ++ text) ++ r) rest
text_read done text None = refl
text_read done text (Some r) = ap Some (sym (append_assoc (done ++ 0x5c ∷ []) text r ∙ append_assoc done (0x5c ∷ []) (text ++ r)))

module _ {A : Type 0} (vr : Vr) (all : List (Value A)) (done : List ℕ) (i : ℕ) where
  abbrev pub TextsLeft : Type 0
  TextsLeft = separated vr (items_view all) ≡ option_map (λ r. done ++ r) (separated vr (items_view (drop i all)))

  texts_at : TextsLeft → (v : Value A) → i < length all → v ≡ get_or all i v
      → separated vr (items_view all) ≡ option_map (λ r. done ++ r)
      (value_text vr (value_view v) >>= λ text. separated vr (items_view (drop (i + 1) all)) >>= λ r. Some (0x5c ∷ (text ++ r)))
  unfolding separated
  texts_at left v lt is = left ∙ at_drop (λ vs. option_map (λ r. done ++ r) (separated vr (items_view vs))) all i v lt is

  pub texts_more : TextsLeft → (v : Value A) → i < length all → v ≡ get_or all i v → (text : List ℕ) → Some text ≡ value_text vr (value_view v)
      → separated vr (items_view all) ≡ option_map (λ r. ((done ++ 0x5c ∷ []) ++ text) ++ r) (separated vr (items_view (drop (i + 1) all)))
  texts_more left v lt is text told =
      texts_at left v lt is ∙ rw (← told) (text_read done text (separated vr (items_view (drop (i + 1) all))))

  pub texts_none : TextsLeft → (v : Value A) → i < length all → v ≡ get_or all i v → None ≡ value_text vr (value_view v)
      → None ≡ separated vr (items_view all)
  texts_none left v lt is none = sym (texts_at left v lt is ∙ rw (← none) refl)

  pub texts_ended : TextsLeft → length all ≤ i → Some done ≡ separated vr (items_view all)
  unfolding separated
  texts_ended left le =
      sym (left ∙ ap (λ (vs : List (Value A)). option_map (λ r. done ++ r) (separated vr (items_view vs))) (drop_all i all le)
      ∙ ap Some (append-nil done))

-- ---- numbers

short_after : (done : List ℕ) (number : ℕ) (rest : Option (List ℕ))
    → option_map (λ r. done ++ r) (rest >>= λ r. Some (to_le_bytes w16 number ++ r)) ≡ option_map (λ r. (done ++ to_le_bytes w16 number) ++ r) rest
short_after done number None = refl
short_after done number (Some r) = ap Some (sym (append_assoc done (to_le_bytes w16 number) r))

module _ {A : Type 0} (all : List (Value A)) (done : List ℕ) (i : ℕ) where
  abbrev pub ShortsLeft : Type 0
  ShortsLeft = shorts (items_view all) ≡ option_map (λ r. done ++ r) (shorts (items_view (drop i all)))

  shorts_at : ShortsLeft → (v : Value A) → i < length all → v ≡ get_or all i v
      → shorts (items_view all) ≡ option_map (λ r. done ++ r)
      (short_of (value_view v) >>= λ number. shorts (items_view (drop (i + 1) all)) >>= λ r. Some (to_le_bytes w16 number ++ r))
  unfolding shorts
  shorts_at left v lt is = left ∙ at_drop (λ vs. option_map (λ r. done ++ r) (shorts (items_view vs))) all i v lt is

  pub shorts_more : ShortsLeft → (v : Value A) → i < length all → v ≡ get_or all i v → (number : ℕ) → Some number ≡ short_of (value_view v)
      → shorts (items_view all) ≡ option_map (λ r. (done ++ to_le_bytes w16 number) ++ r) (shorts (items_view (drop (i + 1) all)))
  shorts_more left v lt is number told =
      shorts_at left v lt is ∙ rw (← told) (short_after done number (shorts (items_view (drop (i + 1) all))))

  pub shorts_none : ShortsLeft → (v : Value A) → i < length all → v ≡ get_or all i v → None ≡ short_of (value_view v)
      → None ≡ shorts (items_view all)
  shorts_none left v lt is none = sym (shorts_at left v lt is ∙ rw (← none) refl)

  pub shorts_ended : ShortsLeft → length all ≤ i → Some done ≡ shorts (items_view all)
  unfolding shorts
  shorts_ended left le =
      sym (left ∙ ap (λ (vs : List (Value A)). option_map (λ r. done ++ r) (shorts (items_view vs))) (drop_all i all le)
      ∙ ap Some (append-nil done))
