-- What a search finds among entries whose tags rise.
use Rattle.std.proofs.Common.{◌≡◌, ℕ, ◌+◌, ◌*◌, ◌<◌, ◌≤◌, Bool, true, false, List, [], ◌∷◌, length, get_or, Some, None, Result, Ok, Err, MatchResult, refl, ap, ◌∙◌, rules, arith, zero, suc, nat_eq, nat_lt, ◌&&◌, inl, inr, ◌⊎◌}
use Rattle.std.specs.Ordering.{nat_cmp, ordering_index}
use Rattle.std.specs.declared.cmp.Ordering.TheVariants.{Less, Equal, Greater}
use Rattle.std.specs.List.Sorted.{IsSearchInRange, IsBinarySearchResult, IsNonDecreasingBy}
use Rattle.std.proofs.lemmas.Bool.Decides.{nat_tests}
use Rattle.dq_vr.specs.declared.Tag.{Tag}
use Rattle.dq_vr.specs.Tag.{is_below}
use Rattle.dq_vr.specs.Dictionary.{Entry, Rises, vr_in}

-- the tag as one number
abbrev pub number_of : Tag → ℕ
number_of tag = tag.group * 65536 + tag.element

abbrev has_tag : Entry → Tag → Bool
has_tag entry tag = nat_eq entry.0.group tag.group && nat_eq entry.0.element tag.element

below_number : (g e h f : ℕ) → e < 65536 → f < 65536 → (nat_lt g h ≡ true) ⊎ ((g ≡ h) × (e < f)) → g * 65536 + e < h * 65536 + f
below_number g e h f p q (inl less) = grind (arith, nat_tests)
below_number g e h f p q (inr same) = omega arith

below_cases : (a b : Tag) → is_below a b ≡ true → (nat_lt a.group b.group ≡ true) ⊎ ((a.group ≡ b.group) × (a.element < b.element))
unfolding is_below
below_cases a b h = grind (arith, nat_tests)

same_group : (g e h f : ℕ) → e < 65536 → f < 65536 → g * 65536 + e ≡ h * 65536 + f → g ≡ h
same_group g e h f p q s = omega arith

same_tag : (a b : Tag) → a.element < 65536 → b.element < 65536 → number_of a ≡ number_of b → (nat_eq a.group b.group && nat_eq a.element b.element) ≡ true
same_tag a b p q s =
    let groups = same_group a.group a.element b.group b.element p q s in
    grind (arith, nat_tests)

other_tag : (a b : Tag) → number_of a < number_of b → (nat_eq a.group b.group && nat_eq a.element b.element) ≡ false
other_tag a b s = grind (arith, nat_tests)

other_tag_above : (a b : Tag) → number_of b < number_of a → (nat_eq a.group b.group && nat_eq a.element b.element) ≡ false
other_tag_above a b s = grind (arith, nat_tests)

cmp_less : (x y : ℕ) → nat_cmp x y ≡ Less → x < y
cmp_less x y h = grind (arith, nat_tests)

cmp_equal : (x y : ℕ) → nat_cmp x y ≡ Equal → x ≡ y
cmp_equal x y h = grind (arith, nat_tests)

cmp_greater : (x y : ℕ) → nat_cmp x y ≡ Greater → y < x
cmp_greater x y h = grind (arith, nat_tests)

cmp_rises : (x y z : ℕ) → x ≤ y → ordering_index (nat_cmp x z) ≤ ordering_index (nat_cmp y z)
cmp_rises x y z h = grind (arith, nat_tests)

before_or_same : {x y : ℕ} → x < y → x ≤ y
before_or_same h = omega arith

le_cases : (i j : ℕ) → i ≤ j → (i < j) ⊎ (i ≡ j)
le_cases i j h = search (rules, arith)

lt_or_le : (i j : ℕ) → (i < j) ⊎ (j ≤ i)
lt_or_le i j = search (rules, arith)

vr_in-none : (xs : List Entry) (tag : Tag) → ((k : ℕ) (d : Entry) → k < length xs → has_tag (get_or xs k d) tag ≡ false) → vr_in xs tag ≡ None
unfolding vr_in
vr_in-none [] tag h = refl
vr_in-none (x ∷ xs) tag h = rw (h 0 x (omega arith)) (vr_in-none xs tag (λ k d lt. h (suc k) d (omega arith)))

vr_in-at : (xs : List Entry) (tag : Tag) (i : ℕ) (d : Entry) → i < length xs → has_tag (get_or xs i d) tag ≡ true
    → ((k : ℕ) → k < i → has_tag (get_or xs k d) tag ≡ false) → vr_in xs tag ≡ Some (get_or xs i d).1
unfolding vr_in
vr_in-at [] tag i d lt here before = absurd (omega arith)
vr_in-at (x ∷ xs) tag zero d lt here before = rw here refl
vr_in-at (x ∷ xs) tag (suc i) d lt here before = rw (before 0 (omega arith)) (vr_in-at xs tag i d (omega arith) here (λ k l. before (suc k) (omega arith)))

module _ (xs : List Entry) (rises : Rises xs) (small : (k : ℕ) (d : Entry) → k < length xs → (get_or xs k d).0.element < 65536) (tag : Tag)
    (short : tag.element < 65536) where
  later : (i j : ℕ) (d : Entry) → i < j → j < length xs → number_of (get_or xs i d).0 < number_of (get_or xs j d).0
  unfolding Rises
  later i j d lt within =
      let a = get_or xs i d in
      let b = get_or xs j d in
      below_number a.0.group a.0.element b.0.group b.0.element (small i d (omega arith)) (small j d within) (below_cases a.0 b.0 (rises i j d lt within))

  searchable : (n : ℕ) → IsNonDecreasingBy (λ y. ordering_index (nat_cmp (number_of y.0) n)) xs
  searchable n i j d le within =
      elim (le_cases i j le) [
        | inl lt ↦ cmp_rises (number_of (get_or xs i d).0) (number_of (get_or xs j d).0) n (before_or_same (later i j d lt within))
        | inr same ↦ rw same (omega arith)
      ]

  pub searched : (n : ℕ) → n ≡ number_of tag → (r : Result ℕ ℕ) → IsSearchInRange r (length xs) → IsBinarySearchResult (λ y. nat_cmp (number_of y.0) n) xs r
      → MatchResult r (λ i. (d : Entry) → vr_in xs tag ≡ Some (get_or xs i d).1) (λ i. vr_in xs tag ≡ None)
  searched n named (Ok i) within here = λ d.
      let at : number_of (get_or xs i d).0 ≡ number_of tag = cmp_equal (number_of (get_or xs i d).0) n (here d) ∙ named in
      vr_in-at xs tag i d within (same_tag (get_or xs i d).0 tag (small i d within) short at) (λ k lt.
      let less = later k i d lt within in
      other_tag (get_or xs k d).0 tag (omega arith))
  searched n named (Err i) within parted =
      let halves = parted (searchable n) in
      vr_in-none xs tag (λ k d lt.
      elim (lt_or_le k i) [
        | inl before ↦ other_tag (get_or xs k d).0 tag (rw named at (cmp_less (number_of (get_or xs k d).0) n (halves.0 k d (omega arith) before)))
        | inr after ↦ other_tag_above (get_or xs k d).0 tag (rw named at (cmp_greater (number_of (get_or xs k d).0) n (halves.1 k d after lt)))
      ])

  -- an entry's tag has its VR
  pub vr_in-of_entry : (entry : Entry) (k : ℕ) → k < length xs → get_or xs k entry ≡ entry → entry.0 ≡ tag → vr_in xs tag ≡ Some entry.1
  vr_in-of_entry entry k within here named =
      let same : number_of (get_or xs k entry).0 ≡ number_of tag = ap (λ (e : Entry). number_of e.0) here ∙ ap number_of named in
      let found = vr_in-at xs tag k entry within (same_tag (get_or xs k entry).0 tag (small k entry within) short same) (λ i lt.
      let less = later i k entry lt within in
      other_tag (get_or xs i entry).0 tag (omega arith)) in
      found ∙ ap (λ (e : Entry). Some e.1) here
