-- A fault other than that octets are missing stays, whatever octets follow.
use Rattle.std.proofs.Common.{◌≡◌, ℕ, ◌-◌, ◌≤◌, Bool, true, false, not, cond, ltb, List, [], ◌∷◌, ◌++◌, length, drop, Option, Some, None, refl, ap, ◌∙◌, append_assoc, arith, inl, inr, ◌⊎◌}
use Rattle.std.specs.Int.{w32, from_le_bytes}
use Rattle.std.proofs.lemmas.Bool.{ltb-false, le-ltb, leb-true, le-leb, ne_eqb, not-false, not_from_true}
use Rattle.std.proofs.lemmas.List.{length-append, take-append-le, drop-append-le, append-nil}
use Rattle.dq_dataset.proofs.Types.{Tag, Vr, LengthForm, Two, Four, ReadFault, Truncated, BadVr, TagOrder, BadItem, BadUndefined, TooDeep, Syntax, Implicit, Explicit, Bound, Filled, Delimited}
use Rattle.dq_vr.specs.Dictionary.{known_vr}
use Rattle.dq_vr.specs.Vr.{length_form_of, vr_with_letters}
use Rattle.dq_dataset.specs.Rules.{fits_enclosing}
use Rattle.dq_dataset.specs.Faults.{tag_in, defined_length, size_by, header_size, extent_by, extent_in, first_of, faults_of_content, faults_of_header, header_faults, item_faults, ends_here, HasFault, at_header, in_value, after_element, ItemsHaveFault, at_item, in_item, after_item, IsFaulty}
use Rattle.dq_dataset.proofs.HeaderFaults.{eight, by_eight}

-- ---- tests of a header

-- with more octets the same is the first fault, unless octets are missing
abbrev Stays : Option ReadFault → Option ReadFault → Type 0
Stays before after = (f : ReadFault) → before ≡ Some f → (f ≡ Truncated) ⊎ (after ≡ Some f)

same_test : (b : Bool) (d : ReadFault) (x y : Option ReadFault) → Stays x y → Stays (cond b (Some d) x) (cond b (Some d) y)
same_test true d x y stays f e = inr e
same_test false d x y stays f e = stays f e

short_test : (before after : Bool) (x y : Option ReadFault) → (before ≡ false → (after ≡ false) × Stays x y)
    → Stays (cond before (Some Truncated) x) (cond after (Some Truncated) y)
short_test true after x y long f e = inl cc
short_test false after x y long f e = rw (long refl).0 ((long refl).1 f e)

longer : (n : ℕ) (octets t : List ℕ) → ltb (length octets) n ≡ false → ltb (length (octets ++ t)) n ≡ false
longer n octets t e = le-ltb (length (octets ++ t)) n (omega (arith, ltb-false (length octets) n e, length-append octets t))

fits_stays : (extent : Option ℕ) (octets t : List ℕ)
    → Stays (first_of ((not (fits_enclosing extent octets), Truncated) ∷ [])) (first_of ((not (fits_enclosing extent (octets ++ t)), Truncated) ∷ []))
fits_stays None octets t = λ f e. absurd cc
fits_stays (Some n) octets t = grind (arith, short_test, not_from_true, le-leb, leb-true, not-false, length-append)

content_stays : (levels : ℕ) (known spelled : Option Vr) (extent : Option ℕ) (rest t : List ℕ)
    → Stays (first_of (faults_of_content levels known spelled extent rest)) (first_of (faults_of_content levels known spelled extent (rest ++ t)))
content_stays levels known spelled extent rest t = same_test _ BadUndefined _ _ (same_test _ TooDeep _ _ (fits_stays extent rest t))

module _ (a b c d e f g h : ℕ) (rest t : List ℕ) where
  abbrev all : List ℕ
  all = eight a b c d e f g h rest

  same_by : (form : LengthForm) → size_by form ≤ length all → extent_by form (all ++ t) ≡ extent_by form all
  same_by Two le = refl
  same_by Four le = ap (λ (x : List ℕ). defined_length (from_le_bytes w32 x)) (take-append-le 4 rest t (omega arith))

  same_extent : (spelled : Option Vr) → header_size spelled ≤ length all → extent_in spelled (all ++ t) ≡ extent_in spelled all
  same_extent None le = refl
  same_extent (Some vr) le = same_by (length_form_of vr) le

  after_vr : (levels : ℕ) (tag : Tag) (spelled : Option Vr) → ltb (length all) (header_size spelled) ≡ false
      → Stays (first_of (faults_of_content levels (known_vr tag) spelled (extent_in spelled all) (drop (header_size spelled) all)))
      (first_of (faults_of_content levels (known_vr tag) spelled (extent_in spelled (all ++ t)) (drop (header_size spelled) (all ++ t))))
  after_vr levels tag spelled long =
      let le = ltb-false (length all) (header_size spelled) long in
      rw (same_extent spelled le, drop-append-le (header_size spelled) all t le)
      (content_stays levels (known_vr tag) spelled (extent_in spelled all) (drop (header_size spelled) all) t)

  from_tag : (syntax : Syntax) (levels : ℕ) (last : Option Tag) (tag : Tag) (spelled : Option Vr)
      → Stays (first_of (faults_of_header syntax levels last tag spelled all)) (first_of (faults_of_header syntax levels last tag spelled (all ++ t)))
  from_tag syntax levels last tag spelled =
      short_test _ _ _ _ (λ e. (
        longer 8 all t e,
        same_test _ BadItem _ _
            (same_test _ TagOrder _ _
            (same_test _ BadVr _ _ (short_test _ _ _ _ (λ e. (longer (header_size spelled) all t e, after_vr levels tag spelled e))))),
      ))

  header_stays : (syntax : Syntax) (levels : ℕ) (last : Option Tag)
      → Stays (first_of (header_faults syntax levels last all)) (first_of (header_faults syntax levels last (all ++ t)))
  header_stays Implicit levels last = from_tag Implicit levels last (tag_in all) None
  header_stays Explicit levels last = from_tag Explicit levels last (tag_in all) (vr_with_letters (e ∷ f ∷ []))

  item_stays : Stays (first_of (item_faults all)) (first_of (item_faults (all ++ t)))
  item_stays = short_test _ _ _ _ (λ e. (longer 8 all t e, same_test _ BadItem _ _ (fits_stays _ rest t)))

  no_end_stays : (bound : Bound) (element : ℕ) → ends_here bound element all ≡ false → ends_here bound element (all ++ t) ≡ false
  no_end_stays Filled element e = ne_eqb (length (all ++ t)) 0 (λ z. omega (arith, z))
  no_end_stays Delimited element e = rw (le-ltb (length (all ++ t)) 8 (omega arith)) (rw (le-ltb (length all) 8 (omega arith)) at e)

-- ---- the first fault

module _ (bound : Bound) (element : ℕ) (first : List ℕ → Option ReadFault) (t : List ℕ) (fault : ReadFault) where
  abbrev Meets : List ℕ → Type 0
  Meets octets = (ends_here bound element octets ≡ false) × (first octets ≡ Some fault)

  -- a fault that is met at a header
  stays_met : ((octets : List ℕ) → ltb (length octets) 8 ≡ true → first octets ≡ Some Truncated)
      → ((a b c d e f g h : ℕ) (rest : List ℕ) → Stays (first (eight a b c d e f g h rest)) (first (eight a b c d e f g h rest ++ t)))
      → (octets : List ℕ) → Meets octets → (fault ≡ Truncated) ⊎ Meets (octets ++ t)
  stays_met missing stays =
      by_eight (λ octets. Meets octets → (fault ≡ Truncated) ⊎ Meets (octets ++ t))
      (λ octets short met. let is = missing octets short in inl cc)
      (λ a b c d e f g h rest met. elim (stays a b c d e f g h rest fault met.1) [
        | inl less ↦ inl less
        | inr same ↦ inr (no_end_stays a b c d e f g h rest t bound element met.0, same)
      ])

abbrev parts_of : List ℕ → List ℕ → List ℕ → List ℕ
parts_of header value rest = header ++ (value ++ rest)

more_behind : (octets header value rest t : List ℕ) → octets ≡ parts_of header value rest → octets ++ t ≡ parts_of header value (rest ++ t)
more_behind octets header value rest t e = ap (λ (x : List ℕ). x ++ t) e ∙ simp append_assoc

more_within : (octets header value rest t : List ℕ) → octets ≡ parts_of header value rest → rest ≡ [] → octets ++ t ≡ parts_of header (value ++ t) []
more_within octets header value rest t e none = rw (e, none) (simp (append_assoc, append-nil))

mutual
  pub elements_stay : (t : List ℕ) (bound : Bound) (syntax : Syntax) (levels : ℕ) (last : Option Tag) (octets : List ℕ) (f : ReadFault)
      → HasFault bound syntax levels last octets f → (f ≡ Truncated) ⊎ HasFault bound syntax levels last (octets ++ t) f
  elements_stay t bound syntax levels last octets f (at_header _ _ _ _ _ _ open_here first) =
      elim (stays_met bound 0xE00D (λ o. first_of (header_faults syntax levels last o)) t f (λ o short. rw short refl)
      (λ a b c d e f g h rest. header_stays a b c d e f g h rest t syntax levels last) octets (open_here, first)) [
        | inl missing ↦ inl missing
        | inr met ↦ inr (at_header bound syntax levels last (octets ++ t) f met.0 met.1)
      ]
  elements_stay t bound syntax levels last octets f (in_value _ _ _ _ _ _ tag inner None header value rest placed is_header lt has faulty e) =
      elim (items_stay t Delimited inner (levels - 1) value f faulty) [
        | inl missing ↦ inl missing
        | inr is ↦ inr (in_value bound syntax levels last (octets ++ t) f tag inner None header (value ++ t) [] placed is_header lt refl is
            (more_within octets header value rest t e has))
      ]
  elements_stay t bound syntax levels last octets f (in_value _ _ _ _ _ _ tag inner (Some n) header value rest placed is_header lt has faulty e) =
      inr (in_value bound syntax levels last (octets ++ t) f tag inner (Some n) header value (rest ++ t) placed is_header lt has faulty
      (more_behind octets header value rest t e))
  elements_stay t bound syntax levels last octets f (after_element _ _ _ _ _ _ tag content header value rest held placed is_header spells faulty e) =
      elim (elements_stay t bound syntax levels (Some tag) rest f faulty) [
        | inl missing ↦ inl missing
        | inr is ↦ inr (after_element bound syntax levels last (octets ++ t) f tag content header value (rest ++ t) held placed is_header spells is
            (more_behind octets header value rest t e))
      ]

  pub items_stay : (t : List ℕ) (bound : Bound) (syntax : Syntax) (levels : ℕ) (octets : List ℕ) (f : ReadFault)
      → ItemsHaveFault bound syntax levels octets f → (f ≡ Truncated) ⊎ ItemsHaveFault bound syntax levels (octets ++ t) f
  items_stay t bound syntax levels octets f (at_item _ _ _ _ _ open_here first) =
      elim (stays_met bound 0xE0DD (λ o. first_of (item_faults o)) t f (λ o short. rw short refl)
      (λ a b c d e f g h rest. item_stays a b c d e f g h rest t) octets (open_here, first)) [
        | inl missing ↦ inl missing
        | inr met ↦ inr (at_item bound syntax levels (octets ++ t) f met.0 met.1)
      ]
  items_stay t bound syntax levels octets f (in_item _ _ _ _ _ None header value rest is_header has faulty e) =
      elim (elements_stay t Delimited syntax levels None value f faulty) [
        | inl missing ↦ inl missing
        | inr is ↦ inr (in_item bound syntax levels (octets ++ t) f None header (value ++ t) [] is_header refl is
            (more_within octets header value rest t e has))
      ]
  items_stay t bound syntax levels octets f (in_item _ _ _ _ _ (Some n) header value rest is_header has faulty e) =
      inr (in_item bound syntax levels (octets ++ t) f (Some n) header value (rest ++ t) is_header has faulty (more_behind octets header value rest t e))
  items_stay t bound syntax levels octets f (after_item _ _ _ _ _ extent header value rest first is_header has spells faulty e) =
      elim (items_stay t bound syntax levels rest f faulty) [
        | inl missing ↦ inl missing
        | inr is ↦ inr (after_item bound syntax levels (octets ++ t) f extent header value (rest ++ t) first is_header has spells is
            (more_behind octets header value rest t e))
      ]

-- a fault of the front stays
pub fault_stays : (syntax : Syntax) (octets more : List ℕ) (f : ReadFault) → IsFaulty syntax octets f → (f ≡ Truncated) ⊎ IsFaulty syntax (octets ++ more) f
fault_stays syntax octets more f faulty = elements_stay more Filled syntax 16 None octets f faulty
