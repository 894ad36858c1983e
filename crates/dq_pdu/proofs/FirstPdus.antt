-- What stands at the front of octets, by the tests on them.
use Rattle.std.proofs.Common.{◌≡◌, ℕ, ◌+◌, ◌<◌, ◌≤◌, Bool, true, false, cond, ltb, List, ◌++◌, length, get_or, take, drop, Option, Some, None, refl, sym, ap, ◌∙◌, arith, length-append, length-drop, inl, inr}
use Rattle.std.specs.Int.{w32, from_be_bytes}
use Rattle.std.proofs.lemmas.Bool.{cases_lt, ltb-true, ltb-false, lt-ltb, le-ltb}
use Rattle.std.proofs.lemmas.List.{get_or_append_left, take-append-le, drop-append-le}
use Rattle.dq_pdu.specs.declared.pdu_reader.FirstPdu.{FirstPdu}
use Rattle.dq_pdu.specs.declared.pdu_reader.FirstPdu.TheVariants.{Partial, Faulty, Whole}
use Rattle.dq_pdu.specs.declared.fault.PduFault.{PduFault}
use Rattle.dq_pdu.specs.declared.fault.PduFault.TheVariants.{Unrecognized, TooLong, Malformed}
use Rattle.dq_pdu.specs.declared.pdu.Pdu.{Pdu}
use Rattle.dq_pdu.specs.PduReader.{first_pdu, pdu_of, is_unrecognized, body_length, whole_or_malformed}
use Rattle.dq_pdu.specs.Stream.{fault_at_front}

-- the choice after the six octets
abbrev chosen : Bool → Bool → Bool → Option Pdu → ℕ → FirstPdu
chosen unknown long short one_pdu count = cond unknown (Faulty Unrecognized) (cond long (Faulty TooLong) (cond short Partial
    (whole_or_malformed one_pdu count)))

abbrev chosen_fault : Bool → Bool → Bool → Option PduFault
chosen_fault unknown long short = cond unknown (Some Unrecognized) (cond long (Some TooLong) (cond short None (Some Malformed)))

abbrev unknown : List ℕ → Bool
unknown s = is_unrecognized (get_or s 0 0)

abbrev long : List ℕ → Bool
long s = ltb 65536 (body_length s)

abbrev short : List ℕ → Bool
short s = ltb (length (drop 6 s)) (body_length s)

abbrev one_pdu : List ℕ → Option Pdu
one_pdu s = pdu_of (get_or s 0 0) (take (body_length s) (drop 6 s))

abbrev front_chosen : List ℕ → FirstPdu
front_chosen s = chosen (unknown s) (long s) (short s) (one_pdu s) (body_length s + 6)

pub front-few : (s : List ℕ) → length s < 6 → first_pdu s ≡ Partial
unfolding first_pdu
front-few s h = rw (lt-ltb (length s) 6 h) refl

front-enough : (s : List ℕ) → 6 ≤ length s → first_pdu s ≡ front_chosen s
unfolding first_pdu
front-enough s h = rw (le-ltb (length s) 6 h) refl

-- ---- a whole PDU

pub record IsWhole (s : List ℕ) (pdu : Pdu) (count : ℕ) : Type 0 where
  pub six : 6 ≤ length s
  pub known : unknown s ≡ false
  pub fits : body_length s ≤ 65536
  pub enough : body_length s ≤ length (drop 6 s)
  pub read : one_pdu s ≡ Some pdu
  pub count_is : count ≡ body_length s + 6

record WasWhole (u l t : Bool) (read : Option Pdu) (n : ℕ) (pdu : Pdu) (count : ℕ) : Type 0 where
  known : u ≡ false
  fits : l ≡ false
  enough : t ≡ false
  pdu_is : read ≡ Some pdu
  count_is : count ≡ n

was_whole : (u l t : Bool) (read : Option Pdu) (n : ℕ) (pdu : Pdu) (count : ℕ) → chosen u l t read n ≡ Whole pdu count → WasWhole u l t read n pdu count
was_whole true l t read n pdu count e = absurd cc
was_whole false true t read n pdu count e = absurd cc
was_whole false false true read n pdu count e = absurd cc
was_whole false false false None n pdu count e = absurd cc
was_whole false false false (Some p) n pdu count e = record { known = refl; fits = refl; enough = refl; pdu_is = cc; count_is = cc }

pub whole_is : (s : List ℕ) (pdu : Pdu) (count : ℕ) → first_pdu s ≡ Whole pdu count → IsWhole s pdu count
whole_is s pdu count e =
    elim (cases_lt (length s) 6) [
      | inl few ↦ absurd (let p = sym (front-few s few) ∙ e in cc)
      | inr six ↦
          let w = was_whole (unknown s) (long s) (short s) (one_pdu s) (body_length s + 6) pdu count (sym (front-enough s six) ∙ e) in
          record { six = six; known = w.known; fits = ltb-false _ _ w.fits; enough = ltb-false _ _ w.enough; read = w.pdu_is; count_is = w.count_is }
    ]

pub whole_from : (s : List ℕ) (pdu : Pdu) (count : ℕ) → IsWhole s pdu count → first_pdu s ≡ Whole pdu count
whole_from s pdu count w = grind (arith, le-ltb, front-enough)

pub count_within : (s : List ℕ) (pdu : Pdu) (count : ℕ) → first_pdu s ≡ Whole pdu count → (6 ≤ count) × (count ≤ length s)
count_within s pdu count e = grind (arith, whole_is, length-drop)

-- ---- a fault, or too few octets

faulty_fault : (u l t : Bool) (read : Option Pdu) (n : ℕ) (fault : PduFault) → chosen u l t read n ≡ Faulty fault → chosen_fault u l t ≡ Some fault
faulty_fault true l t read n fault e = cc
faulty_fault false true t read n fault e = cc
faulty_fault false false true read n fault e = absurd cc
faulty_fault false false false None n fault e = cc
faulty_fault false false false (Some p) n fault e = absurd cc

partial_fault : (u l t : Bool) (read : Option Pdu) (n : ℕ) → chosen u l t read n ≡ Partial → chosen_fault u l t ≡ None
partial_fault true l t read n e = absurd cc
partial_fault false true t read n e = absurd cc
partial_fault false false true read n e = refl
partial_fault false false false None n e = absurd cc
partial_fault false false false (Some p) n e = absurd cc

pub fault_of-faulty : (s : List ℕ) (fault : PduFault) → first_pdu s ≡ Faulty fault → fault_at_front s ≡ Some fault
fault_of-faulty s fault e =
    elim (cases_lt (length s) 6) [
      | inl few ↦ absurd (let p = sym (front-few s few) ∙ e in cc)
      | inr six ↦ rw (le-ltb (length s) 6 six) (faulty_fault (unknown s) (long s) (short s) (one_pdu s) (body_length s + 6) fault (sym (front-enough s six)
          ∙ e))
    ]

pub fault_of-partial : (s : List ℕ) → first_pdu s ≡ Partial → fault_at_front s ≡ None
fault_of-partial s e =
    elim (cases_lt (length s) 6) [
      | inl few ↦ rw (lt-ltb (length s) 6 few) refl
      | inr six ↦ rw (le-ltb (length s) 6 six) (partial_fault (unknown s) (long s) (short s) (one_pdu s) (body_length s + 6) (sym (front-enough s six) ∙ e))
    ]

-- what is part of a PDU is less than the longest one
partial_tests : (u l t : Bool) (read : Option Pdu) (n : ℕ) → chosen u l t read n ≡ Partial → (l ≡ false) × (t ≡ true)
partial_tests true l t read n e = absurd cc
partial_tests false true t read n e = absurd cc
partial_tests false false true read n e = (refl, refl)
partial_tests false false false None n e = absurd cc
partial_tests false false false (Some p) n e = absurd cc

pub partial_is_short : (s : List ℕ) → first_pdu s ≡ Partial → length s < 6 + 65536
partial_is_short s e =
    elim (cases_lt (length s) 6) [
      | inl few ↦ omega arith
      | inr six ↦
          let t = partial_tests (unknown s) (long s) (short s) (one_pdu s) (body_length s + 6) (sym (front-enough s six) ∙ e) in
          let fits : body_length s ≤ 65536 = ltb-false _ _ t.0 in
          let few : length (drop 6 s) < body_length s = ltb-true _ _ t.1 in
          omega (arith, fits, few, length-drop 6 s)
    ]

-- ---- octets that go on

-- where it was not short, a longer one is not short either and reads the same
chosen_stays : (u l t t' : Bool) (read read' : Option Pdu) (n : ℕ) (f : FirstPdu) → (t ≡ false → (t' ≡ false) × (read' ≡ read)) → (f ≡ Partial → ⊥)
    → chosen u l t read n ≡ f → chosen u l t' read' n ≡ f
chosen_stays true l t t' read read' n f h whole e = e
chosen_stays false true t t' read read' n f h whole e = e
chosen_stays false false true t' read read' n f h whole e = absurd (whole (sym e))
chosen_stays false false false t' read read' n f h whole e = let p = h refl in rw (p.0, p.1) e

pub front-append : (s t : List ℕ) (f : FirstPdu) → (f ≡ Partial → ⊥) → first_pdu s ≡ f → first_pdu (s ++ t) ≡ f
front-append s t f whole e =
    elim (cases_lt (length s) 6) [
      | inl few ↦ absurd (whole (sym e ∙ front-few s few))
      | inr six ↦
          let more : 6 ≤ length (s ++ t) = omega (arith, length-append s t) in
          let first : get_or (s ++ t) 0 0 ≡ get_or s 0 0 = get_or_append_left s t 0 0 (omega arith) in
          let behind : drop 6 (s ++ t) ≡ drop 6 s ++ t = drop-append-le 6 s t six in
          let size : take 4 (drop 2 (s ++ t)) ≡ take 4 (drop 2 s) = ap (take 4) (drop-append-le 2 s t (omega arith)) ∙ take-append-le 4 (drop 2 s) t (omega
          (arith, length-drop 2 s)) in
          let length-is : body_length (s ++ t) ≡ body_length s = ap (from_be_bytes w32) size in
          let stays : short s ≡ false → (ltb (length (drop 6 s ++ t)) (body_length s) ≡ false) × (pdu_of (get_or s 0 0) (take (body_length s)
          (drop 6 s ++ t)) ≡ one_pdu s) = λ n.
          let le : body_length s ≤ length (drop 6 s) = ltb-false _ _ n in
          (le-ltb _ _ (omega (arith, le, length-append (drop 6 s) t)), ap (pdu_of (get_or s 0 0)) (take-append-le (body_length s) (drop 6 s) t le)) in
          front-enough (s ++ t) more ∙ rw (first, length-is, behind) (chosen_stays (unknown s) (long s) (short s) (ltb (length (drop 6 s ++ t))
          (body_length s)) (one_pdu s) (pdu_of (get_or s 0 0) (take (body_length s) (drop 6 s ++ t))) (body_length s + 6) f stays whole (sym
          (front-enough s six) ∙ e))
    ]
