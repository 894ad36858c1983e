-- Where a piece of a pattern stands in a text.
use Rattle.std.proofs.lemmas.Bool.{false_from_ne_true}
use Rattle.std.proofs.Common.{◌≡◌, ◌≢◌, ℕ, ◌+◌, ◌<◌, ◌≤◌, zero, suc, Bool, true, false, List, [], ◌∷◌, length, take, drop, get_or, refl, sym, ◌∙◌, ap, arith}
use Rattle.std.proofs.lemmas.List.{get_or-drop, get_or-take}
use Rattle.dq_match.specs.declared.wildcards.Casing.{Casing}
use Rattle.dq_match.specs.Wildcards.{wild, after_run, stands_for, any_run}
use Rattle.dq_match.specs.Words.{IsWord}
use Rattle.dq_match.specs.Pieces.{is_open, Differs}
use Rattle.dq_match.proofs.WordsInText.{fits_at, passed_over, none_fits}

module _ (casing : Casing) (pattern piece text : List ℕ) (count : ℕ) (within : count ≤ length pattern)
    (free : (k : ℕ) → k < count → get_or pattern k 0 ≢ any_run) (front : piece ≡ take count pattern) (long : length piece ≡ count) where
  no_word : IsWord pattern count []
  no_word = grind arith

  differs : (t : ℕ) → Differs casing piece text t → wild casing pattern (drop t text) ≡ false
  differs t one = false_from_ne_true (wild casing pattern (drop t text)) (λ fits.
      let there = fits_at casing pattern (drop t text) count one.0 free within fits (omega (arith, one.1)) in
      let wanted : get_or piece one.0 0 ≡ get_or pattern one.0 0 = ap (λ (xs : List ℕ). get_or xs one.0 0) front ∙ get_or-take count pattern one.0 0 (omega (arith, one.1)) in
      let octet : get_or (drop t text) one.0 0 ≡ get_or text (t + one.0) 0 = get_or-drop t text one.0 0 in
      let same : true ≡ false = sym there.1 ∙ (λ i. stands_for casing (sym wanted i) (octet i)) ∙ one.2 in cc)

  pub gone : (n : ℕ) (ahead : List ℕ) → n ≤ length text → ((t : ℕ) → t < n → Differs casing piece text t) → ahead ≡ drop n text
      → after_run (wild casing pattern) text ≡ after_run (wild casing pattern) ahead
  gone n ahead h none back =
      passed_over (wild casing pattern) text n h (λ t less. differs t (none t less)) ∙ ap (after_run (wild casing pattern)) (sym back)

  pub too_short : length text < length piece → after_run (wild casing pattern) text ≡ false
  too_short short = none_fits casing pattern [] text count no_word (omega arith)

-- a start at which the pattern does not fit is passed over
pub gone_by_one : (casing : Casing) (pattern ahead rest : List ℕ) (octet : ℕ) → wild casing pattern ahead ≡ false → ahead ≡ octet ∷ rest
    → after_run (wild casing pattern) ahead ≡ after_run (wild casing pattern) rest
gone_by_one casing pattern ahead rest octet here is = grind arith

pub none_behind : (casing : Casing) (pattern ahead : List ℕ) → wild casing pattern ahead ≡ false → length ahead ≡ 0
    → after_run (wild casing pattern) ahead ≡ false
none_behind casing pattern [] here none = here
none_behind casing pattern (octet ∷ rest) here none = absurd (omega arith)

-- ---- starts that are tried together

abbrev pub all_open : ℕ → List Bool
all_open zero = []
all_open (suc n) = true ∷ all_open n

open_at_first : (n t : ℕ) → is_open (all_open n) t ≡ true
open_at_first zero t = refl
open_at_first (suc n) zero = refl
open_at_first (suc n) (suc t) = open_at_first n t

pub none_shut : (n t : ℕ) → is_open (all_open n) t ≡ false → ⊥
none_shut n t shut = let wrong : true ≡ false = sym (open_at_first n t) ∙ shut in cc

pub differs_at : (casing : Casing) (piece text ahead : List ℕ) (at t : ℕ) → at < length piece → ahead ≡ drop at text
    → stands_for casing (get_or piece at 0) (get_or ahead t 0) ≡ false → Differs casing piece text t
differs_at casing piece text ahead at t less back unlike = grind (arith, get_or-drop)
