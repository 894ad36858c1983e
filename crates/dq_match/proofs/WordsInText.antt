-- The word of a pattern, and where it stands in a text.
use Rattle.std.proofs.Common.{◌≡◌, ◌≢◌, ◌⊎◌, inl, inr, ℕ, zero, suc, ◌+◌, ◌-◌, ◌<◌, ◌≤◌, Bool, true, false, ◌||◌, List, [], ◌∷◌, length, take, drop, get_or, refl, sym, ◌∙◌, ap, arith, length-drop}
use Rattle.std.proofs.lemmas.Bool.{and_parts, cases_lt, false_from_ne_true}
use Rattle.std.proofs.lemmas.Bool.Decides.{nat_tests}
use Rattle.std.proofs.lemmas.List.{get_or-drop, get_or-take}
use Rattle.dq_match.specs.declared.wildcards.Casing.{Casing}
use Rattle.dq_match.specs.declared.wildcards.Scan.{Scan}
use Rattle.dq_match.specs.declared.wildcards.Scan.TheVariants.{End, Mismatch, Star}
use Rattle.dq_match.specs.Wildcards.{wild, after_run, stands_for, compared_octet, any_run, any_one}
use Rattle.dq_match.specs.Scans.{IsScan, IsFirstFit}
use Rattle.dq_match.specs.Words.{IsWord, IsStretch, StandsAtFront, compared_at}
use Rattle.dq_match.proofs.Scanning.{at_octet}

module _ (pattern others plain octets : List ℕ) (ones count start : ℕ)
    (others_is : others ≡ drop ones pattern) (plain_is : plain ≡ take count others) (octets_is : octets ≡ drop start plain)
    (others_long : length others + ones ≡ length pattern) (plain_long : length plain ≡ count) (octets_long : length octets + start ≡ length plain)
    (count_in : count ≤ length others)
    (each_one : (k : ℕ) → k < ones → get_or pattern k 0 ≡ any_one)
    (no_run : (k : ℕ) → k < count → get_or others k 0 ≢ any_run)
    (no_one : (k : ℕ) → k < count → get_or others k 0 ≢ any_one) where
  plain_at : (k j : ℕ) → ones + j ≡ k → get_or others j 0 ≡ get_or pattern k 0
  plain_at k j is = ap (λ (xs : List ℕ). get_or xs j 0) others_is ∙ get_or-drop ones pattern j 0 ∙ ap (λ n. get_or pattern n 0) is

  no_run_by : (k : ℕ) → k < ones + count → (k < ones) ⊎ (ones ≤ k) → get_or pattern k 0 ≢ any_run
  no_run_by k h (inl less) is = absurd (omega (arith, each_one k less, is))
  no_run_by k h (inr more) is =
      let whole : ones + (k - ones) ≡ k = omega arith in
      no_run (k - ones) (omega arith) (plain_at k (k - ones) whole ∙ is)

  pub word_is : IsWord pattern (ones + start) octets
  word_is = record {
    within = omega arith;
    no_run = λ k h. no_run_by k (omega arith) (cases_lt k ones);
    no_one = λ k h is. no_one (start + k) (omega arith) (plain_at ((ones + start) + k) (start + k) (omega arith) ∙ is);
    there = λ k h.
        ap (λ (xs : List ℕ). get_or xs k 0) octets_is ∙ get_or-drop start plain k 0
        ∙ ap (λ (xs : List ℕ). get_or xs (start + k) 0) plain_is
        ∙ get_or-take count others (start + k) 0 (omega arith)
        ∙ plain_at ((ones + start) + k) (start + k) (omega arith);
  }

-- ---- where a pattern fits

-- up to its first asterisk, each octet of a pattern that fits stands for one of the text
pub fits_at : (casing : Casing) (pattern text : List ℕ) (n k : ℕ) → ((j : ℕ) → j < n → get_or pattern j 0 ≢ any_run) → n ≤ length pattern
    → wild casing pattern text ≡ true → k < n → (k < length text) × (stands_for casing (get_or pattern k 0) (get_or text k 0) ≡ true)
fits_at casing pattern text zero k free within fits lt = absurd (omega arith)
fits_at casing [] text (suc n) k free within fits lt = absurd (omega arith)
fits_at casing (first ∷ others) [] (suc n) k free within fits lt =
    absurd (cc (sym fits ∙ at_octet casing first others [] (free 0 (omega arith))))
fits_at casing (first ∷ others) (octet ∷ rest) (suc n) zero free within fits lt = (
  omega arith,
  (and_parts (stands_for casing first octet) (wild casing others rest)
      (sym (at_octet casing first others (octet ∷ rest) (free 0 (omega arith))) ∙ fits)).0,
)
fits_at casing (first ∷ others) (octet ∷ rest) (suc n) (suc k) free within fits lt =
    let parts = and_parts (stands_for casing first octet) (wild casing others rest)
    (sym (at_octet casing first others (octet ∷ rest) (free 0 (omega arith))) ∙ fits) in
    let rec = fits_at casing others rest n k (λ j h. free (suc j) (omega arith)) (omega arith) parts.1 (omega arith) in
    (omega (arith, rec.0), rec.1)

-- a pattern without an asterisk fits texts of its own length
same_length : (casing : Casing) (pattern text : List ℕ) → ((j : ℕ) → j < length pattern → get_or pattern j 0 ≢ any_run)
    → wild casing pattern text ≡ true → length text ≡ length pattern
same_length casing [] [] free fits = refl
same_length casing [] (octet ∷ rest) free fits = absurd cc
same_length casing (first ∷ others) [] free fits = absurd (cc (sym fits ∙ at_octet casing first others [] (free 0 (omega arith))))
same_length casing (first ∷ others) (octet ∷ rest) free fits =
    let parts = and_parts (stands_for casing first octet) (wild casing others rest)
    (sym (at_octet casing first others (octet ∷ rest) (free 0 (omega arith))) ∙ fits) in
    let rec = same_length casing others rest (λ j h. free (suc j) (omega arith)) parts.1 in
    omega (arith, rec)

-- ---- starts that are passed over

none_here : (test : List ℕ → Bool) (text : List ℕ) → ((t : ℕ) → t ≤ length text → test (drop t text) ≡ false) → after_run test text ≡ false
none_here test [] none = none 0 (omega arith)
none_here test (octet ∷ rest) none =
    (λ i. none 0 (omega arith) i || after_run test rest) ∙ none_here test rest (λ t h. none (suc t) (omega arith))

pub passed_over : (test : List ℕ → Bool) (text : List ℕ) (count : ℕ) → count ≤ length text → ((t : ℕ) → t < count → test (drop t text) ≡ false)
    → after_run test text ≡ after_run test (drop count text)
passed_over test text zero h none = refl
passed_over test [] (suc count) h none = absurd (omega arith)
passed_over test (octet ∷ rest) (suc count) h none =
    (λ i. none 0 (omega arith) i || after_run test rest)
    ∙ passed_over test rest count (omega arith) (λ t g. none (suc t) (omega arith))

stands : (casing : Casing) (wanted octet : ℕ) → wanted ≢ any_one → stands_for casing wanted octet ≡ true
    → compared_octet casing wanted ≡ compared_octet casing octet
stands casing wanted octet differ h = grind (arith, nat_tests)

module _ (casing : Casing) (pattern word text : List ℕ) (before : ℕ) (is : IsWord pattern before word) where
  -- where the pattern fits, its word is there
  word_there : wild casing pattern text ≡ true → (k : ℕ) → k < length word → compared_at casing word k ≡ compared_at casing text (before + k)
  word_there fits k h =
      let there = fits_at casing pattern text (before + length word) (before + k) is.no_run is.within fits (omega arith) in
      ap (compared_octet casing) (is.there k h)
      ∙ stands casing (get_or pattern (before + k) 0) (get_or text (before + k) 0) (is.no_one k h) there.1

  pub too_short : length text < before + length word → wild casing pattern text ≡ false
  too_short short = false_from_ne_true (wild casing pattern text) (λ fits.
      let there = fits_at casing pattern text (before + length word) (length text) is.no_run is.within fits short in
      omega (arith, there.0))

  pub differs_at : (k : ℕ) → k < length word → compared_at casing word k ≢ compared_at casing text (before + k) → wild casing pattern text ≡ false
  differs_at k h differ = false_from_ne_true (wild casing pattern text) (λ fits. differ (word_there fits k h))

  pub not_all_stand : (result : Bool) → result ≡ false
      → (((k : ℕ) → k < before → stands_for casing (get_or pattern k 0) (get_or text k 0) ≡ true) → result ≡ true) → wild casing pattern text ≡ false
  not_all_stand result failed all = false_from_ne_true (wild casing pattern text) (λ fits.
      cc (sym failed ∙ all (λ k h. (fits_at casing pattern text (before + length word) k is.no_run is.within fits (omega arith)).1)))

module _ (casing : Casing) (pattern word text : List ℕ) (before matched period : ℕ) (is : IsWord pattern before word)
    (stretch : IsStretch (compared_at casing word) matched period) (within : matched ≤ length word)
    (agrees : StandsAtFront casing word (drop before text) matched) where
  text_at : (k : ℕ) → k < matched → compared_at casing word k ≡ compared_at casing text (before + k)
  text_at k h = agrees k h ∙ ap (compared_octet casing) (get_or-drop before text k 0)

  long : (t : ℕ) → 0 < t → t < period → (0 < matched) ⊎ (matched ≤ 0) → period ≤ matched
  long t some small (inl more) = stretch.long more
  long t some small (inr none) = absurd (omega (arith, stretch.first (omega arith)))

  -- no start before the period
  not_between : (t : ℕ) → 0 < t → t < period → wild casing pattern (drop t text) ≡ false
  not_between t some small =
      let lower = stretch.no_sooner t some small in
      let enough = long t some small (cases_lt 0 matched) in
      false_from_ne_true (wild casing pattern (drop t text)) (λ fits.
      let there = word_there casing pattern word (drop t text) before is fits lower.place (omega (arith, lower.within)) in
      let moved : t + (before + lower.place) ≡ before + (lower.place + t) = omega arith in
      let same : compared_at casing (drop t text) (before + lower.place) ≡ compared_at casing text (before + (lower.place + t)) =
      ap (compared_octet casing) (get_or-drop t text (before + lower.place) 0 ∙ ap (λ n. get_or text n 0) moved) in
      let here = text_at (lower.place + t) (omega (arith, lower.within)) in
      omega (arith, lower.lower, there, same, here))

  not_before : wild casing pattern text ≡ false → (t : ℕ) → t < period → wild casing pattern (drop t text) ≡ false
  not_before here zero small = here
  not_before here (suc t) small = not_between (suc t) (omega arith) small

  pub gone_on : wild casing pattern text ≡ false → period ≤ length text
      → after_run (wild casing pattern) text ≡ after_run (wild casing pattern) (drop period text)
  gone_on here enough = passed_over (wild casing pattern) text period enough (not_before here)

  -- what is still there after the period
  pub agrees_on : (left : ℕ) → (0 < left → left + period ≡ matched) → StandsAtFront casing word (drop before (drop period text)) left
  agrees_on left less k h = grind (arith, nat_tests, text_at, get_or-drop)

pub none_fits : (casing : Casing) (pattern word text : List ℕ) (before : ℕ) → IsWord pattern before word → length text < before + length word
    → after_run (wild casing pattern) text ≡ false
none_fits casing pattern word text before is short =
    none_here (wild casing pattern) text (λ t h. too_short casing pattern word (drop t text) before is (omega (arith, length-drop t text)))

-- ---- at the end of the text

module _ (casing : Casing) (pattern text : List ℕ) (free : (k : ℕ) → k < length pattern → get_or pattern k 0 ≢ any_run) where
  other_length : (t : List ℕ) → length t ≢ length pattern → wild casing pattern t ≡ false
  other_length t differ = false_from_ne_true (wild casing pattern t) (λ fits. differ (same_length casing pattern t free fits))

  pub shorter : length text < length pattern → after_run (wild casing pattern) text ≡ false
  shorter short = none_here (wild casing pattern) text (λ t h. other_length (drop t text) (λ e. omega (arith, length-drop t text)))

  or_false : (b : Bool) → (b || false) ≡ b
  or_false true = refl
  or_false false = refl

  at_last : (left : List ℕ) → length left ≡ length pattern → after_run (wild casing pattern) left ≡ wild casing pattern left
  at_last [] e = refl
  at_last (octet ∷ rest) e = grind (arith, nat_tests, none_here, other_length, length-drop, or_false)

  end_alone : (at : ℕ) → at + length pattern ≡ length text → after_run (wild casing pattern) text ≡ wild casing pattern (drop at text)
  end_alone at is =
      passed_over (wild casing pattern) text at (omega arith) (λ t h. other_length (drop t text) (λ e. omega (arith, length-drop t text)))
      ∙ at_last (drop at text) (omega (arith, length-drop at text))

  pub fit_at_end : (at : ℕ) (end : List ℕ) (scan : Scan) → at + length pattern ≡ length text → end ≡ drop at text → IsScan casing pattern end scan
      → IsFirstFit casing pattern text scan
  fit_at_end at end End is back h = end_alone at is ∙ ap (wild casing pattern) (sym back) ∙ h
  fit_at_end at end Mismatch is back h = end_alone at is ∙ ap (wild casing pattern) (sym back) ∙ h
  fit_at_end at end (Star others rest) is back h = grind (arith, nat_tests, shorter, end_alone)
