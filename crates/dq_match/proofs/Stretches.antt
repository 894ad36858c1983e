-- How much of a word repeats itself.
use Rattle.std.proofs.Common.{◌≡◌, ◌⊎◌, inl, inr, ℕ, zero, suc, ◌+◌, ◌-◌, ◌<◌, ◌≤◌, sym, ◌∙◌, ap, subst, arith}
use Rattle.std.proofs.lemmas.Bool.{cases_order}
use Rattle.dq_match.specs.Words.{IsLower, IsStretch}

-- ---- one octet more

module _ (s : ℕ → ℕ) (matched period repeated : ℕ) (stretch : IsStretch s matched period) (some : period ≤ matched) (at : repeated + period ≡ matched) where
  module _ (falls : s matched < s repeated) where
    -- what is lower after a shift is lower after the period and that shift
    later_by : (shift : ℕ) → 0 < shift → shift + period < matched + 1 → IsLower s shift (matched + 1) → IsLower s (shift + period) (matched + 1)
    later_by shift some_shift small less = by_place (cases_order (less.place + (shift + period)) matched)
      where
        repeat : (k : ℕ) → k + (shift + period) < matched → s (k + (shift + period)) ≡ s (k + shift)
        repeat k h =
            let one : k + (shift + period) ≡ (k + shift) + period = omega arith in
            ap s one ∙ stretch.repeats (k + shift) (omega arith)

        by_place : (less.place + (shift + period) ≡ matched) ⊎
            ((less.place + (shift + period) < matched) ⊎ (matched < less.place + (shift + period)))
            → IsLower s (shift + period) (matched + 1)
        by_place (inr (inl sooner)) = record {
          place = less.place;
          within = omega arith;
          before = λ k h. repeat k (omega arith) ∙ less.before k h;
          lower = subst (λ n. n < s less.place) (sym (repeat less.place sooner)) less.lower;
        }
        by_place (inl is) =
            let here : less.place + shift ≡ repeated = omega arith in
            let one : s (less.place + (shift + period)) ≡ s matched = ap s is in
            let two : s (less.place + shift) ≡ s repeated = ap s here in
            record {
              place = less.place;
              within = omega arith;
              before = λ k h. repeat k (omega arith) ∙ less.before k h;
              lower = omega (arith, one, two, falls, less.lower);
            }
        by_place (inr (inr past)) =
            let gap : ℕ = matched - (shift + period) in
            let whole : gap + (shift + period) ≡ matched = omega arith in
            let one : s (gap + (shift + period)) ≡ s matched = ap s whole in
            let here : gap + shift ≡ repeated = omega arith in
            let two : s (gap + shift) ≡ s repeated = ap s here in
            let three : s (gap + shift) ≡ s gap = less.before gap (omega arith) in
            record {
              place = gap;
              within = omega arith;
              before = λ k h. repeat k (omega arith) ∙ less.before k (omega arith);
              lower = omega (arith, one, two, three, falls);
            }

    lower_by : (fuel shift : ℕ) → shift < fuel → 0 < shift → shift < matched + 1 → IsLower s shift (matched + 1)
    lower_by zero shift h some_shift small = absurd (omega arith)
    lower_by (suc fuel) shift h some_shift small = by_period (λ left a b c. lower_by fuel left a b c) (cases_order shift period)
      where
        by_period : ((left : ℕ) → left < fuel → 0 < left → left < matched + 1 → IsLower s left (matched + 1))
            → (shift ≡ period) ⊎ ((shift < period) ⊎ (period < shift)) → IsLower s shift (matched + 1)
        by_period lower (inr (inl less)) =
            let sooner = stretch.no_sooner shift some_shift less in
            record { place = sooner.place; within = omega (arith, sooner.within); before = sooner.before; lower = sooner.lower }
        by_period lower (inl is) =
            let here : repeated + shift ≡ matched = omega arith in
            record {
              place = repeated;
              within = omega arith;
              before = λ k g. (let same : k + shift ≡ k + period = omega arith in ap s same ∙ stretch.repeats k (omega arith));
              lower = subst (λ n. s n < s repeated) (sym here) falls;
            }
        by_period lower (inr (inr more)) =
            let gap : ℕ = shift - period in
            let whole : gap + period ≡ shift = omega arith in
            subst (λ n. IsLower s n (matched + 1)) whole
            (later_by gap (omega arith) (omega arith)
            (lower gap (omega (arith, stretch.positive)) (omega arith) (omega arith)))

    pub falls_on : IsStretch s (matched + 1) (matched + 1)
    falls_on = record {
      positive = omega arith;
      first = λ h. absurd (omega arith);
      long = λ h. omega arith;
      repeats = λ k h. absurd (omega arith);
      no_sooner = λ shift a b. lower_by (suc shift) shift (omega arith) a b;
    }
