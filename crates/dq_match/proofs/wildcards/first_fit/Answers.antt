use Rattle.std.proofs.Common.{◌≡◌, ◌⊎◌, inl, inr, ℕ, ◌+◌, ◌<◌, ◌≤◌, List, drop, sym, ap, subst, ◌∙◌, arith}
use Rattle.std.proofs.lemmas.Bool.{cases_lt}
use Rattle.dq_match.specs.Wildcards.{wild, after_run}
use Rattle.dq_match.specs.Words.{StandsAtFront}
use Rattle.dq_match.proofs.Scanning.{after_run-here, IsFit-from}
use Rattle.dq_match.proofs.WordsInText.{gone_on, agrees_on, none_fits}
use Rattle.dq_match.proofs.wildcards.first_fit.Goals as goal

pub returns-in-End : goal.returns-in-End
returns-in-End c = c.loop-left.invariant.same ∙ after_run-here (wild c.args.casing c.args.pattern.now) c.loop-left.left.now c.in-End.ensures

pub returns-in-Star : goal.returns-in-Star
returns-in-Star c =
    let fit = IsFit-from _ _ _ _ _ c.in-Star.ensures in
    record { shorter = fit.shorter; as_well = c.loop-left.invariant.same ∙ fit.as_well }

still_within : (period matched long left : ℕ) → (0 < left → left + period ≡ matched) → matched ≤ long → (0 < left) ⊎ (left ≤ 0) → left ≤ long
still_within period matched long left less within (inl some) = omega (arith, less some)
still_within period matched long left less within (inr none) = omega arith

pub loop-left-preserved : goal.loop-left-preserved
loop-left-preserved c =
    let casing = c.args.casing in
    let pattern = c.args.pattern.now in
    let word = c.of-word.result.octets.now in
    let before = c.of-word.result.before in
    let left = c.loop-left.left.now in
    let along = c.along-along.result in
    let agrees = subst (λ (t : List ℕ). StandsAtFront casing word t along.matched) c.split_at.ensures.back c.along-along.ensures.agrees in
    let behind = sym c.split_at-in-loop-left.ensures.back in
    record {
      same = c.loop-left.invariant.same
          ∙ gone_on casing pattern word left before along.matched along.period c.of-word.ensures c.along-along.ensures.stretch c.along-along.ensures.within agrees
          c.in-Mismatch.ensures c.if-left-along.false
          ∙ ap (after_run (wild casing pattern)) behind;
      within = still_within _ _ _ c.shifted-stretch.result.matched c.shifted-stretch.ensures.less c.along-along.ensures.within (cases_lt 0 c.shifted-stretch.result.matched);
      stretch = c.shifted-stretch.ensures.stretch;
      agrees = subst (λ (t : List ℕ). StandsAtFront casing word (drop before t) c.shifted-stretch.result.matched) behind
          (agrees_on casing pattern word left before along.matched along.period c.of-word.ensures c.along-along.ensures.stretch
          c.along-along.ensures.within agrees c.shifted-stretch.result.matched c.shifted-stretch.ensures.less);
    }

pub returns : goal.returns
returns c = c.loop-left.invariant.same
    ∙ none_fits c.args.casing c.args.pattern.now c.of-word.result.octets.now c.loop-left.left.now c.of-word.result.before c.of-word.ensures (omega arith)
