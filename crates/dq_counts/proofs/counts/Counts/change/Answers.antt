use Rattle.std.proofs.Common.{◌≡◌, ℕ, ◌<◌, List, ◌++◌, length, take, drop, get_or, sym, ap, subst, ◌∙◌, rules}
use Rattle.std.proofs.Math.Seq.{take-append_seam}
use Rattle.dq_counts.specs.declared.counts.Count.{Count}
use Rattle.dq_counts.specs.Counts.{IsRight}
use Rattle.dq_counts.proofs.counts.Counts.change.Goals as goal

pub loop-count-preserved : goal.loop-count-preserved
loop-count-preserved c row before after kind inst differ right =
    let old = c.loop-count.invariant row before after kind inst differ right in
    let here = c.change.ensures row before after kind inst differ in
    search rules

pub returns : goal.returns
returns c row before after kind inst differ right =
    let all = c.loop-count.invariant row before after kind inst differ right in
    let items = c.loop-count.count-items in
    let held = c.args.self.now.known in
    let same : held.len ≡ length items = search rules in
    let full : take held.len (items ++ drop (length items) held.items) ≡ items =
    ap (λ (n : ℕ). take n (items ++ drop (length items) held.items)) same ∙ take-append_seam items _ in
    subst (λ (l : List Count). (k : ℕ) (d : Count) → k < length l → IsRight after (get_or l k d)) (sym full)
    (λ k d low. let past : k < c.loop-count.count-index = search rules in (all k d low).0 past)
