use Rattle.std.proofs.Common.{◌<◌, ◌≤◌, ◌++◌, List, ℕ, [], length, take, drop, refl, sym, ap, subst, ◌∙◌, append_assoc, arith}
use Rattle.std.proofs.Math.Nat.{le-max_left}
use Rattle.std.proofs.lemmas.Bool.{eqb-true}
use Rattle.std.proofs.lemmas.List.{take-append-drop, append-nil, nil_from_length}
use Rattle.dq_dataset.specs.Sieve.{IsSifted}
use Rattle.dq_test_data_sets.proofs.sift.sifted.Goals as goal

pub loop-rest-init : goal.loop-rest-init
loop-rest-init c = ([], refl, c.new-sieve.ensures)

pub loop-rest-smaller : goal.loop-rest-smaller
loop-rest-smaller c =
    let rest = c.loop-rest.rest.now in
    let some : 1 ≤ c.clamp.result = rw c.clamp.ensures (le-max_left 1 _) in
    let back = c.split_at.ensures.back_len in
    let less : length c.split_at.result.1.now < length rest = omega (arith, some, back) in
    less

pub loop-rest-preserved : goal.loop-rest-preserved
loop-rest-preserved c =
    let so_far = c.loop-rest.invariant in
    let n = c.clamp.result in
    let rest = c.loop-rest.rest.now in
    let piece = c.split_at.result.0.now in (
      so_far.0 ++ piece,
      so_far.1 ∙ ap (λ (x : List ℕ). so_far.0 ++ x) (sym (take-append-drop n rest)) ∙ sym (append_assoc so_far.0 (take n rest) (drop n rest))
          ∙ ap (λ (x : List ℕ). (so_far.0 ++ x) ++ drop n rest) (sym c.split_at.ensures.front)
          ∙ ap (λ (x : List ℕ). (so_far.0 ++ piece) ++ x) (sym c.split_at.ensures.back),
      c.in_ok-feed.ensures.fed c.args.by.syntax c.args.by.tags.now so_far.0 so_far.2,
    )

pub returns : goal.returns
returns c =
    let now = c.loop-rest in
    let so_far = now.invariant in
    let none = nil_from_length now.rest.now (eqb-true (length now.rest.now) 0 (sym c.is_empty.ensures ∙ c.loop-rest-test.false)) in
    let all = so_far.1 ∙ ap (λ (x : List ℕ). so_far.0 ++ x) none ∙ append-nil so_far.0 in
    subst (λ (o : List ℕ). IsSifted c.args.by.syntax c.args.by.tags.now o c.finish.result) (sym all)
    (c.finish.ensures.sifted c.args.by.syntax c.args.by.tags.now so_far.0 so_far.2)
