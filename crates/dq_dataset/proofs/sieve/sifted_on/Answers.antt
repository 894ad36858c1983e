use Rattle.std.proofs.Common.{◌<◌, ◌++◌, List, ℕ, [], length, take, drop, refl, sym, ap, subst, ◌∙◌, append_assoc, arith}
use Rattle.std.proofs.lemmas.Bool.{eqb-true}
use Rattle.std.proofs.lemmas.List.{length-drop, take-append-drop, append-nil, nil_from_length}
use Rattle.dq_dataset.specs.Sieving.{SieveGoesOn}
use Rattle.dq_dataset.proofs.SieveSteps.{goes_nowhere, goes_then}
use Rattle.dq_dataset.proofs.sieve.sifted_on.Goals as goal

pub loop-rest-init : goal.loop-rest-init
loop-rest-init c = ([], refl, goes_nowhere c.args.tags.now c.args.outer c.args.stage c.requires)

pub step-requires-clause-stage : goal.step-requires-clause-stage
step-requires-clause-stage c = c.loop-rest.invariant.2.sound

pub loop-rest-smaller : goal.loop-rest-smaller
loop-rest-smaller c =
    let rest = c.loop-rest.rest.now in
    let t = c.in_ok-next.ensures.taken in
    let fewer : length (drop c.in_ok-next.taken rest) < length rest = omega (arith, length-drop c.in_ok-next.taken rest, t.0, t.1) in
    let less : length c.split_at.result.1.now < length rest = rw c.split_at.ensures.back fewer in
    less

pub loop-rest-preserved : goal.loop-rest-preserved
loop-rest-preserved c =
    let now = c.loop-rest in
    let so_far = now.invariant in
    let n = c.in_ok-next.taken in
    let rest = now.rest.now in (
      so_far.0 ++ take n rest,
      so_far.1 ∙ ap (λ (x : List ℕ). so_far.0 ++ x) (sym (take-append-drop n rest)) ∙ sym (append_assoc so_far.0 (take n rest) (drop n rest))
          ∙ ap (λ (x : List ℕ). (so_far.0 ++ take n rest) ++ x) (sym c.split_at.ensures.back),
      goes_then c.args.tags.now c.args.outer now.outer c.in_ok-next.next.0 c.args.stage now.stage c.in_ok-next.next.1 so_far.0 (take n rest) so_far.2
          c.in_ok-next.ensures.goes,
    )

pub returns : goal.returns
returns c =
    let now = c.loop-rest in
    let so_far = now.invariant in
    let none = nil_from_length now.rest.now (eqb-true (length now.rest.now) 0 (sym c.is_empty.ensures ∙ c.loop-rest-test.false)) in
    let all = so_far.1 ∙ ap (λ (x : List ℕ). so_far.0 ++ x) none ∙ append-nil so_far.0 in
    subst (λ (o : List ℕ). SieveGoesOn c.args.tags.now c.args.outer c.args.stage o now.outer now.stage) (sym all) so_far.2
