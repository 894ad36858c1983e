use Rattle.std.proofs.Common.{◌≡◌, false, inl, inr, arith}
use Rattle.dq_match.specs.Pieces.{is_open}
use Rattle.dq_match.proofs.PiecesInText.{none_shut, differs_at}
use Rattle.dq_match.proofs.pieces.starts_passed.Goals as goal

pub loop-at-init : goal.loop-at-init
loop-at-init c = λ t h. absurd (none_shut 128 t h)

pub returns-then-ruled_out-eq-ABREAST-clause-none : goal.returns-then-ruled_out-eq-ABREAST-clause-none
returns-then-ruled_out-eq-ABREAST-clause-none c = λ t less.
    (let shut : is_open c.rule_out.new.starts t ≡ false = c.ruled_out.ensures.each t (omega arith) in
    elim (c.rule_out.ensures t shut) [
      | inl before ↦ c.loop-at.invariant t before
      | inr unlike ↦ differs_at c.args.casing c.args.piece.now c.args.text.now c.split_at.result.1.now c.loop-at.at t c.loop-at-test.true c.split_at.ensures.back unlike
    ])
