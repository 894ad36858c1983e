use Rattle.std.proofs.Common.{arith, sym}
use Rattle.std.proofs.lemmas.Grind.{common_steps}
use Rattle.dq_value.proofs.Pieces.{no_halves, halves_cut}
use Rattle.dq_value.proofs.ranges.halves.Goals as goal

pub returns-in_err-at : goal.returns-in_err-at
returns-in_err-at c =
    let none = no_halves c.args.separator c.args.octets.now (sym c.in_err-at.ensures) in
    grind (arith, common_steps)

pub returns : goal.returns
returns c =
    halves_cut c.args.separator c.args.octets.now c.split_at.result.0.now c.split_at.result.1.now c.split_at-2.result.1.now c.in_ok-at.at c.in_ok-at.ensures
    c.split_at.ensures.front c.split_at.ensures.back c.split_at-2.ensures.back
