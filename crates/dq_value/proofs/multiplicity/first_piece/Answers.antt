use Rattle.std.proofs.Common.{sym}
use Rattle.dq_value.proofs.Pieces.{sole_piece, last_piece, next_piece}
use Rattle.dq_value.proofs.multiplicity.first_piece.Goals as goal

pub returns-then-not-has_separator : goal.returns-then-not-has_separator
returns-then-not-has_separator c = sole_piece c.args.vr c.args.octets.now (sym c.if-not-has_separator.ensures)

pub returns-in-Some : goal.returns-in-Some
returns-in-Some c =
    next_piece c.args.vr c.args.octets.now c.in-Some.piece.now c.in-Some.others.now (sym c.if-not-has_separator.ensures) c.in-Some.ensures

pub returns-in-None : goal.returns-in-None
returns-in-None c = last_piece c.args.vr c.args.octets.now (sym c.if-not-has_separator.ensures) c.in-None.ensures
