use Rattle.dq_captures.proofs.Lines.{SpellsPiece-split, SpellsPiece-unsplit}
use Rattle.dq_captures.proofs.capture.piece_of.Goals as goal

pub returns-in_default : goal.returns-in_default
returns-in_default c = SpellsPiece-unsplit c.args.rest.now c.split_once.result c.split_once.ensures.cases c.in_default.is

pub returns-in_default-number_of : goal.returns-in_default-number_of
returns-in_default-number_of c = λ event spells.
    let parts = rw c.in-Some.is at (SpellsPiece-split c.args.rest.now c.split_once.result c.split_once.ensures.cases event spells) in
    c.in_default-number_of.ensures parts.0 parts.2

pub returns-in_default-2 : goal.returns-in_default-2
returns-in_default-2 c = λ event spells.
    let parts = rw c.in-Some.is at (SpellsPiece-split c.args.rest.now c.split_once.result c.split_once.ensures.cases event spells) in
    let none = rw c.in_default-2.is at c.in_ok-octets.ensures in
    none parts.1 parts.3
