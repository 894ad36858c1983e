use Rattle.dq_captures.proofs.Lines.{Spells-piece}
use Rattle.dq_captures.proofs.capture.event_of.Goals as goal

pub returns-in-Some-behind-3 : goal.returns-in-Some-behind-3
returns-in-Some-behind-3 c =
    Spells-piece c.args.line.now c.in-Some-behind-3.rest.now c.piece_of.result c.in-Some-behind-3.ensures c.piece_of.ensures
