use Rattle.std.proofs.Common.{ap, ◌∙◌}
use Rattle.dq_console.proofs.Visiting.{client-turn-line, client-turn-quiet, client-turn-forgotten}
use Rattle.dq_console.proofs.console.ConsoleHandler.client_turn.Goals as goal

pub returns-in-Held-clause-went : goal.returns-in-Held-clause-went
returns-in-Held-clause-went g c = client-turn-quiet g.T.Tables.state _ c.in-Held.ensures

pub returns-in-Left-clause-went : goal.returns-in-Left-clause-went
returns-in-Left-clause-went g c = client-turn-quiet g.T.Tables.state _ c.in-Left.ensures

pub returns-in-Ok-clause-went : goal.returns-in-Ok-clause-went
returns-in-Ok-clause-went g c =
    let next = c.in-Line.ensures in
    client-turn-line g.T.Tables.state _ {new = c.obey.new.turner} {next = c.send.new.self} next.0 next.1 next.2 next.3
    (ap g.W.Wires.log c.obey.ensures.wires ∙ next.4)
    (rw c.as_slice.ensures.value at c.in-Ok.ensures.does) c.send.ensures

pub returns-in-Err-NoMemory-clause-went : goal.returns-in-Err-NoMemory-clause-went
returns-in-Err-NoMemory-clause-went g c =
    let next = c.in-Line.ensures in
    client-turn-forgotten g.T.Tables.state _ next.0 next.1 (ap g.W.Wires.log c.obey.ensures.wires ∙ next.4)
    (rw (c.in-Err-NoMemory.field-0-is, c.as_slice.ensures.value, next.2) at c.in-Err-NoMemory.ensures.cut)
