use Rattle.std.proofs.Common.{arith}
use Rattle.dq_console.proofs.ClientTurns.{came-in, turned-away}
use Rattle.dq_console.proofs.console.Console.let_in.Goals as goal

pub returns-then-is_ok-clause-lets : goal.returns-then-is_ok-clause-lets
returns-then-is_ok-clause-lets g c =
    came-in _ _ _ _ _ _ c.is_ok.result (omega (arith, c.len.ensures, c.if-len-ge-MOST_CLIENTS.false))
    (rw c.in-Ok-Some.field-0-is at c.in-Ok-Some.ensures.told) c.new-client.ensures c.if-is_ok.true
    (rw (← c.is_ok.ensures.value) at c.push.ensures.items)

pub returns-clause-lets : goal.returns-clause-lets
returns-clause-lets g c =
    turned-away _ _ _ _ _ _ _ _ c.is_ok.result (omega (arith, c.len.ensures, c.if-len-ge-MOST_CLIENTS.false))
    (rw c.in-Ok-Some.field-0-is at c.in-Ok-Some.ensures.told) c.shut.ensures.told c.if-is_ok.false
    (rw (← c.is_ok.ensures.value) at c.push.ensures.items)
