use Rattle.std.proofs.Common.{◌≡◌, true, false, None, refl, sym, ap, ◌∙◌}
use Rattle.dq_console.specs.Console.{HeldClient}
use Rattle.dq_wires.proofs.Logging.{logs-none}
use Rattle.dq_console.specs.Console.ClientTurn.{Offered, Closed, Forgotten}
use Rattle.dq_console.proofs.ClientTurns.{comes, reads}
use Rattle.dq_console.proofs.console_client.ConsoleClient.next.Goals as goal

pub returns-then-is_sending : goal.returns-then-is_sending
returns-then-is_sending g c =
    let sent = c.send.ensures in
    comes c.send.result c.of.result c.of.ensures
    record { client_turn = Offered sent.0; is = c.if-is_sending.ensures; quiet = refl; tells = λ institutions names rows done. tt; calls = sent.1; leaves = sent.2 }

pub returns-in-Ok-None : goal.returns-in-Ok-None
returns-in-Ok-None g c =
    let none = rw c.in-Ok-None.field-0-is at c.in-Ok-None.ensures in
    let got = rw none.1 at c.receive.ensures in
    let over : c.args.self.now.is_over ≡ false = ap (λ (v : HeldClient). v.is_over) (sym c.self.view_is) ∙ c.if-self.false in
    comes c.receive.result c.of-in-Ok-None.result c.of-in-Ok-None.ensures
    (reads _ c.receive.result (c.if-is_sending.ensures, over) none.0 got)

pub returns-then-self : goal.returns-then-self
returns-then-self g c =
    let over : c.args.self.now.is_over ≡ true = ap (λ (v : HeldClient). v.is_over) (sym c.self.view_is) ∙ c.if-self.true in
    record {
      client_turn = Closed;
      is = (c.if-is_sending.ensures, over);
      quiet = refl;
      tells = λ institutions names rows done. tt;
      calls = logs-none _;
      leaves = refl;
    }

pub returns-in-Err : goal.returns-in-Err
returns-in-Err g c =
    let over : c.args.self.now.is_over ≡ false = ap (λ (v : HeldClient). v.is_over) (sym c.self.view_is) ∙ c.if-self.false in
    record {
      client_turn = Forgotten None;
      is = (c.if-is_sending.ensures, over);
      quiet = refl;
      tells = λ institutions names rows done. tt;
      calls = logs-none _;
      leaves = refl;
    }
