use Rattle.std.proofs.Common.{length, drop, refl, subst}
use Rattle.dq_console.specs.Console.{HeldClient}
use Rattle.dq_console.specs.ClientTurns.{Reads}
use Rattle.dq_console.proofs.ClientTurns.{reads-octets, searched-still}
use Rattle.dq_console.proofs.console_client.ConsoleClient.receive.Goals as goal

pub invariant_of-self : goal.invariant_of-self
invariant_of-self g c =
    let kept = searched-still _ _ _ _ _ c.extend_from_slice.ensures.items c.self.invariant.1 c.self.invariant.2 in
    (c.self.invariant.0, kept.0, kept.1)

pub returns-in-Ok-Got : goal.returns-in-Ok-Got
returns-in-Ok-Got g c =
    let it = c.self.inside in
    let client : HeldClient = record { place = it.place; came = it.came.items; unsent = drop it.written it.answer.items; is_over = it.is_over } in
    let came = c.extend_from_slice.new.self.items in
    let P : HeldClient → Type 0 = λ v. Reads (g.W.Wires.log c.args.wires.now) (g.W.Wires.log c.read.new.self) (length c.args.buffer.now) v
    (record client { came = came }) c.is_ok.result in
    subst P c.self.view_is (reads-octets _ _ _ client _ _ came c.is_ok.result (rw c.in-Ok-Got.field-0-is at c.in-Ok-Got.ensures.told) refl
    (rw (← c.is_ok.ensures.value) at c.extend_from_slice.ensures.items))
