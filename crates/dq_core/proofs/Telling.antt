-- What is told of additions, one call after the other, and what a C-FIND that is open makes of orders.
use Rattle.std.proofs.Common.{◌≡◌, ◌≢◌, ℕ, List, [], ◌∷◌, ◌++◌, Option, Some, None, Result, Ok, Err, IfOk, sym, ap, refl, ◌∙◌, append_assoc}
use Rattle.dq_config.specs.declared.config.Institution.{Institution}
use Rattle.dq_config.specs.Limits.{limits_of}
use Rattle.dq_tables.specs.declared.row.Row.{Row}
use Rattle.dq_tables.specs.Rows.{IsRising, Operation, of, by, after, after_all}
use Rattle.dq_tables.specs.TableStates.{State as Kept}
use Rattle.dq_tables.proofs.Lens.{others}
use Rattle.dq_archive.specs.declared.additions.Addition.{Addition}
use Rattle.dq_archive.specs.Additions.{lasting_records, without, IsTold}
use Rattle.dq_core.specs.declared.connections.Connections.{Connections}
use Rattle.dq_core.specs.Additions.{log_of}
use Rattle.dq_core.specs.Services.{ConsoleOrder, console_outcome}
use Rattle.dq_core.specs.Shared.{World, first_world, order_turn}
use Rattle.dq_core.specs.declared.event.Reply.{Reply}
use Rattle.dq_core.specs.declared.fault.Fault.{Fault}
use Rattle.dq_core.specs.Effects.{Orders}
use Rattle.dq_core.specs.Slots.{AreHeld, Turned}
use Rattle.dq_core.proofs.Brief.{told_brief, order_brief}
use Rattle.dq_core.proofs.Framing.{all-kept, all-stay}

pub told_then : {name : List ℕ} {r0 r1 r2 : List Row} {l0 l1 l2 : List Addition} → IsTold name r0 r1 l0 l1 → IsTold name r1 r2 l1 l2 → IsTold name r0 r2 l0 l2
told_then {name = name} {r2 = r2} {l0 = l0} first second = record {
  told = first.told ++ second.told;
  behind = second.behind ∙ ap (λ (l : List Addition). l ++ second.told) first.behind ∙ append_assoc l0 first.told second.told;
  stays = λ later.
      ap (λ (l : List Addition). lasting_records (without l (of name r2))) (sym (append_assoc later first.told second.told))
      ∙ second.stays (later ++ first.told) ∙ first.stays later;
}

-- an order changes worklist entries alone
pub order-holds : (institutions : List Institution) (world : World) (held : Connections) (rows : List Row) (order : ConsoleOrder) (o : Option Institution)
    → IsRising world.rows → AreHeld institutions world.rows held world.connections
    → rows ≡ after_all (order_turn (first_world world.rows) order o).operations world.rows
    → AreHeld institutions rows held (order_turn world order o).connections
order-holds institutions world held rows order None rising h done = rw done h
order-holds institutions world held rows order (Some i) rising h done =
    let logs = held.additions.logs.items in
    let edits = (console_outcome (limits_of i) (of i.name world.rows) order).edits in
    let told = told_brief i.name edits world.rows rows (log_of institutions logs i.name) rising (order_brief (limits_of i) (of i.name world.rows) order) done in
    record {
      at = all-stay institutions world.rows rows logs logs held.slots
          (λ place slot there. all-kept institutions world.rows rows logs logs i.name
          (λ other apart. (ap (of other) done ∙ others other i.name (λ f. apart (sym f)) edits world.rows rising, refl)) told slot.institution slot.query)
          held.places.entries world.connections h.at;
      ordered = h.ordered;
      below = h.below;
      tallied = h.tallied;
      counted = h.counted;
      logged = h.logged;
    }

-- its turn
same-order : (world : World) (order : ConsoleOrder) (o : Option Institution)
    → ((order_turn (first_world world.rows) order o).reply ≡ (order_turn world order o).reply)
    × ((order_turn (first_world world.rows) order o).operations ≡ (order_turn world order o).operations)
same-order world order None = (refl, refl)
same-order world order (Some i) = (refl, refl)

pub order-turned : (institutions : List Institution) (world : World) (held : Connections) (old new : Kept) (order : ConsoleOrder) (o : Option Institution)
    (result : Result Reply Fault) → IsRising world.rows → AreHeld institutions world.rows held world.connections → old.rows ≡ world.rows → new.honest
    → Orders old new o order result → IfOk result (λ reply. Turned institutions (order_turn world order o) reply world.rows new.rows held)
order-turned institutions world held old new order o (Err e) rising h r honest orders = tt
order-turned institutions world held old new order o (Ok reply) rising h r honest orders =
    let same = same-order world order o in
    let done : new.rows ≡ after_all (order_turn (first_world world.rows) order o).operations world.rows =
    orders.done honest ∙ (λ i. after_all (order_turn (first_world (r i)) order o).operations (r i)) in
    record {
      replied = orders.replied honest ∙ (λ i. (order_turn (first_world (r i)) order o).reply) ∙ same.0;
      rows = done ∙ ap (λ (os : List Operation). after_all os world.rows) same.1;
      holds = order-holds institutions world held new.rows order o rising h done;
    }
