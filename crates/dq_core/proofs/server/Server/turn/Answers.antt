use Rattle.std.proofs.Common.{◌≡◌, subst}
use Rattle.dq_config.specs.Routing.{institution_named}
use Rattle.dq_tables.specs.Rows.{IsRising}
use Rattle.dq_core.specs.Services.{Scheduling, Withdrawal}
use Rattle.dq_core.specs.Slots.{AreHeld}
use Rattle.dq_core.proofs.Telling.{order-turned}
use Rattle.dq_core.proofs.server.Server.turn.Goals as goal

pub returns-in-Schedule-clause-turned : goal.returns-in-Schedule-clause-turned
returns-in-Schedule-clause-turned g c = λ world h r honest.
    let state = g.T.Tables.state in
    let now = c.self.inside in
    let config = now.connections.config in
    let held : AreHeld config world.rows now.connections world.connections = rw (← c.self.view_is) at h in
    let same : (state now.tables).rows ≡ world.rows = rw (← c.self.view_is) at r in
    let orders = rw (c.as_slice.ensures, c.as_slice-in-Schedule.ensures) at c.schedule_entry.ensures.orders in
    rw (c.in-Schedule.is, ← c.self.view_is) (order-turned config world now.connections (state now.tables) (state c.schedule_entry.new.tables) (Scheduling c.in-Schedule.octets)
    (institution_named config c.in-Schedule.inst) c.schedule_entry.result
    (subst IsRising same (g.met.T.Tables.sound now.tables (orders.goes.was_honest honest)).rising) held same honest orders)

pub returns-in-Withdraw-clause-turned : goal.returns-in-Withdraw-clause-turned
returns-in-Withdraw-clause-turned g c = λ world h r honest.
    let state = g.T.Tables.state in
    let now = c.self.inside in
    let config = now.connections.config in
    let held : AreHeld config world.rows now.connections world.connections = rw (← c.self.view_is) at h in
    let same : (state now.tables).rows ≡ world.rows = rw (← c.self.view_is) at r in
    let orders = rw (c.as_slice-in-Withdraw.ensures, c.as_slice-in-Withdraw-2.ensures) at c.withdraw_entry.ensures.orders in
    rw (c.in-Withdraw.is, ← c.self.view_is) (order-turned config world now.connections (state now.tables) (state c.withdraw_entry.new.tables) (Withdrawal c.in-Withdraw.id)
    (institution_named config c.in-Withdraw.inst) c.withdraw_entry.result
    (subst IsRising same (g.met.T.Tables.sound now.tables (orders.goes.was_honest honest)).rising) held same honest orders)
