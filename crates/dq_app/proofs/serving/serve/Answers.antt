use Rattle.std.proofs.Common.{List, inr, refl}
use Rattle.dq_cli.specs.CommandLine.{place_asked, clients_of, serving_in}
use Rattle.dq_tables.specs.declared.row.Row.{Row}
use Rattle.dq_app.specs.declared.stop.Stop.{Stop}
use Rattle.dq_app.specs.Program.{unclosed_store, AsFarAsHonest, IsOver}
use Rattle.dq_app.specs.Serving.{turn_count, Served, ServedUpTo}
use Rattle.dq_app.proofs.Ends.{ends-so}
use Rattle.dq_app.proofs.Inputs.{if_error}
use Rattle.dq_app.proofs.Storing.{over_memory, over_new, over_found}
use Rattle.dq_app.proofs.serving.serve.Goals as goal

pub returns-in_ok-serve_by-in-Memory-clause-done : goal.returns-in_ok-serve_by-in-Memory-clause-done
returns-in_ok-serve_by-in-Memory-clause-done g c =
    let server = c.in_ok-server-in-Memory.ensures in
    let made = c.in_ok-serve_by-in-Memory in
    let kept = (g.Rt.Memory.Tables.state made.field-0).rows in
    let all = g.met.Rt.Stores.memory_is_honest in
    let served = (made.ensures.served (all made.field-0)).1 in
    let IsSo : List Row → Type 0 = λ (rows : List Row). Served g.Rt.Wired.Wires.log g.Rt.Console.Wires.log c.in_ok-config.config rows
    (turn_count c.args.service.turns) (clients_of (serving_in c.args.service)) kept in (
      made.ensures.ready,
      (
        _,
        c.in_ok-config.ensures.read,
        (
          kept,
          rw c.in-Memory.is (λ is_in. absurd is_in),
          rw c.in-Memory.is (over_memory g.Rt.File.Tables.state (g.Rt.Stores.stored c.args.rt.now) IsSo _ c.in_ok-memory-in-Memory.ensures.rows
              (rw (server.institutions, server.tables) at served)),
        ),
      ),
    )

pub returns-in_ok-close-in-New-clause-done : goal.returns-in_ok-close-in-New-clause-done
returns-in_ok-close-in-New-clause-done g c =
    let server = c.in_ok-server-in-New.ensures in
    let made = c.in_ok-filled-in-New in
    let state = g.Rt.File.Tables.state in
    let kept = (state made.filled).rows in
    let IsSo : List Row → Type 0 = λ (rows : List Row). Served g.Rt.Wired.Wires.log g.Rt.Console.Wires.log c.in_ok-config.config rows
    (turn_count c.args.service.turns) (clients_of (serving_in c.args.service)) kept in (
      made.ensures.ready,
      (
        _,
        c.in_ok-config.ensures.read,
        (
          kept,
          λ is_in. c.in_ok-close-in-New.ensures,
          rw c.in-New.is (over_new state (g.Rt.Stores.stored c.args.rt.now) IsSo _ c.in-New.path.now
              (made.filled, λ honest. rw (server.institutions, server.tables) at (made.ensures.served honest)) c.in_ok-new_store-in-New.ensures.rows),
        ),
      ),
    )

pub returns-in_ok-close-in-Found-clause-done : goal.returns-in_ok-close-in-Found-clause-done
returns-in_ok-close-in-Found-clause-done g c =
    let server = c.in_ok-server-in-Found.ensures in
    let made = c.in_ok-kept-in-Found in
    let state = g.Rt.File.Tables.state in
    let kept = (state made.kept).rows in
    let IsSo : List Row → Type 0 = λ (rows : List Row). Served g.Rt.Wired.Wires.log g.Rt.Console.Wires.log c.in_ok-config.config rows
    (turn_count c.args.service.turns) (clients_of (serving_in c.args.service)) kept in (
      made.ensures.ready,
      (
        _,
        c.in_ok-config.ensures.read,
        (
          kept,
          λ is_in. c.in_ok-close-in-Found.ensures,
          rw c.in-Found.is (over_found state (g.Rt.Stores.stored c.args.rt.now) IsSo _ _
              (made.kept, λ honest. rw (server.institutions, server.tables) at (made.ensures.served honest)) c.in_ok-store-in-Found.ensures.rows),
        ),
      ),
    )

pub returns-in_err-close-in-New-clause-stops : goal.returns-in_err-close-in-New-clause-stops
returns-in_err-close-in-New-clause-stops g c =
    if_error _ c.from_residual-in_err-close-in-New.result unclosed_store c.from_residual-in_err-close-in-New.ensures.1
    (inr (_, c.in_ok-config.ensures.read, inr (refl, c.in_ok-filled-in-New.ensures.ready)))

pub returns-in_err-close-in-Found-clause-stops : goal.returns-in_err-close-in-Found-clause-stops
returns-in_err-close-in-Found-clause-stops g c =
    if_error _ c.from_residual-in_err-close-in-Found.result unclosed_store c.from_residual-in_err-close-in-Found.ensures.1
    (inr (_, c.in_ok-config.ensures.read, inr (refl, c.in_ok-kept-in-Found.ensures.ready)))

pub returns-in_err-serve_by-in-Memory-clause-stops : goal.returns-in_err-serve_by-in-Memory-clause-stops
returns-in_err-serve_by-in-Memory-clause-stops g c =
    let server = c.in_ok-server-in-Memory.ensures in
    let state = g.Rt.Memory.Tables.state in
    let first = (state c.in_ok-server-in-Memory.server.tables).rows in
    let Told : List Row → Stop → Type 0 = λ (rows : List Row) (why : Stop). ServedUpTo g.Rt.Wired.Wires.log g.Rt.Console.Wires.log
    (g.Rt.Network.may_break c.args.rt.now) c.in_ok-config.config rows (turn_count c.args.service.turns) (clients_of (serving_in c.args.service)) why in
    let IsSo : Stop → Type 0 = λ (why : Stop). AsFarAsHonest state ((state c.in_ok-server-in-Memory.server.tables).honest
    × ServedUpTo g.Rt.Wired.Wires.log g.Rt.Console.Wires.log (g.Rt.Network.may_break c.args.rt.now)
    c.in_ok-server-in-Memory.server.institutions first (turn_count c.args.service.turns) (clients_of (serving_in c.args.service)) why) in
    let IsAlso : Stop → Type 0 = λ (why : Stop). IsOver g.Rt.File.Tables.state (g.Rt.Stores.stored c.args.rt.now) (place_asked c.args.service.keeper)
    (λ (rows : List Row). Told rows why) in
    if_error _ c.from_residual-in_err-serve_by-in-Memory.result _ c.from_residual-in_err-serve_by-in-Memory.ensures.1
    (inr (
      _,
      c.in_ok-config.ensures.read,
      inr (ends-so _ (g.W.Sink.may_fail c.args.output.now) _ _ c.args.service.port IsSo IsAlso (λ why so.
          let all = g.met.Rt.Stores.memory_is_honest in
          rw c.in-Memory.is (over_memory g.Rt.File.Tables.state (g.Rt.Stores.stored c.args.rt.now) (λ (rows : List Row). Told rows why) _
          c.in_ok-memory-in-Memory.ensures.rows (rw (server.institutions, server.tables) at (so.1 (all so.0)).1))) _ c.in_err-serve_by-in-Memory.ensures.ends),
    ))

pub returns-in_err-filled-in-New-clause-stops : goal.returns-in_err-filled-in-New-clause-stops
returns-in_err-filled-in-New-clause-stops g c =
    let server = c.in_ok-server-in-New.ensures in
    let state = g.Rt.File.Tables.state in
    let first = (state c.in_ok-server-in-New.server.tables).rows in
    let Told : List Row → Stop → Type 0 = λ (rows : List Row) (why : Stop). ServedUpTo g.Rt.Wired.Wires.log g.Rt.Console.Wires.log
    (g.Rt.Network.may_break c.args.rt.now) c.in_ok-config.config rows (turn_count c.args.service.turns) (clients_of (serving_in c.args.service)) why in
    let IsSo : Stop → Type 0 = λ (why : Stop). AsFarAsHonest state ((state c.in_ok-server-in-New.server.tables).honest
    × ServedUpTo g.Rt.Wired.Wires.log g.Rt.Console.Wires.log (g.Rt.Network.may_break c.args.rt.now)
    c.in_ok-server-in-New.server.institutions first (turn_count c.args.service.turns) (clients_of (serving_in c.args.service)) why) in
    let IsAlso : Stop → Type 0 = λ (why : Stop). IsOver g.Rt.File.Tables.state (g.Rt.Stores.stored c.args.rt.now) (place_asked c.args.service.keeper)
    (λ (rows : List Row). Told rows why) in
    if_error _ c.from_residual-in_err-filled-in-New.result _ c.from_residual-in_err-filled-in-New.ensures.1
    (inr (
      _,
      c.in_ok-config.ensures.read,
      inr (ends-so _ (g.W.Sink.may_fail c.args.output.now) _ _ c.args.service.port IsSo IsAlso (λ why so.
          rw c.in-New.is (over_new state (g.Rt.Stores.stored c.args.rt.now) (λ (rows : List Row). Told rows why) _ c.in-New.path.now
          (rw (server.institutions, server.tables) at so) c.in_ok-new_store-in-New.ensures.rows)) _ c.in_err-filled-in-New.ensures.ends),
    ))

pub returns-in_err-kept-in-Found-clause-stops : goal.returns-in_err-kept-in-Found-clause-stops
returns-in_err-kept-in-Found-clause-stops g c =
    let server = c.in_ok-server-in-Found.ensures in
    let state = g.Rt.File.Tables.state in
    let first = (state c.in_ok-server-in-Found.server.tables).rows in
    let Told : List Row → Stop → Type 0 = λ (rows : List Row) (why : Stop). ServedUpTo g.Rt.Wired.Wires.log g.Rt.Console.Wires.log
    (g.Rt.Network.may_break c.args.rt.now) c.in_ok-config.config rows (turn_count c.args.service.turns) (clients_of (serving_in c.args.service)) why in
    let IsSo : Stop → Type 0 = λ (why : Stop). AsFarAsHonest state ((state c.in_ok-server-in-Found.server.tables).honest
    × ServedUpTo g.Rt.Wired.Wires.log g.Rt.Console.Wires.log (g.Rt.Network.may_break c.args.rt.now)
    c.in_ok-server-in-Found.server.institutions first (turn_count c.args.service.turns) (clients_of (serving_in c.args.service)) why) in
    let IsAlso : Stop → Type 0 = λ (why : Stop). IsOver g.Rt.File.Tables.state (g.Rt.Stores.stored c.args.rt.now) (place_asked c.args.service.keeper)
    (λ (rows : List Row). Told rows why) in
    if_error _ c.from_residual-in_err-kept-in-Found.result _ c.from_residual-in_err-kept-in-Found.ensures.1
    (inr (
      _,
      c.in_ok-config.ensures.read,
      inr (ends-so _ (g.W.Sink.may_fail c.args.output.now) _ _ c.args.service.port IsSo IsAlso (λ why so.
          rw c.in-Found.is (over_found state (g.Rt.Stores.stored c.args.rt.now) (λ (rows : List Row). Told rows why) _ _
          (rw (server.institutions, server.tables) at so) c.in_ok-store-in-Found.ensures.rows)) _ c.in_err-kept-in-Found.ensures.ends),
    ))
