use Rattle.std.proofs.Common.{◌≡◌, List, inl, inr, refl}
use Rattle.std.specs.Io.KnownBytes.{Appends}
use Rattle.dq_core.specs.Shared.{world_after}
use Rattle.dq_tables.specs.declared.row.Row.{Row}
use Rattle.dq_cli.specs.CommandLine.{place_asked}
use Rattle.dq_app.specs.Program.{CutsTask, IsInStore, text_of, unclosed_store}
use Rattle.dq_app.proofs.Inputs.{if_error}
use Rattle.dq_app.proofs.Storing.{over_memory, over_new, over_found}
use Rattle.dq_app.proofs.program.do_over.Goals as goal

pub returns-in_ok-do_task-in-Memory-clause-done : goal.returns-in_ok-do_task-in-Memory-clause-done
returns-in_ok-do_task-in-Memory-clause-done g c =
    let h = c.args.history in
    let made = c.in_ok-do_task-in-Memory in
    let kept = (g.Rt.Memory.Tables.state made.field-0).rows in
    let honest = g.met.Rt.Stores.memory_is_honest made.field-0 in
    let IsSo : List Row → Type 0 = λ (rows : List Row). Appends (g.W.Sink.written c.args.output.now) (g.W.Sink.written c.do_task.new.output)
    (text_of c.args.asked.task h.config rows h.events.items) × (kept ≡ (world_after h.config rows h.events.items).rows) in (
      kept,
      rw c.in-Memory.is (λ is_in. absurd is_in),
      rw c.in-Memory.is (over_memory g.Rt.File.Tables.state (g.Rt.Stores.stored c.args.rt.now) IsSo _ c.in_ok-tables-in-Memory.ensures.rows
          (made.ensures.done honest, made.ensures.kept honest)),
    )

pub returns-in_ok-close-in-New-clause-done : goal.returns-in_ok-close-in-New-clause-done
returns-in_ok-close-in-New-clause-done g c =
    let h = c.args.history in
    let made = c.in_ok-filled-in-New in
    let kept = (g.Rt.File.Tables.state made.filled).rows in
    let IsSo : List Row → Type 0 = λ (rows : List Row). Appends (g.W.Sink.written c.args.output.now) (g.W.Sink.written c.do_task-in-New.new.output)
    (text_of c.args.asked.task h.config rows h.events.items) × (kept ≡ (world_after h.config rows h.events.items).rows) in (
      kept,
      λ is_in. c.in_ok-close-in-New.ensures,
      rw c.in-New.is (over_new g.Rt.File.Tables.state (g.Rt.Stores.stored c.args.rt.now) IsSo _ c.in-New.path.now
          (made.filled, λ honest. (made.ensures.was_honest honest, (made.ensures.done honest, made.ensures.kept honest)))
          c.in_ok-tables-in-New.ensures.rows),
    )

pub returns-in_ok-close-in-Found-clause-done : goal.returns-in_ok-close-in-Found-clause-done
returns-in_ok-close-in-Found-clause-done g c =
    let h = c.args.history in
    let made = c.in_ok-kept-in-Found in
    let kept = (g.Rt.File.Tables.state made.kept).rows in
    let IsSo : List Row → Type 0 = λ (rows : List Row). Appends (g.W.Sink.written c.args.output.now) (g.W.Sink.written c.do_task-in-Found.new.output)
    (text_of c.args.asked.task h.config rows h.events.items) × (kept ≡ (world_after h.config rows h.events.items).rows) in (
      kept,
      λ is_in. c.in_ok-close-in-Found.ensures,
      rw c.in-Found.is (over_found g.Rt.File.Tables.state (g.Rt.Stores.stored c.args.rt.now) IsSo _ _
          (made.kept, λ honest. (made.ensures.was_honest honest, (made.ensures.done honest, made.ensures.kept honest)))
          c.in_ok-tables-in-Found.ensures.rows),
    )

-- all was printed, and the store was not closed
pub returns-in_err-close-in-New-clause-stops : goal.returns-in_err-close-in-New-clause-stops
returns-in_err-close-in-New-clause-stops g c =
    let h = c.args.history in
    let made = c.in_ok-filled-in-New in
    let is_in : IsInStore (place_asked c.args.asked.keeper) = rw c.in-New.is tt in
    let IsSo : List Row → Type 0 = λ (rows : List Row). Appends (g.W.Sink.written c.args.output.now) (g.W.Sink.written c.do_task-in-New.new.output)
    (text_of c.args.asked.task h.config rows h.events.items) in
    if_error _ c.from_residual-in_err-close-in-New.result unclosed_store c.from_residual-in_err-close-in-New.ensures.1
    (inr (inr (
      is_in,
      refl,
      rw c.in-New.is (over_new g.Rt.File.Tables.state (g.Rt.Stores.stored c.args.rt.now) IsSo _ c.in-New.path.now
          (made.filled, λ honest. (made.ensures.was_honest honest, made.ensures.done honest)) c.in_ok-tables-in-New.ensures.rows),
    )))

pub returns-in_err-close-in-Found-clause-stops : goal.returns-in_err-close-in-Found-clause-stops
returns-in_err-close-in-Found-clause-stops g c =
    let h = c.args.history in
    let made = c.in_ok-kept-in-Found in
    let is_in : IsInStore (place_asked c.args.asked.keeper) = rw c.in-Found.is tt in
    let IsSo : List Row → Type 0 = λ (rows : List Row). Appends (g.W.Sink.written c.args.output.now) (g.W.Sink.written c.do_task-in-Found.new.output)
    (text_of c.args.asked.task h.config rows h.events.items) in
    if_error _ c.from_residual-in_err-close-in-Found.result unclosed_store c.from_residual-in_err-close-in-Found.ensures.1
    (inr (inr (
      is_in,
      refl,
      rw c.in-Found.is (over_found g.Rt.File.Tables.state (g.Rt.Stores.stored c.args.rt.now) IsSo _ _
          (made.kept, λ honest. (made.ensures.was_honest honest, made.ensures.done honest)) c.in_ok-tables-in-Found.ensures.rows),
    )))

-- the task was cut short
pub returns-in_err-do_task-in-Memory-clause-stops : goal.returns-in_err-do_task-in-Memory-clause-stops
returns-in_err-do_task-in-Memory-clause-stops g c =
    let h = c.args.history in
    let cut = c.in_err-do_task-in-Memory.ensures.cut in
    let IsSo : List Row → Type 0 = λ (rows : List Row). CutsTask c.args.asked.task (g.W.Sink.written c.args.output.now)
    (g.W.Sink.written c.do_task.new.output) h.config rows h.events.items c.in_err-do_task-in-Memory.field-0.0 in
    if_error _ c.from_residual-in_err-do_task-in-Memory.result _ c.from_residual-in_err-do_task-in-Memory.ensures.1
    (inr (inl (
      c.in_err-do_task-in-Memory.ensures.ends,
      rw c.in-Memory.is (over_memory g.Rt.File.Tables.state (g.Rt.Stores.stored c.args.rt.now) IsSo _ c.in_ok-tables-in-Memory.ensures.rows
          (cut.1 (g.met.Rt.Stores.memory_is_honest cut.0)).1),
    )))

pub returns-in_err-filled-in-New-clause-stops : goal.returns-in_err-filled-in-New-clause-stops
returns-in_err-filled-in-New-clause-stops g c =
    let h = c.args.history in
    let IsSo : List Row → Type 0 = λ (rows : List Row). CutsTask c.args.asked.task (g.W.Sink.written c.args.output.now)
    (g.W.Sink.written c.do_task-in-New.new.output) h.config rows h.events.items c.in_err-filled-in-New.field-0.0 in
    if_error _ c.from_residual-in_err-filled-in-New.result _ c.from_residual-in_err-filled-in-New.ensures.1
    (inr (inl (
      c.in_err-filled-in-New.ensures.ends,
      rw c.in-New.is (over_new g.Rt.File.Tables.state (g.Rt.Stores.stored c.args.rt.now) IsSo _ c.in-New.path.now c.in_err-filled-in-New.ensures.cut
          c.in_ok-tables-in-New.ensures.rows),
    )))

pub returns-in_err-kept-in-Found-clause-stops : goal.returns-in_err-kept-in-Found-clause-stops
returns-in_err-kept-in-Found-clause-stops g c =
    let h = c.args.history in
    let IsSo : List Row → Type 0 = λ (rows : List Row). CutsTask c.args.asked.task (g.W.Sink.written c.args.output.now)
    (g.W.Sink.written c.do_task-in-Found.new.output) h.config rows h.events.items c.in_err-kept-in-Found.field-0.0 in
    if_error _ c.from_residual-in_err-kept-in-Found.result _ c.from_residual-in_err-kept-in-Found.ensures.1
    (inr (inl (
      c.in_err-kept-in-Found.ensures.ends,
      rw c.in-Found.is (over_found g.Rt.File.Tables.state (g.Rt.Stores.stored c.args.rt.now) IsSo _ _ c.in_err-kept-in-Found.ensures.cut
          c.in_ok-tables-in-Found.ensures.rows),
    )))
