use Rattle.std.proofs.Common.{◌≡◌, ◌≤◌, true}
use Rattle.dq_core.specs.Services.{pending_status}
use Rattle.dq_core.specs.Queries.{optional_of, command_octets}
use Rattle.dq_core.proofs.Sending.{HasSent}
use Rattle.dq_core.proofs.pages.OpenQuery.send_pending.Given as goal

abbrev pub invariant-loop : goal.invariant-loop
invariant-loop l = HasSent l.fn.self l.self l.counter l.fn.out.items l.out.items × (l.counter ≤ l.count) × (l.count ≡ l.fn.count)
    × (l.command.items ≡ command_octets l.fn.self.context l.fn.self.limit l.fn.self.command (pending_status (optional_of l.fn.self.answers)) true)
