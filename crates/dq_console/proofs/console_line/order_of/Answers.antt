use Rattle.std.proofs.Common.{ℕ, List}
use Rattle.dq_core.specs.declared.event.Event.{Event}
use Rattle.dq_core.specs.declared.event.Event.TheVariants.{Open, Piece, End, Pull, Schedule, Withdraw}
use Rattle.dq_captures.specs.Captures.{SpellsEvent}
use Rattle.dq_console.specs.declared.console_line.ConsoleLine.{ConsoleLine}
use Rattle.dq_console.specs.ConsoleLines.{IsAskedBy, SpellsOrder}

-- what an order asks is what its line tells
told : (line : List ℕ) (order : Event) (l : ConsoleLine) → SpellsEvent line order → IsAskedBy order l → SpellsOrder line l
told line (Open number) l spells asked = absurd asked
told line (Piece number octets) l spells asked = absurd asked
told line (End number) l spells asked = absurd asked
told line (Pull number) l spells asked = absurd asked
told line (Schedule institution octets) l spells asked = rw asked spells
told line (Withdraw institution id) l spells asked = rw asked spells
