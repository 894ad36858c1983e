use Rattle.std.proofs.Common.{◌≡◌, ℕ}
use Rattle.std.specs.List.{list_any}
use Rattle.slab.specs.Slab.{entries}
use Rattle.dq_core.specs.declared.slot.Slot.{Slot}
use Rattle.dq_core.specs.Slots.{is_searching}
use Rattle.dq_core.proofs.connections.is_searched.Given as goal

abbrev pub invariant-loop-entry : goal.invariant-loop-entry
invariant-loop-entry l =
    list_any (λ (e : ℕ × Slot). is_searching l.name e.1) l.entry-iterator
    ≡ list_any (λ (e : ℕ × Slot). is_searching l.name e.1) (entries l.slots)
