use Rattle.std.proofs.Common.{◌≡◌, ◌++◌, drop}
use Rattle.std.specs.Option.{option_copied}
use Rattle.dq_request.specs.Searches.{asked_elements}
use Rattle.dq_request.proofs.identifier.asked_elements.Given as goal

abbrev pub invariant-loop-entry : goal.invariant-loop-entry
invariant-loop-entry l =
    l.elements.items ++ asked_elements l.level (option_copied l.step) l.keys (drop l.entry-index l.entries)
    ≡ asked_elements l.level (option_copied l.step) l.keys l.entries
