-- Logs that grow.
use Rattle.std.proofs.Common.{List, [], ◌++◌, Option, Some, None, sym, ◌∙◌, ap, append_assoc}
use Rattle.std.proofs.lemmas.List.{append-nil}
use Rattle.dq_wires.specs.declared.calls.Call.{Call}
use Rattle.dq_wires.specs.Logs.{LogsAll}

-- by some calls, and then by others
pub logs-then : (before mid after : Option (List Call)) (first later : List Call) → LogsAll before mid first → LogsAll mid after later
    → LogsAll before after (first ++ later)
logs-then before mid None first later a b = tt
logs-then before None (Some after) first later a b = absurd b
logs-then None (Some mid) (Some after) first later a b = absurd a
logs-then (Some before) (Some mid) (Some after) first later a b = b ∙ ap (λ calls. calls ++ later) a ∙ append_assoc before first later

-- by none
pub logs-none : (log : Option (List Call)) → LogsAll log log []
logs-none None = tt
logs-none (Some log) = sym (append-nil log)
