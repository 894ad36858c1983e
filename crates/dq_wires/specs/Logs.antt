-- Logs that wires keep of the calls that they were asked for.
use Rattle.std.specs.Prelude.{◌≡◌, ◌+◌, ◌-◌, ◌^◌, min, ℕ, List, [], ◌∷◌, ◌++◌, take, Option, Some, None, Result, Ok, Err}
use Rattle.dq_wires.specs.declared.calls.WireFault.{WireFault}
use Rattle.dq_wires.specs.declared.calls.ReadTurn.{ReadTurn}
use Rattle.dq_wires.specs.declared.calls.ReadTurn.TheVariants as turn
use Rattle.dq_wires.specs.declared.calls.ReadOutcome.{ReadOutcome}
use Rattle.dq_wires.specs.declared.calls.ReadOutcome.TheVariants as came
use Rattle.dq_wires.specs.declared.calls.Call.{Call}

-- A log that is still told has grown by exactly these calls. One that is not told stays so.
abbrev pub LogsAll : Option (List Call) → Option (List Call) → List Call → Type 0
LogsAll before None calls = Unit {0}
LogsAll None (Some after) calls = ⊥
LogsAll (Some before) (Some after) calls = after ≡ before ++ calls

-- by one call
abbrev pub Logs : Option (List Call) → Option (List Call) → Call → Type 0
Logs before after call = LogsAll before after (call ∷ [])

-- what a read into a buffer brought
abbrev pub what_came : Result ReadTurn WireFault → List ℕ → ReadOutcome
what_came (Ok (turn.Got count)) buffer = came.Octets (take count buffer)
what_came (Ok turn.Nothing) buffer = came.Nothing
what_came (Ok turn.Ended) buffer = came.Ended
what_came (Err fault) buffer = came.Failed

-- a fact of the count of octets that came
abbrev pub IfGot : Result ReadTurn WireFault → (ℕ → Type 0) → Type 0
IfGot (Ok (turn.Got count)) P = P count
IfGot (Ok turn.Nothing) P = Unit {0}
IfGot (Ok turn.Ended) P = Unit {0}
IfGot (Err fault) P = Unit {0}

-- One failed accept more, as far as a `u64` counts.
abbrev pub one_more_failure : ℕ → ℕ
one_more_failure count = min (count + 1) (2 ^ 64 - 1)

-- the count of failed accepts after one more accept
abbrev pub failures_after_accept : ℕ → Result (Option ℕ) WireFault → ℕ
failures_after_accept count (Ok came) = count
failures_after_accept count (Err fault) = one_more_failure count
