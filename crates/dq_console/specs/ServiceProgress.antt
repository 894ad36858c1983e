-- How a service goes on while the console and the web front are attended to.
use Rattle.std.specs.Prelude.{◌≡◌, List, ◌++◌, Option, None}
use Rattle.dq_config.specs.declared.config.Institution.{Institution}
use Rattle.dq_core.specs.ServerView.{ServerView}
use Rattle.dq_tables.specs.declared.row.Row.{Row}
use Rattle.dq_tables.specs.TableStates.{State}
use Rattle.dq_wires.specs.declared.calls.Call.{Call}
use Rattle.dq_wires.specs.Servings.{Act, Serving}
use Rattle.dq_wires.specs.Turners.{TurnerView}

-- Whatever serving had come to `old` has come to `new` by these acts. The calls of the wires went on
-- from `before` to `after`. If what keeps the rows is honest at the end, it was so at the beginning.
pub record WentOn {Tables : Type 0} (state : Tables → State) (before after : Option (List Call))
    (old new : TurnerView Tables) (acts : List Act) : Type 0 where
  pub serves : (rows : List Row) (start : Option (List Call)) (first : ServerView Tables)
      (done : List Act) → Serving state rows start before first old.server old.hold done
      → Serving state rows start after first new.server new.hold (done ++ acts)
  pub working : old.fault ≡ None → new.fault ≡ None
  pub was_honest : (state new.server.tables).honest → (state old.server.tables).honest

-- The console was attended to: these orders were stepped, and no turn was made.
abbrev pub Attended : {Tables : Type 0} → (Tables → State) → TurnerView Tables → TurnerView Tables
    → List Act → Type 0
Attended state old new orders =
    (log : Option (List Call)) → WentOn state log log old new orders

-- Whatever serving had come to `old`, from rows that were there and by acts: they are so, if what keeps the
-- rows is still honest at the end, which is `new`. The calls of the wires had gone on to `now`.
abbrev pub HoldsAt : {Tables : Type 0} → (Tables → State) → Option (List Call) → TurnerView Tables
    → ServerView Tables → (List Institution → List Row → List Act → Type 0) → Type 0
HoldsAt {Tables} state now old new AreSo = (state new.tables).honest → (rows : List Row)
    (start : Option (List Call)) (first : ServerView Tables) (done : List Act)
    → Serving state rows start now first old.server old.hold done
    → AreSo first.institutions rows done

abbrev pub Holds : {Tables : Type 0} → (Tables → State) → TurnerView Tables → ServerView Tables
    → (List Institution → List Row → List Act → Type 0) → Type 0
Holds state old new AreSo = (now : Option (List Call)) → HoldsAt state now old new AreSo
