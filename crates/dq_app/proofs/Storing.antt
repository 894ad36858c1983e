-- What holds of the rows that a task begins with.
use Rattle.std.proofs.Common.{◌≡◌, ℕ, List, []}
use Rattle.dq_tables.specs.declared.row.Row.{Row}
use Rattle.dq_tables.specs.TableStates.{State}
use Rattle.dq_cli.specs.CommandLine.{InMemory, InNewStore, InStore}
use Rattle.dq_app.specs.Program.{AsFarAsHonest, IsOver}

module _ {File : Type 0} (state : File → State) (stored : List ℕ → List Row → Type 0) (IsSo : List Row → Type 0) (rows : List Row) where
  pub over_memory : rows ≡ [] → IsSo rows → IsOver state stored InMemory IsSo
  over_memory none so = (rows, (none, so))

  -- `Was`: what keeps the rows was honest as it was opened
  module _ {Was : Type 0} (path : List ℕ) (so : AsFarAsHonest state (Was × IsSo rows)) where
    pub over_new : rows ≡ [] → IsOver state stored (InNewStore path) IsSo
    over_new none = (rows, (so.0, λ honest. (none, (so.1 honest).1)))

    pub over_found : (Was → (held : List Row) → stored path held → rows ≡ held) → IsOver state stored (InStore path) IsSo
    over_found same = (rows, (so.0, λ honest. (same (so.1 honest).0, (so.1 honest).1)))
