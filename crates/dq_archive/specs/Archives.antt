-- Lookups in an archive, and decisions over it. Both follow from the records of its institution
-- alone.
use Rattle.std.specs.Prelude.{◌≡◌, List, Result, IfOk}
use Rattle.std.specs.Borrow.{MutBor}
use Rattle.dq_tables.specs.declared.fault.TableFault.{TableFault}
use Rattle.dq_tables.specs.Rows.{Record, Edit, of}
use Rattle.dq_tables.specs.TableStates.{State, Reads}
use Rattle.dq_archive.specs.declared.archive.Archive.{Archive}
use Rattle.dq_archive.specs.declared.decision.Decision.{Decision}
use Rattle.dq_archive.specs.Decisions.{IsOwn, IsDecided}

-- an archive over tables that are lent to it
pub record IsOver {T : Type 0} (tables : MutBor T) (archive : Archive T) : Type 0 where
  pub lent : archive.tables.ghost_name ≡ tables.ghost_name
  pub now : archive.tables.now ≡ tables.now

-- the same tables, and the same institution
pub record IsSame {T : Type 0} (old new : Archive T) : Type 0 where
  pub tables : new.tables.ghost_name ≡ old.tables.ghost_name
  pub institution : new.institution ≡ old.institution

-- what its tables show
abbrev pub state_in : {T : Type 0} → (T → State) → Archive T → State
state_in state archive = state archive.tables.now

-- the records of its institution
abbrev pub records_in : {T : Type 0} → (T → State) → Archive T → List Record
records_in state archive = of archive.institution.now.name (state_in state archive).rows

-- A lookup follows from these records, and nothing changes.
pub record QueriesOnly {T : Type 0} {Answer : Type 0} (state : T → State) (old new : Archive T)
    (look : List Record → Answer) (result : Result Answer TableFault) : Type 0 where
  pub same : IsSame old new
  pub reads : Reads (state_in state old) (state_in state new) result
  pub answered : (state_in state new).honest
      → IfOk result (λ answer. answer ≡ look (records_in state old))

-- A decision follows from them, and nothing changes yet.
pub record Decides {T : Type 0} {Answer : Type 0} (state : T → State) (old new : Archive T)
    (does : List Record → Answer × List Edit) (result : Result (Decision Answer) TableFault)
    : Type 0 where
  pub same : IsSame old new
  pub reads : Reads (state_in state old) (state_in state new) result
  pub own : IfOk result (λ decision. IsOwn old.institution.now.name decision.change)
  pub decided : (state_in state new).honest → IfOk result (λ decision.
      IsDecided (state_in state old).rows (does (records_in state old)) decision)
