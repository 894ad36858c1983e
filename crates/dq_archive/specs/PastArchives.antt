-- Lookups in an archive as it was. They follow from the records that its institution had then:
-- those that it has now, but for those that were added later.
use Rattle.std.specs.Prelude.{◌≡◌, List, Option, Result, IfOk, IfSome}
use Rattle.std.specs.Borrow.{MutBor}
use Rattle.dq_tables.specs.declared.fault.TableFault.{TableFault}
use Rattle.dq_tables.specs.Rows.{Record, of}
use Rattle.dq_tables.specs.TableStates.{State, Reads}
use Rattle.dq_archive.specs.Additions.{without}
use Rattle.dq_archive.specs.declared.past.Past.{Past}

-- a past of tables that are lent to it
pub record IsOver {T : Type 0} (tables : MutBor T) (past : Past T) : Type 0 where
  pub lent : past.tables.ghost_name ≡ tables.ghost_name
  pub now : past.tables.now ≡ tables.now

-- the same tables and the same institution, and the same records are left out
pub record IsSame {T : Type 0} (old new : Past T) : Type 0 where
  pub tables : new.tables.ghost_name ≡ old.tables.ghost_name
  pub institution : new.institution ≡ old.institution
  pub later : new.later ≡ old.later

-- what its tables show
abbrev pub state_in : {T : Type 0} → (T → State) → Past T → State
state_in state past = state past.tables.now

-- the records that its institution had
abbrev pub records_in : {T : Type 0} → (T → State) → Past T → List Record
records_in state past =
    without past.later.now (of past.institution.now.name (state_in state past).rows)

-- A lookup follows from these records, and nothing changes.
pub record QueriesOnly {T : Type 0} {Answer : Type 0} (state : T → State) (old new : Past T)
    (look : List Record → Answer) (result : Result Answer TableFault) : Type 0 where
  pub same : IsSame old new
  pub reads : Reads (state_in state old) (state_in state new) result
  pub answered : (state_in state new).honest
      → IfOk result (λ answer. answer ≡ look (records_in state old))

-- A lookup that need not have an answer: where it has one, that follows from these records. Nothing changes.
pub record QueriesFew {T : Type 0} {Answer : Type 0} (state : T → State) (old new : Past T)
    (look : List Record → Answer) (result : Result (Option Answer) TableFault) : Type 0 where
  pub same : IsSame old new
  pub reads : Reads (state_in state old) (state_in state new) result
  pub answered : (state_in state new).honest
      → IfOk result (λ few. IfSome few (λ answer. answer ≡ look (records_in state old)))
