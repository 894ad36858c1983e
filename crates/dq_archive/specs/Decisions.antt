-- Decisions: an answer, and the change of one institution's records that goes with it.
use Rattle.std.specs.Prelude.{◌≡◌, ℕ, List, [], Option, Some, None}
use Rattle.dq_tables.specs.declared.change.Change.{Change}
use Rattle.dq_tables.specs.declared.row.Row.{Row}
use Rattle.dq_tables.specs.Rows.{Edit, edits_of, institution_of}
use Rattle.dq_tables.specs.Sound.{ChangeFits}
use Rattle.dq_archive.specs.declared.decision.Decision.{Decision}

-- the edits of a change, where there is one
abbrev pub edits_in : Option Change → List Edit
edits_in None = []
edits_in (Some change) = edits_of change

-- the answer, and the edits of the institution's records
abbrev pub answer_and_edits : {A : Type 0} → Decision A → A × List Edit
answer_and_edits decision = (decision.answer, edits_in decision.change)

-- the change, where there is one, is of the institution's records
abbrev pub IsOwn : List ℕ → Option Change → Type 0
IsOwn institution None = Unit {0}
IsOwn institution (Some change) = institution_of change ≡ institution

-- and fits the rows
abbrev pub FitsIf : List Row → Option Change → Type 0
FitsIf rows None = Unit {0}
FitsIf rows (Some change) = ChangeFits rows change

-- The decision has an outcome, and its change can be made.
pub record IsDecided {A : Type 0} (rows : List Row) (outcome : A × List Edit)
    (decision : Decision A) : Type 0 where
  pub made : outcome ≡ answer_and_edits decision
  pub fits : FitsIf rows decision.change
