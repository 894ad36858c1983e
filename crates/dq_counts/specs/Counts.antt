-- Row counts that are remembered.
use Rattle.std.specs.Prelude.{◌≡◌, List, ◌∷◌, length, All, Option, Some, None, IfSome}
use Rattle.dq_tables.specs.declared.row.Row.{Row}
use Rattle.dq_tables.specs.Lookups.{rows_of}
use Rattle.dq_tables.specs.TableStates.{State}
use Rattle.dq_counts.specs.declared.counts.Difference.{Difference}
use Rattle.dq_counts.specs.declared.counts.Difference.TheVariants.{OneMore, OneFewer}
use Rattle.dq_counts.specs.declared.counts.Count.{Count}
use Rattle.dq_counts.specs.declared.counts.Counts.{Counts}

-- The number, where it is known, is how many rows of the kind the institution has.
abbrev pub IsRight : List Row → Count → Type 0
IsRight rows count =
    IfSome count.number (λ number. number ≡ length (rows_of count.kind count.institution rows))

abbrev pub AreRight : List Row → Counts → Type 0
AreRight rows counts = All (IsRight rows) counts.known.items

-- The counts are right of the rows of tables, as far as these are honest.
abbrev pub AreRightOf : State → Counts → Type 0
AreRightOf tables counts = ∥ (tables.honest → AreRight tables.rows counts) ∥₁

-- There is this row more than before, or fewer.
abbrev pub Differ : Difference → Row → List Row → List Row → Type 0
Differ OneMore row before after = after ≡ row ∷ before
Differ OneFewer row before after = before ≡ row ∷ after

-- the rows with one more, if there is one
abbrev pub with_one_more : Option Row → List Row → List Row
with_one_more None rows = rows
with_one_more (Some row) rows = row ∷ rows
