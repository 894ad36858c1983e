-- What is read of few studies is so of the rows that are kept.
use Rattle.std.proofs.Common.{◌≡◌, ℕ, ◌≤◌, nat_le, true, List, Option, None, Some, IfSome, length, arith}
use Rattle.std.specs.Coded.{Coded-set, coded_bool}
use Rattle.std.proofs.lemmas.Bool.Decides.{nat_tests}
use Rattle.sqlite.specs.State.{State as Connected, HasCleanDisk}
use Rattle.dq_tables.specs.declared.choice.Choice.{Choice}
use Rattle.dq_tables.specs.declared.row.Kind.TheVariants.{Study}
use Rattle.dq_tables.specs.declared.row.Row.{Row}
use Rattle.dq_tables.specs.Lookups.{rows_of}
use Rattle.dq_tables.specs.StudyChoices.{studies_in}
use Rattle.dq_sql.specs.StudyIndex.{FindsFew, HasMany}
use Rattle.dq_sql.proofs.KeptRows.{Kept, rows_set, found_in}
use Rattle.dq_sql.proofs.ReadRows.{holds_weaker}

said_le : (m n : ℕ) → m ≤ n → true ≡ nat_le m n
said_le m n h = grind (arith, nat_tests)

le_said : (m n : ℕ) → true ≡ nat_le m n → m ≤ n
le_said m n h = grind (arith, nat_tests)

module _ (s : Connected) (rows : List Row) (choice : Choice) (inst : List ℕ) (many : ℕ) where
  abbrev FindsStudies : Option (List Row) → Type 0
  FindsStudies few = FindsFew many inst s few (λ list rows. list ≡ studies_in choice inst rows)

  pub found_few : (few : Option (List Row)) → Kept s rows → HasCleanDisk s → FindsStudies few → IfSome few (λ list. list ≡ studies_in choice inst rows)
  found_few None kept clean h = tt
  found_few (Some list) kept clean h = found_in rows_set s rows (studies_in choice inst) list kept clean h

  pub found_many : (few : Option (List Row)) → Kept s rows → HasCleanDisk s → FindsStudies few → few ≡ None → HasMany many inst rows
  found_many None kept clean h none =
      le_said many (length (rows_of Study inst rows)) (found_in (Coded-set coded_bool) s rows (λ rows. nat_le many (length (rows_of Study inst rows))) true kept clean
      (holds_weaker s _ _ (λ rows. said_le many (length (rows_of Study inst rows))) h))
  found_many (Some list) kept clean h none = absurd cc
