-- What the statements make of the rows, in a transaction.
use Rattle.std.proofs.Common.{ℕ, pos, List, [], ◌∷◌, Ok, Err, Result, OnOk, ◌∙◌}
use Rattle.sqlite_value.specs.declared.value.Value.TheVariants.{Int, Text, Blob}
use Rattle.sqlite.specs.State.{State, ExecutesInside}
use Rattle.dq_tables.specs.declared.row.Kind.{Kind}
use Rattle.dq_tables.specs.declared.row.Kind.TheVariants.{Entry}
use Rattle.dq_tables.specs.declared.row.Row.{Row}
use Rattle.dq_tables.specs.Rows.{number_of_kind}
use Rattle.dq_sql.specs.Cells.{columns_of}
use Rattle.dq_sql.specs.RowWrites.{AddsRow, Replaces, Removes, Starts, TransactionGoesOn, StatementRan}
use Rattle.dq_sql.proofs.Statements.{insert_text, update_text, start_text, delete_text}
use Rattle.dq_sql.proofs.Inserts.{inserted}
use Rattle.dq_sql.proofs.AddedRows.{added}
use Rattle.dq_sql.proofs.UpdatesAndDeletes.{at_params, deleted, updated, begins}
use Rattle.dq_sql.proofs.ReplacedRows.{removed, replaced, begun_starts}

pub on_ok : {X E : Type 0} (r : Result X E) (P Q : Type 0) → (P → Q) → OnOk r P → OnOk r Q
on_ok (Ok x) P Q f h = f h
on_ok (Err e) P Q f h = tt

pub gone_further : (a b c : State) → TransactionGoesOn a b → TransactionGoesOn b c → TransactionGoesOn a c
gone_further a b c p q = record { was_open = λ h. p.was_open (q.was_open h); committed = q.committed ∙ p.committed; inside = q.inside }

pub went_further : (a b c : State) → StatementRan a b → StatementRan b c → StatementRan a c
went_further a b c p q = record { is_open = q.is_open; on = gone_further a b c p.on q.on }

pub gone_on : (a b c : State) → TransactionGoesOn a b → StatementRan b c → StatementRan a c
gone_on a b c p q = record { is_open = q.is_open; on = gone_further a b c p q.on }

module _ (old new : State) where
  went_on : (sql : List ℕ) (params : _) (count : ℕ) → ExecutesInside 0 sql params old new (Ok count) → StatementRan old new
  went_on sql params count h = record {
    is_open = h.1.is_open;
    on = record { was_open = λ _. h.1.was_open; committed = h.1.committed_is; inside = h.1.mode };
  }

  pub put_done : (row : Row) → (count : ℕ) × ExecutesInside 0 insert_text (columns_of row) old new (Ok count) → StatementRan old new × AddsRow old.now new.now row
  put_done row h = (
    went_on insert_text (columns_of row) h.0 h.1,
    λ rows has free. added old.now new.now row (inserted old new row h.0 has.version_is.schema h.1.0) rows has free,
  )

  pub replace_done : (row : Row) → (count : ℕ) × ExecutesInside 0 update_text (columns_of row) old new (Ok count) → StatementRan old new × Replaces old.now new.now row
  replace_done row h = (
    went_on update_text (columns_of row) h.0 h.1,
    λ rows has there. replaced old.now new.now row (updated old new row h.0 has.version_is.schema has.table.kept h.1.0) rows has there,
  )

  pub start_done : (institution key : List ℕ) → (count : ℕ) × ExecutesInside 0 start_text (at_params Entry institution key) old new (Ok count)
      → StatementRan old new × Starts old.now new.now institution key
  start_done institution key h = (
    went_on start_text (at_params Entry institution key) h.0 h.1,
    λ rows has. begun_starts old.now new.now institution key (begins old new institution key h.0 has.version_is.schema has.table.kept h.1.0) rows has,
  )

  pub remove_done : (kind : Kind) (institution key : List ℕ) → (count : ℕ) × ExecutesInside 0 delete_text (Int (pos (number_of_kind kind)) ∷ Text institution ∷ Blob key ∷ []) old new (Ok count)
      → StatementRan old new × Removes old.now new.now kind institution key
  remove_done kind institution key h = (
    went_on delete_text (at_params kind institution key) h.0 h.1,
    λ rows has. removed old.now new.now kind institution key (deleted old new kind institution key h.0 has.version_is.schema has.table.kept h.1.0) rows has,
  )
