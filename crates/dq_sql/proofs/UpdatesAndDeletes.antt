-- What UPDATE and DELETE make of the tables.
use Rattle.std.proofs.Common.{◌≡◌, ℕ, ℤ, pos, List, [], ◌∷◌, map, drop, true, None, Ok, filter, refl, ap, subst, ◌∙◌, arith}
use Rattle.std.specs.List.{AllByRecursion}
use Rattle.std.specs.List.Sorted.{IsPermutation}
use Rattle.sqlite_value.specs.declared.value.Value.TheVariants.{Null, Int, Text, Blob}
use Rattle.sqlite_value.specs.Order.{Row as Values}
use Rattle.sqlite_trees.specs.Tree.{Trees, rowid}
use Rattle.sqlite_sql.specs.Term.{Term, eval_all, col}
use Rattle.sqlite_schema.specs.declared.schema.Keys.TheVariants.{Enforced}
use Rattle.sqlite_schema.specs.declared.command.Command.TheVariants.{Update, Delete}
use Rattle.sqlite_rules.specs.declared.error.Rowids.TheVariants.{Given}
use Rattle.sqlite_rules.specs.Cast.{cast_row}
use Rattle.sqlite_rules.specs.Calls.{ids_of}
use Rattle.sqlite_rules.specs.Edit.{Edit, edit_of, without_all, put_all, are_fresh, Applies}
use Rattle.sqlite_rules.proofs.PlaceLemmas.{given}
use Rattle.sqlite.specs.Effect.{Database, IsDatabase}
use Rattle.sqlite.specs.Rows.{Written}
use Rattle.sqlite.specs.Does.{Tally, Does}
use Rattle.sqlite.specs.Listing.{understood}
use Rattle.sqlite.specs.State.{State, mode_of, Executes}
use Rattle.sqlite.proofs.Callers.{IsPlain, command_of, statement_of, runs_as, one_step}
use Rattle.dq_tables.specs.declared.row.Kind.{Kind}
use Rattle.dq_tables.specs.declared.row.Kind.TheVariants.{Entry}
use Rattle.dq_tables.specs.declared.row.Row.{Row}
use Rattle.dq_tables.specs.Rows.{RowPlace, place, row_place_of, number_of_kind}
use Rattle.dq_sql.specs.declared.version.Version.TheVariants.{Two}
use Rattle.dq_sql.specs.Schema.{schema_of, kept_schema, kept_table}
use Rattle.dq_sql.specs.Cells.{columns_of}
use Rattle.dq_sql.specs.Tie.{IsKeptRow}
use Rattle.dq_sql.proofs.Statements.{update_text, start_text, delete_text, selecting, changed, begun, update_is, start_is, delete_is, update_plain, start_plain, delete_plain}
use Rattle.dq_sql.proofs.Inserts.{went, same_value}
use Rattle.dq_sql.proofs.RowsByPlace.{holds_at, selected}

-- rows are taken out by their rowids, and rows are put in
pub record Edits (d e : Database) (ids : List ℤ) (news : List Values) : Type 0 where
  pub schema : e.schema ≡ kept_schema
  pub database : IsDatabase e
  pub rows : e.trees 0 ≡ put_all (without_all (d.trees 0) ids) news
  pub fresh : are_fresh (without_all (d.trees 0) ids) news ≡ true
  pub version : e.trees 2 ≡ d.trees 2

-- the parameters of a statement on the row at a place
abbrev pub at_params : Kind → List ℕ → List ℕ → Values
at_params kind institution key = Int (pos (number_of_kind kind)) ∷ Text institution ∷ Blob key ∷ []

-- The rows that DELETE finds are taken out.
pub record Deleted (d e : Database) (kind : Kind) (institution key : List ℕ) : Type 0 where
  pub found : List Values
  pub shown : IsPermutation (map (λ r. rowid r ∷ []) (filter (holds_at (place kind institution key)) (d.trees 0))) found
  pub edits : Edits d e (ids_of found) []

pub deleted : (old new : State) (kind : Kind) (institution key : List ℕ) (count : ℕ) → old.now.schema ≡ kept_schema → AllByRecursion IsKeptRow (old.now.trees 0)
    → Executes delete_text (at_params kind institution key) old new (Ok count) → Deleted old.now new.now kind institution key
unfolding schema_of
deleted old new kind institution key count has kept h =
    let params = at_params kind institution key in
    let db = old.now.trees in
    let command = Delete 0 (record { lets = []; body = selecting (col 1 0 ∷ []) }) in
    let w = runs_as delete_text params old new kept_schema has command delete_is delete_plain count h in
    let text = statement_of delete_text (understood kept_schema delete_text) in
    let done = went (subst (λ s. Does old.step_limit (mode_of old) params (record old.now { schema = s }) text None command (Ok (w.tally, new.now))) has w.changed) in
    let now = ap (λ (p : Tally × Database). p.1) (same_value (went (went done.2).2).2) in
    let found = went done.1 in
    let written = went found.2 in
    let trees : done.0.trees ≡ written.0 = ap (λ (it : Written). it.trees) (same_value written.2) in
    let applied = one_step kept_schema Enforced db written.0 (edit_of db (kept_table Two) (ids_of found.0) Given 0 []) refl written.1 in
    record {
      found = found.0;
      shown = selected kind institution key [] (col 1 0 ∷ []) db found.0 kept (found.1.answer Null);
      edits = record {
        schema = ap (λ (d : Database). d.schema) now;
        database = w.sound;
        rows = ap (λ (d : Database). d.trees 0) now ∙ ap (λ (t : Trees). t 0) trees ∙ applied.rows;
        fresh = refl;
        version = ap (λ (d : Database). d.trees 2) now ∙ ap (λ (t : Trees). t 2) trees ∙ applied.tables.1.0 (λ e. absurd (omega arith));
      };
    }

-- The rows that UPDATE finds are taken out, and put in with their new columns.
pub record Updated (d e : Database) (p : RowPlace) (params : Values) (project : List Term) : Type 0 where
  pub found : List Values
  pub shown : IsPermutation (map (λ r. eval_all project (params ∷ r ∷ [])) (filter (holds_at p) (d.trees 0))) found
  pub edits : Edits d e (ids_of found) (map (λ s. cast_row (kept_table Two) (drop 1 s)) found)

updated_by : (text : List ℕ) (project : List Term) → command_of (understood kept_schema text) ≡ Update 0 (record { lets = []; body = selecting project })
    → IsPlain (understood kept_schema text) → (kind : Kind) (institution key : List ℕ) (more : Values) (old new : State) (count : ℕ) → old.now.schema ≡ kept_schema
    → AllByRecursion IsKeptRow (old.now.trees 0) → Executes text (Int (pos (number_of_kind kind)) ∷ Text institution ∷ Blob key ∷ more) old new (Ok count)
    → Updated old.now new.now (place kind institution key) (Int (pos (number_of_kind kind)) ∷ Text institution ∷ Blob key ∷ more) project
unfolding schema_of
updated_by sql project is plain kind institution key more old new count has kept h =
    let params : Values = Int (pos (number_of_kind kind)) ∷ Text institution ∷ Blob key ∷ more in
    let db = old.now.trees in
    let command = Update 0 (record { lets = []; body = selecting project }) in
    let w = runs_as sql params old new kept_schema has command is plain count h in
    let text = statement_of sql (understood kept_schema sql) in
    let done = went (subst (λ s. Does old.step_limit (mode_of old) params (record old.now { schema = s }) text None command (Ok (w.tally, new.now))) has w.changed) in
    let now = ap (λ (p : Tally × Database). p.1) (same_value (went (went done.2).2).2) in
    let found = went done.1 in
    let written = went found.2 in
    let trees : done.0.trees ≡ written.0 = ap (λ (it : Written). it.trees) (same_value written.2) in
    let made : Edit = edit_of db (kept_table Two) (ids_of found.0) Given 1 found.0 in
    let wanted : Edit = record { table = kept_table Two; gone = ids_of found.0; news = map (λ s. cast_row (kept_table Two) (drop 1 s)) found.0 } in
    let news : made ≡ wanted = ap (λ rows. let edit : Edit = record { table = kept_table Two; gone = ids_of found.0; news = rows } in edit) (given _ _) in
    let applied = subst (λ edit. Applies kept_schema Enforced db edit written.0) news (one_step kept_schema Enforced db written.0 made refl written.1) in
    record {
      found = found.0;
      shown = selected kind institution key more project db found.0 kept (found.1.answer Null);
      edits = record {
        schema = ap (λ (d : Database). d.schema) now;
        database = w.sound;
        rows = ap (λ (d : Database). d.trees 0) now ∙ ap (λ (t : Trees). t 0) trees ∙ applied.rows;
        fresh = applied.fresh;
        version = ap (λ (d : Database). d.trees 2) now ∙ ap (λ (t : Trees). t 2) trees ∙ applied.tables.1.0 (λ e. absurd (omega arith));
      };
    }

pub updated : (old new : State) (row : Row) (count : ℕ) → old.now.schema ≡ kept_schema → AllByRecursion IsKeptRow (old.now.trees 0)
    → Executes update_text (columns_of row) old new (Ok count) → Updated old.now new.now (row_place_of row) (columns_of row) changed
updated old new row = updated_by update_text changed update_is update_plain row.kind row.inst row.key _ old new

pub begins : (old new : State) (institution key : List ℕ) (count : ℕ) → old.now.schema ≡ kept_schema → AllByRecursion IsKeptRow (old.now.trees 0)
    → Executes start_text (at_params Entry institution key) old new (Ok count)
    → Updated old.now new.now (place Entry institution key) (at_params Entry institution key) begun
begins old new institution key = updated_by start_text begun start_is start_plain Entry institution key [] old new
