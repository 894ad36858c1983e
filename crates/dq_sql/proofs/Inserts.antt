-- What INSERT makes of the tables.
use Rattle.std.proofs.Common.{◌≡◌, ◌⊎◌, inl, inr, ℕ, [], ◌∷◌, Bool, true, false, not, ◌&&◌, cond, Some, None, Ok, Err, Result, refl, ap, subst, ◌∙◌, arith}
use Rattle.sqlite_value.specs.declared.value.Value.{Value}
use Rattle.sqlite_value.specs.declared.value.Value.TheVariants.{Null, Int}
use Rattle.sqlite_value.specs.Order.{Row as Values}
use Rattle.sqlite_trees.specs.Tree.{Trees, put_row}
use Rattle.sqlite_sql.specs.Ops.{unary}
use Rattle.sqlite_schema.specs.declared.schema.Keys.TheVariants.{Enforced}
use Rattle.sqlite_schema.specs.declared.schema.Kind.TheVariants.{Integer}
use Rattle.sqlite_schema.specs.declared.command.Source.TheVariants.{Values as Listed}
use Rattle.sqlite_schema.specs.declared.command.Command.TheVariants.{Insert}
use Rattle.sqlite_rules.specs.declared.error.Rowids.TheVariants.{Chosen}
use Rattle.sqlite_rules.specs.Cast.{cast}
use Rattle.sqlite_rules.specs.Edit.{Edit, edit_of, is_taken, next_rowid, Applies}
use Rattle.sqlite.specs.Effect.{Database, IsDatabase}
use Rattle.sqlite.specs.Rows.{Written}
use Rattle.sqlite.specs.Does.{Tally, Does}
use Rattle.sqlite.specs.Listing.{understood}
use Rattle.sqlite.specs.State.{State, mode_of, Executes}
use Rattle.sqlite.proofs.Callers.{statement_of, runs_as, one_step}
use Rattle.dq_tables.specs.declared.row.Row.{Row}
use Rattle.dq_sql.specs.declared.version.Version.TheVariants.{Two}
use Rattle.dq_sql.specs.Schema.{schema_of, kept_schema, kept_table}
use Rattle.sqlite.specs.Values.{or_null}
use Rattle.dq_sql.specs.Cells.{day_cell, columns_of}
use Rattle.dq_sql.proofs.Statements.{insert_text, terms, insert_is, insert_plain}

either : (b : Bool) (x : Value) → cond b x x ≡ x
either true x = refl
either false x = refl

pub cast-Null : cast Integer Null ≡ Null
unfolding unary
cast-Null = either _ Null

pub cast-Int : (n : _) → cast Integer (Int n) ≡ Int n
unfolding unary
cast-Int n = either _ (Int n)

cast-day : (o : _) → cast Integer (or_null Int o) ≡ or_null Int o
cast-day None = cast-Null
cast-day (Some day) = cast-Int day

-- a part that gave a value did not stop on the way
pub went : {B E R : Type 0} {b : B} {Stops : E → Type 0} → ((stop : E) × Stops stop × (Ok b ≡ Err stop)) ⊎ R → R
went (inl stopped) = absurd (let e = stopped.2 in cc)
went (inr on) = on

pub same_value : {B E : Type 0} {a b : B} → ◌≡◌ {A = Result B E} (Ok a) (Ok b) → a ≡ b
same_value e = cc

-- a row with a rowid that none has is put in
pub record Inserted (d e : Database) (r : Values) : Type 0 where
  pub schema : e.schema ≡ kept_schema
  pub database : IsDatabase e
  pub rows : e.trees 0 ≡ put_row r (d.trees 0)
  pub fresh : is_taken (d.trees 0) r ≡ false
  pub version : e.trees 2 ≡ d.trees 2

abbrev pub numbered_cells : Database → Row → Values
numbered_cells d row = Int (next_rowid (d.trees 0)) ∷ columns_of row

pub not_so : (b : Bool) → (not b && true) ≡ true → b ≡ false
not_so true h = absurd cc
not_so false h = refl

pub day_cast : (row : Row) → cast Integer (day_cell row) ≡ day_cell row
unfolding day_cell
day_cast row = cast-day _

pub inserted : (old new : State) (row : Row) (count : ℕ) → old.now.schema ≡ kept_schema → Executes insert_text (columns_of row) old new (Ok count)
    → Inserted old.now new.now (numbered_cells old.now row)
unfolding schema_of
inserted old new row count has h =
    let params = columns_of row in
    let db = old.now.trees in
    let command = Insert 0 (Listed terms 9) in
    let w = runs_as insert_text params old new kept_schema has command insert_is insert_plain count h in
    let text = statement_of insert_text (understood kept_schema insert_text) in
    let done = went (subst (λ s. Does old.step_limit (mode_of old) params (record old.now { schema = s }) text None command (Ok (w.tally, new.now))) has w.changed) in
    let now = ap (λ (p : Tally × Database). p.1) (same_value (went (went done.2).2).2) in
    let given = went done.1 in
    let written = went (went given.2).2 in
    let counted = went written.2 in
    let trees : done.0.trees ≡ written.0 = ap (λ (it : Written). it.trees) (same_value counted.2) ∙ same_value counted.1 in
    let made : Edit = edit_of db (kept_table Two) [] Chosen 0 given.0 in
    let applied = one_step kept_schema _ db written.0 made refl written.1 in
    let put = numbered_cells old.now row in
    let wanted : Edit = record { table = (kept_table Two); gone = []; news = put ∷ [] } in
    let news : made ≡ wanted =
    ap (λ all. edit_of db (kept_table Two) [] Chosen 0 all) given.1.1 ∙ rw (cast-Null, cast-Int, cast-Int, day_cast row) refl in
    let applied = subst (λ edit. Applies kept_schema Enforced db edit written.0) news (one_step kept_schema Enforced db written.0 made refl written.1) in
    record {
      schema = ap (λ (d : Database). d.schema) now;
      database = w.sound;
      rows = ap (λ (d : Database). d.trees 0) now ∙ ap (λ (t : Trees). t 0) trees ∙ applied.rows;
      fresh = not_so (is_taken (db 0) put) applied.fresh;
      version = ap (λ (d : Database). d.trees 2) now ∙ ap (λ (t : Trees). t 2) trees ∙ applied.tables.1.0 (λ e. absurd (omega arith));
    }
