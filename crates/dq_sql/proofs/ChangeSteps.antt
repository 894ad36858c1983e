-- What a change is made of.
use Rattle.std.proofs.Common.{◌≡◌, ℕ, List, true, Option, None, Some, sym, subst}
use Rattle.std.specs.Option.{is_some}
use Rattle.sqlite.specs.Effect.{Database}
use Rattle.dq_tables.specs.declared.row.Kind.{Kind}
use Rattle.dq_tables.specs.declared.row.Kind.TheVariants.{Study, Series, Image, Step}
use Rattle.dq_tables.specs.declared.row.Row.{Row}
use Rattle.dq_tables.specs.declared.change.Change.TheVariants.{Stored, StepAdded, StepChanged}
use Rattle.dq_tables.specs.Rows.{after_edit, after_edits, put_if, Put, record_of, IsOf}
use Rattle.dq_tables.specs.Lookups.{row_at}
use Rattle.dq_tables.specs.Sound.{IsNew, IsNewIf}
use Rattle.dq_tables.proofs.Soundness.{stored_is}
use Rattle.dq_sql.specs.Tie.{HasRows}
use Rattle.dq_sql.specs.RowWrites.{AddsRow, AddsIf, Replaces, StartsEach, MakesChange}

pub free_place : (rows : List Row) (kind : Kind) (row : Row) → IsNew rows kind row → row_at row.kind row.inst row.key rows ≡ None
free_place rows kind row new = subst (λ (k : Kind). row_at k row.inst row.key rows ≡ None) (sym new.kind_is) new.free

added_if : (d e : Database) (kind : Kind) (h : List ℕ) (row : Option Row) (rows : List Row) → AddsIf d e row → HasRows d rows → IsOf h row → IsNewIf rows kind row
    → HasRows e (after_edits h (put_if row) rows)
added_if d e kind h None rows same has own new = subst (λ (x : Database). HasRows x rows) (sym same) has
added_if d e kind h (Some row) rows adds has own new =
    subst (λ (g : List ℕ). HasRows e (after_edit g (Put (record_of row)) rows)) own (adds rows has (free_place rows kind row new))

module _ (d : Database) where
  pub stored_made : (d1 d2 e : Database) (study series : Option Row) (image : Row) → AddsIf d d1 study → AddsIf d1 d2 series → AddsRow d2 e image
      → MakesChange d e (Stored study series image)
  stored_made d1 d2 e study series image first second third rows has fits =
      let h = image.inst in
      let has1 = added_if d d1 Study h study rows first has fits.study_of fits.study_new in
      let has2 = added_if d1 d2 Series h series (after_edits h (put_if study) rows) second has1 fits.series_of fits.series_new in
      let more = after_edits h (put_if series) (after_edits h (put_if study) rows) in
      subst (HasRows e) (sym (stored_is rows study series image)) (third more has2 (free_place more Image image fits.image_new))

  pub step_made : (e f : Database) (row : Row) (keys : List (List ℕ)) → AddsRow d e row → StartsEach e f row.inst keys → MakesChange d f (StepAdded row keys)
  step_made e f row keys adds starts rows has fits =
      starts (after_edit row.inst (Put (record_of row)) rows) (adds rows has (free_place rows Step row fits.step_new))
