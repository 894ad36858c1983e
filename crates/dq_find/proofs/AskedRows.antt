-- The rows of a level, behind a key, are the records that are asked for.
use Rattle.std.proofs.Common.{◌≡◌, ℕ, true, List, [], ◌∷◌, Option, map, filter, take, refl, sym, ap, ◌∙◌}
use Rattle.dq_vr.specs.Tags as tags
use Rattle.dq_dataset.specs.Tree.{ElementList}
use Rattle.dq_tables.specs.declared.row.Kind.{Kind}
use Rattle.dq_tables.specs.declared.row.Kind.TheVariants.{Study as StudyKind, Series as SeriesKind, Image as ImageKind}
use Rattle.dq_tables.specs.declared.row.Row.{Row}
use Rattle.dq_tables.specs.Rows.{Record, row_of}
use Rattle.dq_tables.specs.Lookups.{records_of, records_above}
use Rattle.dq_find.specs.declared.level.Level.{Level}
use Rattle.dq_find.specs.declared.level.Level.TheVariants.{Study, Series, Image}
use Rattle.dq_find.specs.declared.query.Query.{Query}
use Rattle.dq_find.specs.Queries.{key_above, records_asked, asked_records, records_behind}

-- of other levels than that of studies all are looked at
pub kept_all : (records : List Record) → filter (λ (r : Record). true) records ≡ records
kept_all [] = refl
kept_all (r ∷ records) = ap (λ (others : List Record). r ∷ others) (kept_all records)

-- at the level of studies all studies are asked for
pub studies_asked : (records : List Record) (query : Query) → query.level ≡ Study → records_of StudyKind records ≡ asked_records records query
unfolding records_asked
studies_asked records query is = ap (λ (l : Level). records_asked records l query.keys) (sym is)

module _ (institution : List ℕ) (records : List Record) (level : Level) (keys : ElementList) (after : Option (List ℕ)) (most : ℕ) where
  abbrev rows_asked : Level → List Row
  rows_asked l = map (row_of institution) (take most (records_behind after (records_asked records l keys)))

  abbrev rows_under : Kind → List ℕ → List Row
  rows_under kind above = map (row_of institution) (take most (records_behind after (records_above kind above records)))

  pub asked_studies : level ≡ Study → map (row_of institution) (take most (records_behind after (records_of StudyKind records))) ≡ rows_asked level
  unfolding records_asked
  asked_studies is = ap rows_asked (sym is)

  pub asked_series : (above : List ℕ) → level ≡ Series → above ≡ key_above tags.study_instance_uid keys → rows_under SeriesKind above ≡ rows_asked level
  unfolding records_asked
  asked_series above is same = ap (rows_under SeriesKind) same ∙ ap rows_asked (sym is)

  pub asked_images : (above : List ℕ) → level ≡ Image → above ≡ key_above tags.series_instance_uid keys → rows_under ImageKind above ≡ rows_asked level
  unfolding records_asked
  asked_images above is same = ap (rows_under ImageKind) same ∙ ap rows_asked (sym is)
