-- What is found in files that hold rows.
use Rattle.std.proofs.Common.{◌≡◌, ℕ, List, Result, Ok, Err, IfOk, refl, sym, ap, subst, ◌∙◌, arith}
use Rattle.std.proofs.lemmas.List.Sorted.{IsPermutation-sym, IsPermutation-trans}
use Rattle.sqlite_schema.specs.declared.schema.Schema.{Schema}
use Rattle.sqlite_trees.specs.Tree.{Trees}
use Rattle.sqlite_wal.specs.Recovery.{Image}
use Rattle.sqlite.specs.Effect.{Database}
use Rattle.sqlite.specs.Start.{FindsIn}
use Rattle.sqlite.specs.State.{State, HasCleanDisk, IsLive, Opens}
use Rattle.dq_tables.specs.declared.row.Row.{Row}
use Rattle.dq_tables.specs.Sound.{IsSound}
use Rattle.dq_tables.proofs.OneOrder.{one_order}
use Rattle.dq_sql.specs.declared.version.Version.{Version}
use Rattle.dq_sql.specs.declared.version.Version.TheVariants.{One, Two}
use Rattle.dq_sql.specs.StoreCopies.{copied_rows, IsCopyOf}
use Rattle.dq_sql.specs.MigratedRows.{migrated_rows}
use Rattle.dq_sql.specs.Migration.{IsMigrated}
use Rattle.dq_sql.specs.Restarts.{ImageHoldsRows, IsReopened}
use Rattle.dq_sql.specs.Schema.{schema_of}
use Rattle.dq_sql.specs.Tie.{HasRowsOf, Stays}
use Rattle.dq_sql.proofs.OneSchema.{one_schema}
use Rattle.dq_keepers.specs.Contents.{HoldsRowsOf, ShowsRowsOf}

-- What two facts of a success show is so of it.
pub both : {A E : Type 0} (P Q R : A → Type 0) → ((a : A) → P a → Q a → R a) → (r : Result A E) → IfOk r P → IfOk r Q → IfOk r R
both P Q R f (Ok a) p q = f a p q
both P Q R f (Err e) p q = tt

-- An open of files that hold rows shows them.
pub shows : (version : Version) (image : Image) (s : State) (rows : List Row) → Opens s → IsLive s → FindsIn image s
    → HoldsRowsOf version image rows → ShowsRowsOf version s rows
unfolding schema_of
shows version image s rows opens live found held =
    let trees : s.now.trees ≡ held.trees = ap (λ (d : Database). d.trees) opens.clean ∙ found.holds held.trees held.holds in
    let has : HasRowsOf version (record { schema = schema_of version; trees = s.now.trees }) rows =
    subst (λ (t : Trees). HasRowsOf version (record { schema = schema_of version; trees = t }) rows) (sym trees) held.has in
    let schema : schema_of version ≡ s.now.schema = one_schema s.now.trees (schema_of version) s.now.schema refl has.database (live opens.is_open).0 in
    record {
      opens = opens;
      has = subst (λ (x : Schema). let d : Database = record { schema = x; trees = s.now.trees } in HasRowsOf version d rows) schema has;
      sound = held.sound;
    }

-- Files that a crash left hold a store of version 2.
pub held_now : {image : Image} {rows : List Row} → ImageHoldsRows image rows → IsSound rows → HoldsRowsOf Two image rows
held_now held sound = record { trees = held.trees; holds = held.holds; has = held.has; sound = sound }

-- A store that shows rows of version 2 was opened again.
pub reopened : (s : State) (rows : List Row) → ShowsRowsOf Two s rows → IsReopened s rows
reopened s rows it = record {
  opens = it.opens;
  has = subst (λ (x : Schema). let d : Database = record { schema = x; trees = s.now.trees } in HasRowsOf Two d rows) it.has.version_is.schema it.has;
  sound = it.sound;
}

-- A database has one list of rows of a version.
one_list : (version : Version) (d : Database) (xs ys : List Row) → HasRowsOf version d xs → HasRowsOf version d ys → xs ≡ ys
one_list version d xs ys p q =
    one_order xs ys p.table.rising q.table.rising
    (IsPermutation-trans _ _ _ (IsPermutation-sym _ _ p.table.same) q.table.same)

module _ (old new : State) (stays : Stays old new) (clean : HasCleanDisk new) (rows kept : List Row) where
  was_clean : HasCleanDisk old
  was_clean = omega (arith, stays.survives.clean)

  -- The rows of a copy are those of a store that shows rows.
  pub copied : (names : List (List ℕ)) → (HasCleanDisk old → ShowsRowsOf Two old rows) → (HasCleanDisk new → IsCopyOf names old kept)
      → kept ≡ copied_rows names rows
  copied names shown made =
      let it = made clean in
      it.is ∙ ap (copied_rows names) (one_list Two old.now it.kept rows it.found.has (shown was_clean).has)

  -- So are those of a migration.
  pub migrated : (HasCleanDisk old → ShowsRowsOf One old rows) → (HasCleanDisk new → IsMigrated old kept) → kept ≡ migrated_rows rows
  migrated shown made =
      let it = made clean in
      it.is ∙ ap migrated_rows (one_list One old.now it.kept rows it.found.has (shown was_clean).has)
