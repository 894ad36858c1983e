-- What each statement that makes a store makes of the database.
use Rattle.std.proofs.Common.{◌≡◌, ◌≢◌, IsTrue, OnOk, arith, ◌⊎◌, inl, inr, ℕ, List, [], ◌∷◌, ◌++◌, map, Bool, false, true, None, Ok, Err, Result, refl, sym, ap, subst, ◌∙◌, cond, pos}
use Rattle.sqlite.specs.declared.types.Value.TheVariants.{Int, Null}
use Rattle.sqlite.specs.Ops.{unary}
use Rattle.sqlite.specs.Source.TheVariants.{Values}
use Rattle.sqlite.specs.Command.TheVariants.{Insert, CreateTable, CreateIndex}
use Rattle.sqlite.specs.Tree.{Trees}
use Rattle.sqlite.specs.Edit.{edit_of, edited}
use Rattle.sqlite.specs.Cast.{cast}
use Rattle.sqlite.specs.Rowids.TheVariants.{Chosen}
use Rattle.sqlite.specs.Kind.TheVariants.{Integer}
use Rattle.sqlite.specs.Change.{created, indexed, next_tree}
use Rattle.sqlite_catalog.specs.Change.{KeepsRows}
use Rattle.sqlite_schema.specs.declared.schema.Index.{Index}
use Rattle.sqlite_schema.specs.declared.schema.Schema.{Schema}
use Rattle.sqlite_value.specs.declared.value.Value.{Value}
use Rattle.sqlite_value.specs.Order.{Row, column}
use Rattle.sqlite.specs.Does.{Tally, Does, lacks_sequence}
use Rattle.sqlite.specs.Rows.{Written}
use Rattle.sqlite.specs.Effect.{Database}
use Rattle.sqlite.specs.Listing.{understood}
use Rattle.sqlite.specs.declared.error.Error.{Error}
use Rattle.std.proofs.lemmas.Bool.{cases_Bool}
use Rattle.std.proofs.lemmas.List.Sorted.{IsPermutation-refl}
use Rattle.sqlite.specs.State.{State, mode_of, Writes, ExecutesInside, KeepsCommit, IsUnchanged}
use Rattle.std.specs.List.{IsDistinct}
use Rattle.dq_tables.specs.Rows.{IsRising}
use Rattle.dq_sql.specs.Tie.{HasRows}
use Rattle.sqlite.proofs.Callers.{statement_of, runs_as, one_step}
use Rattle.dq_sql.specs.declared.version.Version.TheVariants.{Two}
use Rattle.dq_sql.specs.Schema.{schema_of, kept_table, version_table, above_index, patient_index, day_index, started_index, kept_schema}
use Rattle.dq_sql.specs.SchemaCreation.{no_schema, with_kept, with_indexes, MakesKept, MakesVersion, TakesSchema, MakesIndex, MakesIndexes, SaysVersion, StoreGoesOn}
use Rattle.dq_sql.proofs.Texts.{kept_text, version_text, number_text, number_terms, MakesIt, kept_is, version_is, number_is, both_made, all_made, kept_plain, version_plain, number_plain}

-- a part that gave a value did not stop on the way
went : {B E R : Type 0} {b : B} {Stops : E → Type 0} → ((stop : E) × Stops stop × (Ok b ≡ Err stop)) ⊎ R → R
went (inl stopped) = absurd (let e = stopped.2 in cc)
went (inr on) = on

same_value : {B E : Type 0} {a b : B} → ◌≡◌ {A = Result B E} (Ok a) (Ok b) → a ≡ b
same_value e = cc

pub makes_kept : (old new : State) (count : ℕ) → ExecutesInside 0 kept_text [] old new (Ok count) → MakesKept old.now new.now
makes_kept old new count h has =
    let w = subst (λ t. Writes old new None CreateTable t [] count) kept_is.1 (runs_as kept_text [] old new no_schema has CreateTable kept_is.0 kept_plain count h.0) in
    let all = went w.changed in
    let first = went all.1 in
    let made = first.1 in
    let both : Ok made.table ≡ Ok (kept_table Two) = sym made.defined ∙ kept_is.2 in
    let same : made.table ≡ (kept_table Two) = cc in
    let schema : first.0.schema ≡ with_kept = made.is ∙ ap (λ s. created s made.table) has ∙ ap (created no_schema) same in
    let plain : lacks_sequence first.0.schema ≡ false = ap lacks_sequence schema in
    let now : new.now ≡ first.0 = ap (λ (p : Tally × Database). p.1) (same_value all.2) ∙ same_value (rw plain at first.2) in
    (ap (λ (d : Database). d.schema) now ∙ schema, ap (λ (d : Database). d.trees 0) now ∙ subst (λ s. first.0.trees (next_tree s) ≡ []) has made.empty)

pub makes_version : (old new : State) (count : ℕ) → ExecutesInside 0 version_text [] old new (Ok count) → MakesVersion old.now new.now
makes_version old new count h has =
    let w = subst (λ t. Writes old new None CreateTable t [] count) version_is.1 (runs_as version_text [] old new with_kept has CreateTable version_is.0 version_plain count h.0) in
    let all = went w.changed in
    let first = went all.1 in
    let made = first.1 in
    let both : Ok made.table ≡ Ok (record version_table { tree = 0 }) = sym made.defined ∙ version_is.2 in
    let same : made.table ≡ record version_table { tree = 0 } = cc in
    let schema : first.0.schema ≡ with_indexes [] = made.is ∙ ap (λ s. created s made.table) has ∙ ap (created with_kept) same ∙ both_made in
    let plain : lacks_sequence first.0.schema ≡ false = ap lacks_sequence schema in
    let now : new.now ≡ first.0 = ap (λ (p : Tally × Database). p.1) (same_value all.2) ∙ same_value (rw plain at first.2) in
    let others = subst (λ (s : Schema). KeepsRows s.tables old.now.trees first.0.trees) has made.others in (
      ap (λ (d : Database). d.schema) now ∙ schema,
      ap (λ (d : Database). d.trees 0) now ∙ others.0,
      ap (λ (d : Database). d.trees 2) now ∙ subst (λ s. first.0.trees (next_tree s) ≡ []) has made.empty,
    )

pub makes_index : (indexes : List Index) (text : List ℕ) (index : Index) → MakesIt indexes text index → indexed (with_indexes indexes) (kept_table Two) index ≡ with_indexes (indexes ++ index ∷ [])
    → (old new : State) (count : ℕ) → ExecutesInside 0 text [] old new (Ok count) → MakesIndex indexes index old.now new.now
makes_index indexes text index it next old new count h has =
    let before = with_indexes indexes in
    let w = subst (λ t. Writes old new None (CreateIndex 0) t [] count) it.whole (runs_as text [] old new before has (CreateIndex 0) it.command it.plain count h.0) in
    let all = went (subst (λ s. Does old.step_limit (mode_of old) [] (record old.now { schema = s }) text None (CreateIndex 0) (Ok (w.tally, new.now))) has w.changed) in
    let made = all.1 in
    let both : Ok made.index ≡ Ok (record index { tree = 0 }) = sym made.defined ∙ it.defines in
    let same : made.index ≡ record index { tree = 0 } = cc in
    let schema : all.0.schema ≡ with_indexes (indexes ++ index ∷ []) = made.is ∙ ap (indexed before (kept_table Two)) same ∙ next in
    let now : new.now ≡ all.0 = ap (λ (p : Tally × Database). p.1) (same_value all.2) in
    (ap (λ (d : Database). d.schema) now ∙ schema, ap (λ (d : Database). d.trees 0) now ∙ made.rows.0, ap (λ (d : Database). d.trees 2) now ∙ made.rows.1.0)

pub then_takes : (a b c : Database) (mid schema : Schema) → TakesSchema a b mid → (b.schema ≡ mid → TakesSchema b c schema) → TakesSchema a c schema
then_takes a b c mid schema one two = let next = two one.0 in (next.0, next.1 ∙ one.1, next.2 ∙ one.2)

-- the four indexes in turn
pub makes_indexes : (a b c d e : Database) → MakesIndex [] above_index a b → MakesIndex (above_index ∷ []) patient_index b c
    → MakesIndex (above_index ∷ patient_index ∷ []) day_index c d → MakesIndex (above_index ∷ patient_index ∷ day_index ∷ []) started_index d e → MakesIndexes a e
makes_indexes a b c d e one two three four has =
    subst (TakesSchema a e) all_made (then_takes a d e _ _ (then_takes a c d _ _ (then_takes a b c _ _ (one has) two) three) four)

either : (b : Bool) (x : Value) → cond b x x ≡ x
either true x = refl
either false x = refl

cast_two : cast Integer (Int (pos 2)) ≡ Int (pos 2)
unfolding unary
cast_two = either _ (Int (pos 2))

cast_null : cast Integer Null ≡ Null
unfolding unary
cast_null = either _ Null

zero_not_two : ◌≢◌ {A = ℕ} 0 2
zero_not_two e = omega (arith, e)

pub says_version : (old new : State) (count : ℕ) → ExecutesInside 0 number_text [] old new (Ok count) → SaysVersion old.now new.now
unfolding schema_of
says_version old new count h has =
    let db = old.now.trees in
    let command = Insert 1 (Values number_terms 2) in
    let w = runs_as number_text [] old new kept_schema has command number_is number_plain count h.0 in
    let text = statement_of number_text (understood kept_schema number_text) in
    let done = went (subst (λ s. Does old.step_limit (mode_of old) [] (record old.now { schema = s }) text None command (Ok (w.tally, new.now))) has w.changed) in
    let now = ap (λ (p : Tally × Database). p.1) (same_value (went (went done.2).2).2) in
    let given = went done.1 in
    let written = went (went given.2).2 in
    let counted = went written.2 in
    let trees : done.0.trees ≡ written.0 = ap (λ (it : Written). it.trees) (same_value counted.2) ∙ same_value counted.1 in
    let edit = λ (sources : List Row). edit_of db version_table [] Chosen 0 sources in
    let step = one_step kept_schema _ db written.0 (edit given.0) refl written.1 in
    let two : db 2 ≡ [] → edited db (edit given.0) ≡ (Int (pos 1) ∷ Int (pos 2) ∷ []) ∷ [] =
    λ none. ap (λ all. edited db (edit all)) given.1.1 ∙ rw (none, cast_null, cast_two) in (
      ap (λ (d : Database). d.trees 0) now ∙ ap (λ (t : Trees). t 0) trees ∙ step.tables.0 zero_not_two,
      λ none. (
        record {
          schema = ap (λ (d : Database). d.schema) now;
          says = ap (λ (d : Database). map (λ r. column r 1) (d.trees 2)) now ∙ ap (λ (t : Trees). map (λ r. column r 1) (t 2)) trees
              ∙ ap (map (λ r. column r 1)) (step.rows ∙ two none);
        },
        w.sound,
      ),
    )

-- what a statement made that was executed inside a transaction
pub executed : {P : Type 0} {X : Type 0} (e : Error) (sql : List ℕ) (old new : State) (r : Result ℕ Error)
    → (old.in_transaction ≡ false → (r ≡ Err e) × X) → (IsTrue old.in_transaction → ExecutesInside 0 sql [] old new r)
    → ((count : ℕ) → ExecutesInside 0 sql [] old new (Ok count) → P) → OnOk r P
executed e sql old new (Err why) ended runs makes = tt
executed e sql old new (Ok count) ended runs makes = elim (cases_Bool old.in_transaction) [
  | inl inside ↦ makes count (runs inside)
  | inr outside ↦ absurd (let no = (ended outside).0 in cc)
]

-- What such a statement leaves of the last commit, also where it fails.
pub keeps_commit : {X : Type 0} (e : Error) (sql : List ℕ) (old new : State) (r : Result ℕ Error)
    → (old.in_transaction ≡ false → (r ≡ Err e) × X) → (X → KeepsCommit old new)
    → (IsTrue old.in_transaction → ExecutesInside 0 sql [] old new r) → KeepsCommit old new
keeps_commit e sql old new r ended same runs = elim (cases_Bool old.in_transaction) [
  | inl inside ↦ left r (runs inside)
  | inr outside ↦ same (ended outside).1
]
  where
    unchanged : IsUnchanged old new → KeepsCommit old new
    unchanged h = record { was_open = λ _. h.0.was_open; committed = λ _. h.0.committed_is }

    left : (r : Result ℕ Error) → ExecutesInside 0 sql [] old new r → KeepsCommit old new
    left (Ok count) h = record { was_open = λ _. h.1.was_open; committed = λ _. h.1.committed_is }
    left (Err why) (inl h) = elim h.1 [
      | inl same ↦ unchanged same
      | inr back ↦ record { was_open = back.was_open; committed = λ up. (back.undone up).1 }
    ]
    left (Err why) (inr h) = unchanged h.2

pub keeps_then : (a b c : State) → KeepsCommit a b → KeepsCommit b c → KeepsCommit a c
keeps_then a b c one two = record {
  was_open = λ up. one.was_open (two.was_open up);
  committed = λ up. two.committed up ∙ one.committed (two.was_open up);
}

-- the tables, the indexes and the version in turn
pub whole_store : (a b c d e : Database) → MakesKept a b → MakesVersion b c → MakesIndexes c d → SaysVersion d e → a.schema ≡ no_schema → HasRows e []
unfolding IsRising IsDistinct
whole_store a b c d e one two three four has =
    let kept = one has in
    let version = two kept.0 in
    let index = three version.0 in
    let said = four index.0 in
    let none : e.trees 0 ≡ [] = said.0 ∙ (index.1 ∙ (version.1 ∙ kept.1)) in
    record {
      version_is = (said.1 (index.2 ∙ version.2)).0;
      database = (said.1 (index.2 ∙ version.2)).1;
      table = record {
        apart = rw none tt;
        ids = rw none tt;
        kept = rw none tt;
        same = rw none (IsPermutation-refl []);
        rising = tt;
      };
    }

pub keeps_itself : (s : State) → KeepsCommit s s
keeps_itself s = record { was_open = λ up. up; committed = λ up. refl }
