-- What tables over a store keep that is found.
use Rattle.std.proofs.Common.{◌≡◌, false, List, IsTrue, Result, Ok, Err, IfErr, inl, inr, sym, ap, subst, ◌∙◌}
use Rattle.std.specs.Prelude.{IsErrAnd}
use Rattle.sqlite_trees.specs.Tree.{Trees}
use Rattle.sqlite.specs.Effect.{Database}
use Rattle.sqlite.specs.State.{State, HasCleanDisk}
use Rattle.dq_tables.specs.declared.row.Row.{Row}
use Rattle.dq_sql.specs.declared.fault.StoreFault.{StoreFault}
use Rattle.dq_sql.specs.declared.version.Version.{Version}
use Rattle.dq_sql.specs.declared.version.Version.TheVariants.{Two}
use Rattle.dq_sql.specs.Tie.{HasRows, IsOfVersion, Stays}
use Rattle.dq_sql.specs.KeptRows.{under_schema, MayLeave, KeepsSoundRows}
use Rattle.dq_sql.specs.OneContent.{one_list}
use Rattle.dq_sql.specs.FoundStores.{IsFound, ShowsAnother}
use Rattle.dq_sql.proofs.ReadRows.{shows_versions}
use Rattle.dq_sql.proofs.SoundStores.{version_told}

-- trees that are those of a database with rows have the rows
under : (d : Database) (trees : Trees) (rows : List Row) → HasRows d rows → trees ≡ d.trees → HasRows (under_schema trees) rows
under d trees rows has same =
    subst (λ t. HasRows (under_schema t) rows) (sym same)
    (subst (λ s. let x : Database = record { schema = s; trees = d.trees } in HasRows x rows) has.version_is.schema has)

-- while a store is open, a crash leaves what it committed
abbrev pub LeavesCommit : State → Type 0
LeavesCommit s = (db : Trees) → IsTrue s.is_open → s.may_leave db → db ≡ s.committed.trees

left_has : (s : State) (rows : List Row) → LeavesCommit s → IsTrue s.is_open → HasRows s.now rows → s.now ≡ s.committed → (trees : Trees)
    → s.may_leave trees → HasRows (under_schema trees) rows
left_has s rows law live has same trees left =
    under s.now trees rows has (law trees live left ∙ ap (λ (d : Database). d.trees) (sym same))

found_left : (a b : State) (rows : List Row) → LeavesCommit a → IsFound Two a rows → Stays a b → HasCleanDisk b → (trees : Trees) → b.may_leave trees
    → HasRows (under_schema trees) rows
found_left a b rows law found stays clean trees left = elim (stays.survives.crash clean trees left) [
  | inl before ↦ left_has a rows law found.is_open found.has (found.rest.settled found.is_open) trees before
  | inr none ↦ absurd none
]

pub found_keeps : (a b : State) (rows : List Row) → LeavesCommit a → IsFound Two a rows → Stays a b → HasCleanDisk b → KeepsSoundRows b rows
found_keeps a b rows law found stays clean = record {
  sound = found.sound;
  has = λ live. subst (λ (d : Database). HasRows d rows) (sym (stays.same clean live found.rest).now) found.has;
  settled = λ live.
      let same = stays.same clean live found.rest in same.now ∙ (found.rest.settled same.was_open ∙ sym same.committed);
  left = λ trees left. record { rows = rows; has = found_left a b rows law found stays clean trees left; sound = found.sound };
}

pub found_settled : (a b : State) (rows : List Row) → LeavesCommit a → IsFound Two a rows → Stays a b → HasCleanDisk b → (r : List Row) → MayLeave b r → r ≡ rows
found_settled a b rows law found stays clean r left =
    one_list (under_schema left.trees) r rows left.has (found_left a b rows law found stays clean left.trees left.left)

-- A store that shows another number is not of the version.
pub another_is_not : (version : Version) (found left : State) → ShowsAnother version found left → ¬ IsOfVersion version found.now
another_is_not version found left it is =
    version_told version found it.numbers is.schema (shows_versions found left it.numbers it.shown version) false it.other is
