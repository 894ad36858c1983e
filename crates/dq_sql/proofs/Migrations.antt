-- What a migration leaves of two stores.
use Rattle.std.proofs.Common.{◌≡◌, ap, ◌⊎◌, inl, inr, false, List, IsTrue, Result, Ok, Err, IfErr, refl, sym, ◌∙◌, arith}
use Rattle.std.specs.Prelude.{IsErrAnd}
use Rattle.sqlite_trees.specs.Tree.{Trees}
use Rattle.sqlite.specs.State.{State, HasCleanDisk, Survives}
use Rattle.sqlite.proofs.StateLemmas.{survives_weaker}
use Rattle.dq_tables.specs.declared.row.Row.{Row}
use Rattle.dq_sql.specs.declared.fault.StoreFault.{StoreFault}
use Rattle.dq_sql.specs.declared.fault.StoreFault.TheVariants as store
use Rattle.dq_sql.specs.declared.migrate_fault.MigrateFault.{MigrateFault}
use Rattle.dq_sql.specs.declared.migrate_fault.MigrateFault.TheVariants.{NoMemory, Store, WrongVersion, BadRows}
use Rattle.dq_sql.specs.declared.version.Version.TheVariants.{One}
use Rattle.dq_sql.specs.Tie.{IsOfVersion, HasRowsOf, IsAtRest, IsSame, Stays}
use Rattle.dq_tables.specs.Sound.{IsSound}
use Rattle.dq_sql.specs.FoundStores.{ShowsAnother, IsTold}
use Rattle.dq_sql.specs.FirstRows.{HasThese, IsNotMade}
use Rattle.dq_sql.specs.Migration.{fault_of_migration, IsMigrated, IsNotTaken, IsToldOfOld, IsNotMigrated}

pub survives_itself : (s : State) (P : Trees → Type 0) → Survives s s P
survives_itself s P = record {
  clean = omega arith;
  shield = λ h. h;
  counts = omega arith;
  limit = refl;
  closes = λ clean opened. inl opened;
  crash = λ clean db left. inl left;
}

same_itself : (s : State) → IsTrue s.is_open → IsSame s s
same_itself s opened = record { was_open = opened; now = refl; committed = refl }

pub by_fault : {A E : Type 0} (r : Result A E) (P : E → Type 0) {fault : E} → IsErrAnd r (λ e. e ≡ fault) → P fault → IfErr r P
by_fault (Ok x) P is p = tt
by_fault (Err e) P is p = rw is p

-- a fault that says nothing of the old store
abbrev pub IsPlain : MigrateFault → Type 0
IsPlain fault = (fault ≡ NoMemory) ⊎ (fault ≡ Store)

not_wrong : (fault : MigrateFault) → IsPlain fault → fault ≡ WrongVersion → ⊥
not_wrong fault (inl is) wrong = let no = sym is ∙ wrong in cc
not_wrong fault (inr is) wrong = let no = sym is ∙ wrong in cc

not_bad : (fault : MigrateFault) → IsPlain fault → fault ≡ BadRows → ⊥
not_bad fault (inl is) bad = let no = sym is ∙ bad in cc
not_bad fault (inr is) bad = let no = sym is ∙ bad in cc

pub not_blamed : (old left : State) (fault : MigrateFault) → IsPlain fault → IsNotTaken old left fault
not_blamed old left fault plain = record {
  wrong = λ clean wrong. absurd (not_wrong fault plain wrong);
  said = λ clean bad. absurd (not_bad fault plain bad);
  bad = λ clean bad. absurd (not_bad fault plain bad);
}

-- a fault by which the old store is refused
pub told_by : (old left : State) (cause : StoreFault) → (HasCleanDisk left → cause ≡ store.WrongVersion → ShowsAnother One old left)
    → (HasCleanDisk left → cause ≡ store.BadRows → IsOfVersion One old.now)
    → (HasCleanDisk left → cause ≡ store.BadRows → (rows : List Row) → HasRowsOf One old.now rows → ¬ IsSound rows)
    → IsNotTaken old left (fault_of_migration cause)
told_by old left store.NoMemory wrong said bad = not_blamed old left NoMemory (inl refl)
told_by old left store.Store wrong said bad = not_blamed old left Store (inr refl)
told_by old left store.WrongVersion wrong said bad = record {
  wrong = λ clean is. wrong clean refl;
  said = λ clean is. absurd (cc);
  bad = λ clean is. absurd (cc);
}
told_by old left store.BadRows wrong said bad = record {
  wrong = λ clean is. absurd (cc);
  said = λ clean is. said clean refl;
  bad = λ clean is. bad clean refl;
}

-- the new store is not made
pub not_filled : (old left new after : State) (rows : List Row) → (HasCleanDisk left → IsMigrated old rows) → Survives new after (HasThese rows)
    → after.in_transaction ≡ false → (HasCleanDisk after → IsTrue after.is_open → IsAtRest new → IsSame new after) → IsNotMigrated old left new after
not_filled old left new after rows are survives mode same = record {
  survives = survives_weaker new after _ _ (λ _ trees has clean. record { rows = rows; are = are clean; has = has }) survives;
  mode = λ _. mode;
  same = same;
}

pub unmade_itself : (s : State) (rows : List Row) → IsNotMade s s rows
unmade_itself s rows = record { survives = survives_itself s _; mode = λ out. out; same = λ clean opened rest. same_itself s opened }

pub told_of_old : {A : Type 0} (old left : State) (r : Result A MigrateFault) (cause : StoreFault) → IsErrAnd r (λ e. e ≡ fault_of_migration cause)
    → IsTold old left cause → IsErrAnd r (IsToldOfOld old left)
told_of_old old left (Ok x) cause is told = is
told_of_old old left (Err e) cause is (inl wrong) = inl (is ∙ ap fault_of_migration wrong)
told_of_old old left (Err e) cause is (inr fails) = inr (cause, fails, is)
