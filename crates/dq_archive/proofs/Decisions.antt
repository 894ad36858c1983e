-- A decision after what was looked up, and one that is carried out.
use Rattle.std.proofs.Common.{[], Some, None, ◌≡◌, ℕ, List, Result, Ok, Err, refl, subst}
use Rattle.dq_tables.specs.declared.change.Change.{Change}
use Rattle.dq_tables.specs.declared.fault.TableFault.{TableFault}
use Rattle.dq_tables.specs.Rows.{Record, Edit, by, after, edits_of, institution_of, operation_of}
use Rattle.dq_tables.specs.TableStates.{State, Writes}
use Rattle.dq_tables.specs.ServiceEffects.{Serves}
use Rattle.dq_tables.proofs.TableCalls.{refused, reads_nothing, reads_right, serves_refused, serves_written}
use Rattle.dq_archive.specs.declared.decision.Decision.{Decision}
use Rattle.dq_archive.specs.declared.archive.Archive.{Archive}
use Rattle.dq_archive.specs.Decisions.{IsOwn, FitsIf}
use Rattle.dq_archive.specs.Archives.{state_in, records_in, QueriesOnly, Decides}

-- ---- decided

-- before anything is looked up
pub decides_at_once : {T Answer : Type 0} (state : T → State) (it : Archive T) (does : List Record → Answer × List Edit) (answer : Answer) (d : Decision Answer)
    → d ≡ record { answer = answer; change = None } → ((records : List Record) → does records ≡ (answer, [])) → Decides state it it does (Ok d)
decides_at_once state it does answer d is made = rw is (record {
  same = record { tables = refl; institution = refl };
  reads = reads_nothing (state_in state it) _;
  own = tt;
  decided = λ h. record { made = made (records_in state it); fits = tt };
})

module _ {T A Answer : Type 0} (state : T → State) (old new : Archive T) (does : List Record → Answer × List Edit) (look : List Record → A) (x : A)
    (looks : QueriesOnly state old new look (Ok x)) (answer : Answer) (d : Decision Answer) where
  abbrev holds_now : Type 0
  holds_now = (state_in state new).honest

  -- an answer that changes nothing
  pub decides_unchanged : d ≡ record { answer = answer; change = None } → (holds_now → does (records_in state old) ≡ (answer, []))
      → Decides state old new does (Ok d)
  decides_unchanged is made = rw is (record {
    same = looks.same;
    reads = reads_right (state_in state old) (state_in state new) x _ looks.reads;
    own = tt;
    decided = λ h. record { made = made h; fits = tt };
  })

  -- and one with a change
  pub decides_change : (change : Change) → d ≡ record { answer = answer; change = Some change }
      → IsOwn old.institution.now.name (Some change) → (holds_now → does (records_in state old) ≡ (answer, edits_of change))
      → (holds_now → FitsIf (state_in state old).rows (Some change)) → Decides state old new does (Ok d)
  decides_change change is own made fits = rw is (record {
    same = looks.same;
    reads = reads_right (state_in state old) (state_in state new) x _ looks.reads;
    own = own;
    decided = λ h. record { made = made h; fits = fits h };
  })

-- ---- carried out

module _ {A : Type 0} (answer : A) (change : Change) (institution : List ℕ) (old new : State) (own : institution_of change ≡ institution) where
  abbrev does : List Record → A × List Edit
  does records = (answer, edits_of change)

  abbrev Made : Result (Unit {0}) TableFault → Type 0
  Made r = Writes old new (after (operation_of change) old.rows) r

  own_writes : (r : Result (Unit {0}) TableFault) → Made r → Writes old new (after (by institution (edits_of change)) old.rows) r
  own_writes r = subst (λ (n : List ℕ). Writes old new (after (by n (edits_of change)) old.rows) r) own

  pub change_made : Made (Ok (tt {0})) → Serves old new institution does (Ok answer)
  change_made writes =
      serves_written institution does old old new answer answer (edits_of change) (reads_nothing old answer) (own_writes _ writes) (λ h. refl)

  pub change_refused : (e : TableFault) → Made (refused (Unit {0}) e) → Serves old new institution does (Err e)
  change_refused e writes =
      serves_refused institution does old old new answer answer (edits_of change) e (reads_nothing old answer) (own_writes _ writes) (λ h. refl)
