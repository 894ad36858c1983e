-- Calls of tables one after the other, and what a service makes of them.
use Rattle.std.proofs.Common.{◌≡◌, ℕ, List, [], Result, Ok, Err, ap, arith}
use Rattle.dq_tables.specs.declared.fault.TableFault.{TableFault}
use Rattle.dq_tables.specs.Rows.{Record, Edit, of, by, after}
use Rattle.dq_tables.specs.TableStates.{State, HealthAfter, Reads, Writes}
use Rattle.dq_tables.specs.ServiceEffects.{Serves}

-- an error in place of an answer
abbrev pub refused : (A : Type 0) → TableFault → Result A TableFault
refused A e = Err e

-- an error is the same whatever there would have been
fault_of : {A : Type 0} → TableFault → Result A TableFault → TableFault
fault_of e (Ok a) = e
fault_of e (Err f) = f

same_error : (A B : Type 0) (e f : TableFault) → refused A e ≡ Err f → refused B e ≡ Err f
unfolding fault_of
same_error A B e f h = ap (λ (x : TableFault). refused B x) (ap (fault_of {A = A} e) h)

-- a call and then another
pub goes_then : {A B : Type 0} (old mid new : State) (x : A) (r : Result B TableFault) → HealthAfter old mid (Ok x) → HealthAfter mid new r
    → HealthAfter old new r
goes_then old mid new x r first second = grind arith

-- a call that reads and then another
pub reads_then : {A B : Type 0} (old mid new : State) (x : A) (r : Result B TableFault) → Reads old mid (Ok x)
    → Reads mid new r → Reads old new r
reads_then old mid new x r first second = grind (arith, goes_then)

goes_refused : {A B : Type 0} (old new : State) (e : TableFault) → HealthAfter old new (refused A e) → HealthAfter old new (refused B e)
goes_refused {A} {B} old new e goes = grind (arith, same_error)

goes_right : {A B : Type 0} (old new : State) (x : A) (y : B) → HealthAfter old new (Ok x) → HealthAfter old new (Ok y)
goes_right old new x y goes = grind arith

-- a read that was answered, or refused, with another value of the answer
pub reads_refused : {A B : Type 0} (old new : State) (e : TableFault) → Reads old new (refused A e)
    → Reads old new (refused B e)
reads_refused old new e reads = record { goes = goes_refused old new e reads.goes; same = reads.same; crash = reads.crash }

pub reads_right : {A B : Type 0} (old new : State) (x : A) (y : B) → Reads old new (Ok x)
    → Reads old new (Ok y)
reads_right old new x y reads = record { goes = goes_right old new x y reads.goes; same = reads.same; crash = reads.crash }

-- nothing was called
pub reads_nothing : {A : Type 0} (it : State) (x : A) → Reads it it (Ok x)
reads_nothing it x = grind arith

module _ {Answer : Type 0} (institution : List ℕ) (does : List Record → Answer × List Edit) where
  -- a service that answers after calls that read, and changes nothing
  pub serves_read : (old new : State) (a : Answer) → Reads old new (Ok a)
      → (new.honest → does (of institution old.rows) ≡ (a, [])) → Serves old new institution does (Ok a)
  serves_read old new a reads defined = grind arith

  -- a service that makes one change after calls that read, and is refused there, or answers
  pub serves_refused : {A : Type 0} (old mid new : State) (x : A) (a : Answer) (es : List Edit) (e : TableFault)
      → Reads old mid (Ok x)
      → Writes mid new (after (by institution es) mid.rows) (refused (Unit {0}) e)
      → (mid.honest → does (of institution old.rows) ≡ (a, es)) → Serves old new institution does (Err e)
  serves_refused old mid new x a es e reads writes defined = grind (arith, goes_refused, goes_then)

  pub serves_written : {A : Type 0} (old mid new : State) (x : A) (a : Answer) (es : List Edit) → Reads old mid (Ok x)
      → Writes mid new (after (by institution es) mid.rows) (Ok (tt {0}))
      → (mid.honest → does (of institution old.rows) ≡ (a, es)) → Serves old new institution does (Ok a)
  serves_written old mid new x a es reads writes defined = grind (arith, goes_right, goes_then)
