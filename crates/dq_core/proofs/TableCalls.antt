-- Calls of tables one after the other.
use Rattle.std.proofs.Common.{◌≡◌, true, List, ◌⊎◌, inl, inr, Result, Ok, Err}
use Rattle.std.specs.Result.{OnOk, OnErr}
use Rattle.dq_tables.specs.declared.row.Row.{Row}
use Rattle.dq_tables.specs.TableStates.{State, IsSettled}
use Rattle.dq_tables.specs.Rows.{Operation}
use Rattle.dq_core.specs.declared.fault.Fault.{Fault}
use Rattle.dq_core.specs.declared.fault.Fault.TheVariants.{Store}
use Rattle.dq_core.specs.Stepping.{HealthAfter, MayLeaveAfter, IsPartOf}

-- an answer, of a type that is known
abbrev pub ok_of : {A : Type 0} → A → Result A Fault
ok_of a = Ok a

pub goes-start : {A : Type 0} {t : State} {a : A} → HealthAfter t t (ok_of a)
goes-start = record { was_honest = λ h. h; told = λ e. cc; untold = λ e. inl e; lasts = λ e. e; settles = λ h s. s }

-- what an answer leaves, after another
pub settled-then : {A : Type 0} (P Q R : Type 0) (r : Result A Fault) → (P → Q) → OnOk r (Q → R) → OnOk r (P → R)
settled-then P Q R (Ok a) f g = λ p. g (f p)
settled-then P Q R (Err e) f g = tt

untold-then : {A : Type 0} {B : Type 0} {t0 t1 : State} {a : A} (r : Result B Fault) → HealthAfter t0 t1 (ok_of a)
    → (t1.failed ≡ true) ⊎ (r ≡ Err Store) → (t0.failed ≡ true) ⊎ (r ≡ Err Store)
untold-then r first (inl e) = elim (first.untold e) [ inl f ↦ inl f | inr f ↦ cc ]
untold-then r first (inr e) = inr e

pub goes-then : {A : Type 0} {B : Type 0} {t0 t1 t2 : State} {a : A} {r : Result B Fault}
    → HealthAfter t0 t1 (ok_of a) → HealthAfter t1 t2 r → HealthAfter t0 t2 r
goes-then {t0 = t0} {t1 = t1} {t2 = t2} {r = r} first later = record {
  was_honest = λ h. first.was_honest (later.was_honest h);
  told = later.told;
  untold = λ e. untold-then r first (later.untold e);
  lasts = λ e. later.lasts (first.lasts e);
  settles = λ h. settled-then (IsSettled t0) (IsSettled t1) (IsSettled t2) r (first.settles (later.was_honest h)) (later.settles h);
}

pub on-err : {A : Type 0} {P : Type 0} (r : Result A Fault) → P → OnErr r P
on-err (Ok a) p = tt
on-err (Err e) p = p

-- less is left
pub part-left : {operations : List Operation} {before after : List Row} {IsLeft : List Row → Type 0} (IsLess : List Row → Type 0)
    → ((r : List Row) → IsLess r → IsLeft r) → IsPartOf operations before after IsLeft → IsPartOf operations before after IsLess
part-left IsLess f part = record { done = part.done; later = part.later; whole = part.whole; made = part.made; crash = λ r less. part.crash r (f r less) }

-- what a call leaves after one that was answered
pub left-then : {A : Type 0} {t0 t1 : State} {a : A} (t2 : State) → HealthAfter t0 t1 (ok_of a) → t1.honest → (r : List Row) → MayLeaveAfter t0 t2 r → MayLeaveAfter t1 t2 r
left-then t2 goes h r left = (goes.settles h left.0, left.1)
