-- What a past of an institution's archive shows: its records, without what was logged since.
use Rattle.std.proofs.Common.{◌≡◌, ℕ, List, [], length, drop, Option, Some, None, option_map, Result, Ok, inl, inr, refl, sym, ap, ◌∙◌}
use Rattle.std.proofs.Math.Seq.{drop-length}
use Rattle.dq_config.specs.declared.config.Institution.{Institution}
use Rattle.dq_tables.specs.declared.row.Row.{Row}
use Rattle.dq_tables.specs.Rows.{of}
use Rattle.dq_tables.specs.declared.fault.TableFault.{TableFault}
use Rattle.dq_tables.specs.TableStates.{State, Reads, IsSettled}
use Rattle.dq_archive.specs.declared.additions.Addition.{Addition}
use Rattle.dq_archive.specs.declared.past.Past.{Past}
use Rattle.dq_archive.specs.Additions.{without}
use Rattle.dq_archive.specs.PastArchives.{records_in}
use Rattle.dq_archive.proofs.PastRecords.{none_left_out}
use Rattle.dq_core.specs.declared.pages.OpenQuery.{OpenQuery as HeldQuery}
use Rattle.dq_core.specs.declared.fault.Fault.{Fault}
use Rattle.dq_core.specs.Pages.{OpenQuery}
use Rattle.dq_core.specs.Stepping.{HealthAfter}
use Rattle.dq_core.proofs.TableCalls.{settled-then}
use Rattle.dq_core.specs.Queries.{open_query_of, open_query_in, records_since, query_then}

pub records_then : {T : Type 0} (state : T → State) (tables : T) (institution : Institution) (past : Past T) (later : List Addition) → past.tables.now ≡ tables
    → past.institution.now ≡ institution → past.later.now ≡ later → records_in state past ≡ without later (of institution.name (state tables).rows)
records_then state tables institution past later over named left = λ i. without (left i) (of (named i).name (state (over i)).rows)

-- nothing was logged since now
pub records_now : (name : List ℕ) (rows : List Row) (log : List Addition) → records_since name rows log (length log) ≡ of name rows
records_now name rows log = ap (λ (l : List Addition). without l (of name rows)) (drop-length log) ∙ none_left_out (of name rows)

-- what is left of a query that began when so much was logged
pub query_since : (name : List ℕ) (rows : List Row) (log : List Addition) (since : ℕ) (left : Option HeldQuery)
    → ((q : HeldQuery) → left ≡ Some q → q.since ≡ since) → query_then name rows log left ≡ open_query_in (records_since name rows log since) left
query_since name rows log since None same = refl
query_since name rows log since (Some q) same = ap (λ (n : ℕ). Some (open_query_of (records_since name rows log n) q)) (same q refl)

-- a call that reads leaves settled what was settled
pub settled-read : {A : Type 0} {old new : State} {r : Result A TableFault} → Reads old new r → new.honest → IsSettled old → IsSettled new
settled-read reads honest settled = record { only = λ r left. settled.only r (reads.crash honest r left) ∙ sym (reads.same honest) }

-- and what follows it
pub goes-after-read : {A B : Type 0} {old mid new : State} {x : A} {r : Result B Fault} → Reads old mid (Ok x) → HealthAfter mid new r → HealthAfter old new r
goes-after-read {old = old} {mid = mid} {new = new} {r = r} first later = record {
  was_honest = λ h. first.goes.was_honest (later.was_honest h);
  told = later.told;
  untold = λ e. elim (later.untold e) [
    | inl failed ↦ elim (first.goes.untold failed) [ inl was ↦ inl was | inr never ↦ absurd cc ]
    | inr told ↦ inr told
  ];
  lasts = λ e. later.lasts (first.goes.lasts e);
  settles = λ h. settled-then (IsSettled old) (IsSettled mid) (IsSettled new) r (settled-read first (later.was_honest h)) (later.settles h);
}
