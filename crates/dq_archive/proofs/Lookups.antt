-- Looking up, and what is there among rows and among the institution's records.
use Rattle.std.proofs.Common.{◌≡◌, ℕ, false, List, Option, Some, None, is_some, Result, Ok, IfOk, refl, sym, ap, ◌∙◌}
use Rattle.std.specs.Option.{option_map}
use Rattle.std.proofs.lemmas.Result.{IfOk-weaker}
use Rattle.dq_tables.specs.declared.fault.TableFault.{TableFault}
use Rattle.dq_tables.specs.declared.row.Kind.{Kind}
use Rattle.dq_tables.specs.declared.row.Row.{Row}
use Rattle.dq_tables.specs.Rows.{Record, of, row_of, record_of}
use Rattle.dq_tables.specs.Lookups.{record_at, row_at}
use Rattle.dq_tables.specs.TableStates.{State, Reads}
use Rattle.dq_tables.proofs.TableCalls.{reads_nothing, reads_then, reads_right}
use Rattle.dq_tables.proofs.OwnRows.{found_own}
use Rattle.dq_archive.specs.declared.archive.Archive.{Archive}
use Rattle.dq_archive.specs.Archives.{IsSame, state_in, records_in, QueriesOnly}

-- ---- rows and records

pub some_mapped : {A B : Type 0} (f : A → B) (o : Option A) → is_some (option_map f o) ≡ is_some o
some_mapped f None = refl
some_mapped f (Some x) = refl

none_if : {A : Type 0} (o : Option A) → is_some o ≡ false → o ≡ None
none_if None e = refl
none_if (Some x) e = cc

module _ (kind : Kind) (h key : List ℕ) (rows : List Row) where
  -- a row is there where a record is
  pub there_own : is_some (row_at kind h key rows) ≡ is_some (record_at kind key (of h rows))
  there_own = ap is_some (found_own kind h key rows) ∙ some_mapped (row_of h) (record_at kind key (of h rows))

  pub free_own : is_some (record_at kind key (of h rows)) ≡ false → row_at kind h key rows ≡ None
  free_own free = none_if (row_at kind h key rows) (there_own ∙ free)

-- the record of a row that was looked up
pub as_record : (h : List ℕ) (r : Option Record) (row : Option Row) → row ≡ option_map (row_of h) r → r ≡ option_map record_of row
as_record h None row e = sym (ap (option_map record_of) e)
as_record h (Some r) row e = sym (ap (option_map record_of) e)

-- ---- call after call

-- what a call of the tables finds under the institution's name
pub looks_for : {T A : Type 0} (state : T → State) (old new : Archive T) (find : List ℕ → List Row → A) (look : List Record → A) (name : List ℕ) (r : Result A TableFault)
    → IsSame old new → name ≡ old.institution.now.name → find old.institution.now.name (state_in state old).rows ≡ look (records_in state old)
    → Reads (state_in state old) (state_in state new) r → ((state_in state new).honest → IfOk r (λ x. x ≡ find name (state_in state old).rows))
    → QueriesOnly state old new look r
looks_for state old new find look name r same named own reads found = record {
  same = same;
  reads = reads;
  answered = λ h. IfOk-weaker r _ _ (λ x e. e ∙ ap (λ (n : List ℕ). find n (state_in state old).rows) named ∙ own) (found h);
}

pub same_then : {T : Type 0} (old mid new : Archive T) → IsSame old mid → IsSame mid new → IsSame old new
same_then old mid new first second = record {
  tables = second.tables ∙ first.tables;
  institution = second.institution ∙ first.institution;
}

module _ {T A : Type 0} (state : T → State) (old mid new : Archive T) (f : List Record → A) (x : A) (first : QueriesOnly state old mid f (Ok x)) where
  -- the records are still the same
  pub records_stay : (state_in state mid).honest → records_in state mid ≡ records_in state old
  records_stay h = λ i. of (first.same.institution i).now.name (first.reads.same h i)

  -- what is looked up second, as of the beginning
  pub looks_then : {B : Type 0} (g : List Record → B) (r : Result B TableFault) → QueriesOnly state mid new g r → QueriesOnly state old new g r
  looks_then g r second = record {
    same = same_then old mid new first.same second.same;
    reads = reads_then (state_in state old) (state_in state mid) (state_in state new) x r first.reads second.reads;
    answered = λ h. IfOk-weaker r _ _ (λ answer e. e ∙ ap g (records_stay (second.reads.goes.was_honest h))) (second.answered h);
  }

-- what was looked up so far, and what holds of it
pub record LooksSoFar {T X : Type 0} (state : T → State) (old new : Archive T) (x : X) (Fact : List Record → Type 0) : Type 0 where
  pub same : IsSame old new
  pub reads : Reads (state_in state old) (state_in state new) (Ok x)
  pub fact : (state_in state new).honest → Fact (records_in state old)

-- one call more
pub looks_on : {T X Y Z : Type 0} (state : T → State) (old mid new : Archive T) (x : X) (Fact : List Record → Type 0) → LooksSoFar state old mid x Fact
    → (y : Y) (z : Z) (look : List Record → Y) (Next : List Record → Type 0) → QueriesOnly state mid new look (Ok y)
    → ((records : List Record) → Fact records → y ≡ look records → Next records) → LooksSoFar state old new z Next
looks_on state old mid new x Fact first y z look Next second next = record {
  same = same_then old mid new first.same second.same;
  reads = reads_right (state_in state old) (state_in state new) y z
      (reads_then (state_in state old) (state_in state mid) (state_in state new) x (Ok y) first.reads second.reads);
  fact = λ h.
      (let was = second.reads.goes.was_honest h in
      let stay : records_in state mid ≡ records_in state old = λ i. of (first.same.institution i).now.name (first.reads.same was i) in
      next (records_in state old) (first.fact was) (second.answered h ∙ ap look stay));
}

-- nothing was called
pub looks_nothing : {T A : Type 0} (state : T → State) (it : Archive T) (look : List Record → A) (x : A) → x ≡ look (records_in state it)
    → QueriesOnly state it it look (Ok x)
looks_nothing state it look x defined = record {
  same = record { tables = refl; institution = refl };
  reads = reads_nothing (state_in state it) x;
  answered = λ h. defined;
}

-- another answer, which follows from what was looked up
pub looks_as : {T A B : Type 0} (state : T → State) (old new : Archive T) (f : List Record → A) (x : A) → QueriesOnly state old new f (Ok x)
    → (g : List Record → B) (y : B) → ((state_in state new).honest → y ≡ g (records_in state old)) → QueriesOnly state old new g (Ok y)
looks_as state old new f x first g y defined = record {
  same = first.same;
  reads = reads_right (state_in state old) (state_in state new) x y first.reads;
  answered = defined;
}

-- the same by another name of what is looked up
pub looks_alike : {T A : Type 0} (state : T → State) (old new : Archive T) (f g : List Record → A) (r : Result A TableFault) → QueriesOnly state old new f r
    → ((state_in state old).honest → f (records_in state old) ≡ g (records_in state old)) → QueriesOnly state old new g r
looks_alike state old new f g r first alike = record {
  same = first.same;
  reads = first.reads;
  answered = λ h. IfOk-weaker r _ _ (λ x e. e ∙ alike (first.reads.goes.was_honest h)) (first.answered h);
}
