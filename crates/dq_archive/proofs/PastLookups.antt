-- Looking up in an archive as it was.
use Rattle.std.proofs.Common.{◌≡◌, ℕ, List, [], Result, Ok, IfOk, refl, ap, ◌∙◌}
use Rattle.std.proofs.lemmas.Result.{IfOk-weaker}
use Rattle.dq_config.specs.declared.config.Institution.{Institution}
use Rattle.dq_tables.specs.declared.fault.TableFault.{TableFault}
use Rattle.dq_tables.specs.declared.row.Row.{Row}
use Rattle.dq_tables.specs.Rows.{Record, of}
use Rattle.dq_tables.specs.TableStates.{State, Reads}
use Rattle.dq_tables.proofs.TableCalls.{reads_nothing, reads_then, reads_right}
use Rattle.dq_archive.specs.Additions.{without}
use Rattle.dq_archive.specs.declared.past.Past.{Past}
use Rattle.dq_archive.specs.PastArchives.{IsSame, state_in, records_in, QueriesOnly}
use Rattle.dq_archive.proofs.PastRecords.{none_left_out}

-- where nothing was added later, the records are those that there are
pub records_now : {T : Type 0} (state : T → State) (tables : T) (institution : Institution) (past : Past T) → past.tables.now ≡ tables
    → past.institution.now ≡ institution → past.later.now ≡ [] → records_in state past ≡ of institution.name (state tables).rows
records_now state tables institution past over named none =
    (λ i. without (none i) (of (named i).name (state (over i)).rows)) ∙ none_left_out (of institution.name (state tables).rows)

-- ---- by a call of the tables, which finds something under the institution's name

module _ {T A : Type 0} (state : T → State) (old new : Past T) (find : List ℕ → List Row → A) (name : List ℕ) (same : IsSame old new)
    (named : name ≡ old.institution.now.name) where
  abbrev found : A
  found = find old.institution.now.name (state_in state old).rows

  -- it is the answer
  pub looks_now : (g : List Record → A) (r : Result A TableFault) → ((state_in state old).honest → found ≡ g (records_in state old))
      → Reads (state_in state old) (state_in state new) r → ((state_in state new).honest → IfOk r (λ x. x ≡ find name (state_in state old).rows))
      → QueriesOnly state old new g r
  looks_now g r own reads finds = record {
    same = same;
    reads = reads;
    answered = λ h. IfOk-weaker r _ _ (λ x e. e ∙ ap (λ (n : List ℕ). find n (state_in state old).rows) named ∙ own (reads.goes.was_honest h)) (finds h);
  }

  -- the answer follows from it
  pub looks_back : {B : Type 0} (x : A) (g : List Record → B) (y : B) → ((state_in state old).honest → x ≡ found → y ≡ g (records_in state old))
      → Reads (state_in state old) (state_in state new) (Ok x) → ((state_in state new).honest → x ≡ find name (state_in state old).rows)
      → QueriesOnly state old new g (Ok y)
  looks_back x g y own reads finds = record {
    same = same;
    reads = reads_right (state_in state old) (state_in state new) x y reads;
    answered = λ h. own (reads.goes.was_honest h) (finds h ∙ ap (λ (n : List ℕ). find n (state_in state old).rows) named);
  }

-- ---- call after call

pub same_then : {T : Type 0} (old mid new : Past T) → IsSame old mid → IsSame mid new → IsSame old new
same_then old mid new first second = record {
  tables = second.tables ∙ first.tables;
  institution = second.institution ∙ first.institution;
  later = second.later ∙ first.later;
}

module _ {T A : Type 0} (state : T → State) (old mid new : Past T) (f : List Record → A) (x : A) (first : QueriesOnly state old mid f (Ok x)) where
  -- the records are still the same
  pub records_stay : (state_in state mid).honest → records_in state mid ≡ records_in state old
  records_stay h = λ i. without (first.same.later i).now (of (first.same.institution i).now.name (first.reads.same h i))

  -- what is looked up second, as of the beginning
  pub looks_then : {B : Type 0} (g : List Record → B) (r : Result B TableFault) → QueriesOnly state mid new g r → QueriesOnly state old new g r
  looks_then g r second = record {
    same = same_then old mid new first.same second.same;
    reads = reads_then (state_in state old) (state_in state mid) (state_in state new) x r first.reads second.reads;
    answered = λ h. IfOk-weaker r _ _ (λ answer e. e ∙ ap g (records_stay (second.reads.goes.was_honest h))) (second.answered h);
  }

-- what was looked up so far, and what holds of it
pub record LooksSoFar {T X : Type 0} (state : T → State) (old new : Past T) (x : X) (Fact : List Record → Type 0) : Type 0 where
  pub same : IsSame old new
  pub reads : Reads (state_in state old) (state_in state new) (Ok x)
  pub fact : (state_in state new).honest → Fact (records_in state old)

-- one call more
pub looks_on : {T X Y Z : Type 0} (state : T → State) (old mid new : Past T) (x : X) (Fact : List Record → Type 0) → LooksSoFar state old mid x Fact
    → (y : Y) (z : Z) (look : List Record → Y) (Next : List Record → Type 0) → QueriesOnly state mid new look (Ok y)
    → ((records : List Record) → Fact records → y ≡ look records → Next records) → LooksSoFar state old new z Next
looks_on state old mid new x Fact first y z look Next second next = record {
  same = same_then old mid new first.same second.same;
  reads = reads_right (state_in state old) (state_in state new) y z
      (reads_then (state_in state old) (state_in state mid) (state_in state new) x (Ok y) first.reads second.reads);
  fact = λ h.
      (let was = second.reads.goes.was_honest h in
      let stay : records_in state mid ≡ records_in state old =
      λ i. without (first.same.later i).now (of (first.same.institution i).now.name (first.reads.same was i)) in
      next (records_in state old) (first.fact was) (second.answered h ∙ ap look stay));
}

-- nothing was called
pub looks_nothing : {T A : Type 0} (state : T → State) (it : Past T) (look : List Record → A) (x : A) → x ≡ look (records_in state it)
    → QueriesOnly state it it look (Ok x)
looks_nothing state it look x defined = record {
  same = record { tables = refl; institution = refl; later = refl };
  reads = reads_nothing (state_in state it) x;
  answered = λ h. defined;
}

-- another answer, which follows from what was looked up
pub looks_as : {T A B : Type 0} (state : T → State) (old new : Past T) (f : List Record → A) (x : A) → QueriesOnly state old new f (Ok x)
    → (g : List Record → B) (y : B) → ((state_in state new).honest → y ≡ g (records_in state old)) → QueriesOnly state old new g (Ok y)
looks_as state old new f x first g y defined = record {
  same = first.same;
  reads = reads_right (state_in state old) (state_in state new) x y first.reads;
  answered = defined;
}

-- the same by another name of what is looked up
pub looks_alike : {T A : Type 0} (state : T → State) (old new : Past T) (f g : List Record → A) (r : Result A TableFault) → QueriesOnly state old new f r
    → ((state_in state old).honest → f (records_in state old) ≡ g (records_in state old)) → QueriesOnly state old new g r
looks_alike state old new f g r first alike = record {
  same = first.same;
  reads = first.reads;
  answered = λ h. IfOk-weaker r _ _ (λ x e. e ∙ alike (first.reads.goes.was_honest h)) (first.answered h);
}
