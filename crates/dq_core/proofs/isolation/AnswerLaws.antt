-- What inputs are answered with, part by part.
use Rattle.std.proofs.Common.{◌≡◌, Bool, true, false, List, [], ◌∷◌, ◌++◌, Option, Some, None, refl, sym, ap, ◌∙◌, append_assoc}
use Rattle.dq_core.proofs.isolation.Vocabulary.{Verdict, Input, Requested, Sent, Agreement, Limits, Record, records_after_edits, Progress, Answer, input_answer, agreement_by, message_answer, then_answer, input_answers}
use Rattle.dq_core.specs.Pages.{OpenQuery, reaction}
use Rattle.dq_core.specs.Effects.{agreement_after}

-- answers follow one another, up to the first that closes
follow_on : (a b c : Answer) (p q : Bool) → a.close ≡ p → b.close ≡ q → then_answer (then_answer a b) c ≡ then_answer a (then_answer b c)
follow_on a b c true q h k = rw h refl
follow_on a b c false true h k = rw (h, k) refl
follow_on a b c false false h k = rw (h, k, append_assoc, append_assoc) refl

next_later : (a b : Answer) (p : Bool) → a.close ≡ p → (c : Progress → Answer)
    → then_answer (then_answer a b) (c b.next) ≡ then_answer (then_answer a b) (c (then_answer a b).next)
next_later a b true h c = rw h refl
next_later a b false h c = rw h refl

module _ (limits : Limits) (verdict : Verdict) where
  -- inputs that come in two parts
  pub answers-append : (progress : Progress) (xs ys : List Input) → input_answers limits verdict progress (xs ++ ys)
      ≡ then_answer (input_answers limits verdict progress xs) (input_answers limits verdict (input_answers limits verdict progress xs).next ys)
  answers-append progress [] ys = refl
  answers-append progress (x ∷ xs) ys =
      let first = input_answer limits verdict progress x in
      let more = input_answers limits verdict first.next xs in
      ap (then_answer first) (answers-append first.next xs ys)
      ∙ sym (follow_on first more (input_answers limits verdict more.next ys) first.close more.close refl refl)
      ∙ next_later first more first.close refl (λ next. input_answers limits verdict next ys)

  -- what was agreed stays
  open-agreement : (records : List Record) (query : Option OpenQuery) (agreement : Agreement) (xs : List Input)
      → (input_answers limits verdict (record { agreement = Some agreement; records = records; query = query }) xs).next.agreement ≡ Some agreement
  open-agreement records query agreement (Sent message ∷ xs) =
      let r = reaction query limits records agreement message in open-agreement (records_after_edits r.edits records) r.query agreement xs
  open-agreement records query agreement other = refl

  then-agreement : (a b : Answer) (o : Option Agreement) (p : Bool) → a.close ≡ p → a.next.agreement ≡ o → b.next.agreement ≡ o
      → (then_answer a b).next.agreement ≡ o
  then-agreement a b o true h k l = rw h k
  then-agreement a b o false h k l = rw h l

  next-at : (records : List Record) (query : Option OpenQuery) (o : Option Agreement) (xs : List Input)
      → (input_answers limits verdict (record { agreement = o; records = records; query = query }) xs).next.agreement ≡ agreement_after o xs
  next-at records query (Some agreement) xs = open-agreement records query agreement xs
  next-at records query None (Requested request ∷ xs) =
      let first = input_answer limits verdict (record { agreement = None; records = records; query = query }) (Requested request) in
      then-agreement first (input_answers limits verdict first.next xs) (agreement_by (Requested request)) first.close refl refl (open-agreement records query _ xs)
  next-at records query None other = refl

  pub next-agreement : (progress : Progress) (xs : List Input) → (input_answers limits verdict progress xs).next.agreement ≡ agreement_after progress.agreement xs
  next-agreement progress xs = next-at progress.records progress.query progress.agreement xs

  -- the verdict is not read after a request
  open-verdict : (other : Verdict) (records : List Record) (query : Option OpenQuery) (agreement : Agreement) (xs : List Input) →
      let progress : Progress = record { agreement = Some agreement; records = records; query = query } in
      input_answers limits verdict progress xs ≡ input_answers limits other progress xs
  open-verdict other records query agreement (Sent message ∷ xs) =
      let r = reaction query limits records agreement message in
      ap (then_answer (message_answer r (record { agreement = Some agreement; records = records; query = query })))
      (open-verdict other (records_after_edits r.edits records) r.query agreement xs)
  open-verdict other records query agreement others = refl

  pub verdict-unread : (other : Verdict) (records : List Record) (query : Option OpenQuery) (o : Option Agreement) (agreement : Agreement) (xs : List Input) → o ≡ Some agreement →
      let progress : Progress = record { agreement = o; records = records; query = query } in
      input_answers limits verdict progress xs ≡ input_answers limits other progress xs
  verdict-unread other records query o agreement xs e = rw e (open-verdict other records query agreement xs)
