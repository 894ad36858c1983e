-- Answers that are given one after the other.
use Rattle.std.proofs.Common.{◌≡◌, ℕ, Bool, true, false, List, [], ◌∷◌, ◌++◌, map, take, Option, Some, None, ◌⊎◌, inl, inr, refl, sym, ap, subst, ◌∙◌, append_assoc}
use Rattle.std.proofs.lemmas.List.{map-append, append-nil}
use Rattle.dq_dimse.specs.declared.assembler.Accepted.{Accepted}
use Rattle.dq_dimse.specs.declared.command.Message.{Message as HeldMessage}
use Rattle.dq_dimse.specs.Holding.{AllRefine, RefinesOn}
use Rattle.dq_dimse.specs.Received.{Message}
use Rattle.dq_assoc.specs.declared.agreement.Agreement.{Agreement}
use Rattle.dq_assoc.specs.Holding.{accepted_by}
use Rattle.dq_config.specs.declared.config.Institution.{Institution}
use Rattle.dq_config.specs.Limits.{limits_of}
use Rattle.dq_tables.specs.declared.row.Row.{Row}
use Rattle.dq_tables.specs.Rows.{Record, Edit, edited_all, of, Operation, by, after, after_all}
use Rattle.dq_core.specs.Pages.{OpenQuery}
use Rattle.dq_core.specs.Answers.{Answer, then_answer}
use Rattle.dq_core.specs.Shared.{operations_by}
use Rattle.dq_core.specs.Stepping.{IsPartOf}
use Rattle.dq_core.specs.Effects.{AnswerApplied, AnswerPartlyApplied, served_answer, messages_answer}
use Rattle.dq_core.proofs.TableCalls.{part-left}

pub after-append : (xs ys : List Operation) (rows : List Row) → after_all (xs ++ ys) rows ≡ after_all ys (after_all xs rows)
after-append [] ys rows = refl
after-append (x ∷ xs) ys rows = after-append xs ys (after x rows)

-- the next operation is the first of those left, where some are left
next-first : (later more : List Operation) (rows r : List Row) → (r ≡ rows) ⊎ (r ≡ after_all (take 1 later) rows)
    → (r ≡ rows) ⊎ (r ≡ after_all (take 1 (later ++ more)) rows)
next-first [] more rows r (inl e) = inl e
next-first [] more rows r (inr e) = inl e
next-first (x ∷ later) more rows r left = left

operations-append : (owner : Option Institution) (xs ys : List (List Edit)) → operations_by owner (xs ++ ys) ≡ operations_by owner xs ++ operations_by owner ys
operations-append None xs ys = refl
operations-append (Some i) xs ys = map-append (by i.name) xs ys

module _ (owner : Option Institution) (a b : Answer) where
  abbrev first_operations : List Operation
  first_operations = operations_by owner a.changes

  joined : operations_by owner (a.changes ++ b.changes) ≡ first_operations ++ operations_by owner b.changes
  joined = operations-append owner a.changes b.changes

  did-then : (r0 r1 r2 : List Row) (x0 x1 x2 : List ℕ) (q1 q2 : Option OpenQuery) → a.close ≡ false → AnswerApplied owner a r0 r1 x0 x1 q1
      → AnswerApplied owner b r1 r2 x1 x2 q2 → AnswerApplied owner (then_answer a b) r0 r2 x0 x2 q2
  did-then r0 r1 r2 x0 x1 x2 q1 q2 h first later = rw h (record {
    octets = rw (later.octets, first.octets) (append_assoc x0 a.octets b.octets);
    rows = rw (joined, after-append first_operations (operations_by owner b.changes) r0, later.rows, first.rows) refl;
    query = later.query;
  })

  part-first : (r0 r1 : List Row) (IsLeft : List Row → Type 0) (p : Bool) → a.close ≡ p → AnswerPartlyApplied owner a r0 r1 IsLeft
      → AnswerPartlyApplied owner (then_answer a b) r0 r1 IsLeft
  part-first r0 r1 IsLeft true h part = rw h part
  part-first r0 r1 IsLeft false h part = rw (h, joined) (record {
    done = part.done;
    later = part.later ++ operations_by owner b.changes;
    whole = sym (append_assoc part.done part.later (operations_by owner b.changes))
        ∙ ap (λ (os : List Operation). os ++ operations_by owner b.changes) part.whole;
    made = part.made;
    crash = λ r left. next-first part.later (operations_by owner b.changes) r1 r (part.crash r left);
  })

  part-then : (r0 r1 r2 : List Row) (x0 x1 : List ℕ) (q1 : Option OpenQuery) (IsLeft : List Row → Type 0) → a.close ≡ false → AnswerApplied owner a r0 r1 x0 x1 q1
      → AnswerPartlyApplied owner b r1 r2 IsLeft → AnswerPartlyApplied owner (then_answer a b) r0 r2 IsLeft
  part-then r0 r1 r2 x0 x1 q1 IsLeft h first part = rw (h, joined) (record {
    done = first_operations ++ part.done;
    later = part.later;
    whole = append_assoc first_operations part.done part.later ∙ ap (λ (os : List Operation). first_operations ++ os) part.whole;
    made = rw (after-append first_operations part.done r0, ← first.rows) part.made;
    crash = part.crash;
  })

-- the rows, and those after the next operation, are left
abbrev Left : List Row → List Operation → List Row → Type 0
Left after later r = (r ≡ after) ⊎ (r ≡ after_all (take 1 later) after)

abbrev Unleft : List Row → Type 0
Unleft r = ⊥

abbrev bare : {operations : List Operation} {before after : List Row} {IsLeft : List Row → Type 0} → IsPartOf operations before after IsLeft
    → IsPartOf operations before after Unleft
bare part = record { done = part.done; later = part.later; whole = part.whole; made = part.made; crash = λ r none. absurd none }

widest : {operations : List Operation} {before after : List Row} {IsLeft : List Row → Type 0} (part : IsPartOf operations before after IsLeft)
    → IsPartOf operations before after (Left after part.later)
widest part = record { done = part.done; later = part.later; whole = part.whole; made = part.made; crash = λ r left. left }

-- What is left of an answer: where it is given or begun from here, the whole is given or begun.
pub record From (owner : Option Institution) (whole rest : Answer) (r0 r1 : List Row) (x0 x1 : List ℕ) : Type 0 where
  pub did : (r2 : List Row) (x2 : List ℕ) (q2 : Option OpenQuery) → AnswerApplied owner rest r1 r2 x1 x2 q2 → AnswerApplied owner whole r0 r2 x0 x2 q2
  pub part : (r2 : List Row) (begun : AnswerPartlyApplied owner rest r1 r2 Unleft) → AnswerPartlyApplied owner whole r0 r2 (Left r2 begun.later)

from-part : {owner : Option Institution} {whole rest : Answer} {r0 r1 : List Row} {x0 x1 : List ℕ} → From owner whole rest r0 r1 x0 x1
    → (r2 : List Row) (IsLeft : List Row → Type 0) → AnswerPartlyApplied owner rest r1 r2 IsLeft → AnswerPartlyApplied owner whole r0 r2 IsLeft
from-part from r2 IsLeft begun = part-left IsLeft (λ r left. begun.crash r left) (from.part r2 (bare begun))

-- an institution's records after its operations
abbrev pub Lens : Type 0
Lens = (h : List ℕ) (changes : List (List Edit)) (rows : List Row) → of h (after_all (map (by h) changes) rows) ≡ edited_all changes (of h rows)

-- Messages are left of those that are served for an institution.
pub record Serves (i : Institution) (a : Agreement) (all left : List Message) (r0 r1 : List Row) (x0 x1 : List ℕ) (q0 q1 : Option OpenQuery)
    : Type 0 where
  pub rest : From (Some i) (messages_answer (limits_of i) a (of i.name r0) q0 all) (messages_answer (limits_of i) a (of i.name r1) q1 left) r0 r1 x0 x1

-- a part of the answers to messages, from the records that there are and the C-FIND that is open
part-of : (i : Institution) (a : Agreement) (ms : List Message) (r0 r1 : List Row) (IsLeft : List Row → Type 0) (records : List Record)
    (q0 q1 : Option OpenQuery)
    → of i.name r0 ≡ records → q0 ≡ q1 → AnswerPartlyApplied (Some i) (messages_answer (limits_of i) a (of i.name r0) q0 ms) r0 r1 IsLeft
    → AnswerPartlyApplied (Some i) (messages_answer (limits_of i) a records q1 ms) r0 r1 IsLeft
part-of i a ms r0 r1 IsLeft records q0 q1 same same_query part = rw (same, same_query) at part

module _ {i : Institution} {a : Agreement} {all left : List Message} {r0 r1 : List Row} {x0 x1 : List ℕ} {q0 q1 : Option OpenQuery}
    (serves : Serves i a all left r0 r1 x0 x1 q0 q1) where
  abbrev served : Message → Answer
  served m = served_answer (limits_of i) a (of i.name r1) q1 m

  -- none is left
  pub serves-all : left ≡ [] → AnswerApplied (Some i) (messages_answer (limits_of i) a (of i.name r0) q0 all) r0 r1 x0 x1 q1
  serves-all e = serves.rest.did r1 x1 q1 (rw e (record { octets = sym (append-nil x1); rows = refl; query = refl }))

  module _ {m : Message} {ms : List Message} (e : left ≡ m ∷ ms) where
    -- a message was served, and those after it are left
    pub serves-next : {r2 : List Row} {x2 : List ℕ} {q2 : Option OpenQuery} → Lens → AnswerApplied (Some i) (served m) r1 r2 x1 x2 q2
        → Serves i a all ms r0 r2 x0 x2 q0 q2
    serves-next {r2 = r2} {x2 = x2} {q2 = q2} lens d =
        let rest = messages_answer (limits_of i) a (served m).next.records (served m).next.query ms in
        let same : of i.name r2 ≡ (served m).next.records = ap (of i.name) d.rows ∙ lens i.name (served m).changes r1 in record {
          rest = record {
            did = λ r3 x3 q3 later. serves.rest.did r3 x3 q3
                (rw e (did-then (Some i) (served m) rest r1 r2 r3 x1 x2 x3 q2 q3 refl d (rw (same, d.query) at later)));
            part = λ r3 begun.
                from-part serves.rest r3 (Left r3 begun.later)
                (rw e (part-then (Some i) (served m) rest r1 r2 r3 x1 x2 q2 (Left r3 begun.later) refl d
                (part-of i a ms r2 r3 (Left r3 begun.later) (served m).next.records q2 (served m).next.query same d.query (widest begun))));
          };
        }

    -- a message was served in part
    pub serves-part : {r2 : List Row} (IsLeft : List Row → Type 0) → AnswerPartlyApplied (Some i) (served m) r1 r2 IsLeft
        → AnswerPartlyApplied (Some i) (messages_answer (limits_of i) a (of i.name r0) q0 all) r0 r2 IsLeft
    serves-part {r2 = r2} IsLeft part = from-part serves.rest r2 IsLeft
        (rw e (part-first (Some i) (served m) (messages_answer (limits_of i) a (served m).next.records (served m).next.query ms) r1 r2 IsLeft false refl
        part))

-- ---- messages that are held

-- what is left of the messages that are held stands for what is left of those that are served
pub record HasServed (i : Institution) (a : Agreement) (helds : List HeldMessage) (all : List Message) (r0 r1 : List Row) (x0 x1 : List ℕ)
    (q0 q1 : Option OpenQuery) : Type 0 where
  pub left : List Message
  pub stand : AllRefine (accepted_by a) helds left
  pub serves : Serves i a all left r0 r1 x0 x1 q0 q1

pub record Unconsed (accepted : List Accepted) (held : HeldMessage) (helds : List HeldMessage) (left : List Message) : Type 0 where
  pub message : Message
  pub messages : List Message
  pub parts : left ≡ message ∷ messages
  pub on : RefinesOn accepted held message
  pub stand : AllRefine accepted helds messages

unconsed : (accepted : List Accepted) (held : HeldMessage) (helds : List HeldMessage) (left : List Message) → AllRefine accepted (held ∷ helds) left
    → Unconsed accepted held helds left
unconsed accepted held helds [] stand = absurd stand
unconsed accepted held helds (m ∷ ms) stand = record { message = m; messages = ms; parts = refl; on = stand.0; stand = stand.1 }

pub none_stands : (accepted : List Accepted) (left : List Message) → AllRefine accepted [] left → left ≡ []
none_stands accepted [] stand = refl
none_stands accepted (m ∷ ms) stand = absurd stand

module _ {i : Institution} {a : Agreement} {helds : List HeldMessage} {all : List Message} {r0 r1 : List Row} {x0 x1 : List ℕ}
    {q0 q1 : Option OpenQuery} (has : HasServed i a helds all r0 r1 x0 x1 q0 q1) where
  pub held-all : helds ≡ [] → AnswerApplied (Some i) (messages_answer (limits_of i) a (of i.name r0) q0 all) r0 r1 x0 x1 q1
  held-all e =
      serves-all has.serves (none_stands (accepted_by a) has.left (subst (λ (hs : List HeldMessage). AllRefine (accepted_by a) hs has.left) e has.stand))

  module _ {held : HeldMessage} {others : List HeldMessage} (e : helds ≡ held ∷ others) where
    next-held : Unconsed (accepted_by a) held others has.left
    next-held = unconsed (accepted_by a) held others has.left (subst (λ (hs : List HeldMessage). AllRefine (accepted_by a) hs has.left) e has.stand)

    pub held-next : {r2 : List Row} {x2 : List ℕ} {q2 : Option OpenQuery} → Lens
        → ((m : Message) → RefinesOn (accepted_by a) held m → AnswerApplied (Some i) (served_answer (limits_of i) a (of i.name r1) q1 m) r1 r2 x1 x2 q2)
        → HasServed i a others all r0 r2 x0 x2 q0 q2
    held-next lens d = record {
      left = next-held.messages;
      stand = next-held.stand;
      serves = serves-next has.serves next-held.parts lens (d next-held.message next-held.on);
    }

    pub held-part : {r2 : List Row} (IsLeft : List Row → Type 0)
        → ((m : Message) → RefinesOn (accepted_by a) held m → AnswerPartlyApplied (Some i) (served_answer (limits_of i) a (of i.name r1) q1 m) r1 r2 IsLeft)
        → AnswerPartlyApplied (Some i) (messages_answer (limits_of i) a (of i.name r0) q0 all) r0 r2 IsLeft
    held-part IsLeft part = serves-part has.serves next-held.parts IsLeft (part next-held.message next-held.on)

-- ---- what was taken
