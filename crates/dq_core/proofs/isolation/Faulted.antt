-- Runs that a fault may have ended.
use Rattle.std.proofs.Common.{◌≡◌, ℕ, suc, List, length, take, None, ◌⊎◌, inl, inr, IsTrue, sym, ap, ◌∙◌, subst}
use Rattle.std.specs.Prelude.{filter}
use Rattle.dq_core.proofs.isolation.Vocabulary.{Institution, Row, Event, Reply, owner, replies, rows_within, is_own_event, is_on_connection, stream_of, replies_at, is_well_formed_history, stranger_replies, Begins, Agree, IsPrefix, IsRun, IsLeftOf, IsOwnRun}
use Rattle.dq_tables.specs.Rows.{of}
use Rattle.dq_core.proofs.isolation.Streams.{AddsInputs}
use Rattle.dq_core.proofs.isolation.Isolating.{Lenses}
use Rattle.dq_core.proofs.isolation.Promise.{isolated-rising, agreeing_fronts}
use Rattle.dq_core.proofs.isolation.Single.{single_among, single_within}
use Rattle.dq_core.proofs.isolation.Strangers.{strange_among}

pub own_run : AddsInputs → Lenses → (institutions : List Institution) (rows : List Row) (events : List Event) (given : List Reply) (kept : List Row)
    → IsRun institutions rows events given kept → (i : Institution) → Begins institutions rows events i → IsOwnRun institutions rows events i given kept
own_run adds lenses institutions rows events given kept run i b = record {
  same_replies = ap (replies_at (is_own_event institutions i.name events) events) run.first_replies
      ∙ single_among institutions rows events i adds lenses b (length given);
  operations = run.operations;
  same_records = ap (of i.name) run.rows_then ∙ single_within institutions rows events i adds lenses b (length given) run.operations;
}

pub strange_run : AddsInputs → (institutions : List Institution) (rows : List Row) (events : List Event) (given : List Reply) (kept : List Row)
    → IsRun institutions rows events given kept → (number : ℕ) → owner institutions (stream_of number events) ≡ None → IsTrue (is_well_formed_history events)
    → replies_at (is_on_connection number) events given ≡ stranger_replies (filter (is_on_connection number) (take (length given) events))
strange_run adds institutions rows events given kept run number none w =
    ap (replies_at (is_on_connection number) events) run.first_replies ∙ strange_among adds institutions rows events number (length given) none w

pub agreeing_runs : AddsInputs → Lenses → (institutions others : List Institution) (rows other_rows : List Row) (events other_events : List Event) (i j :
    Institution)
    → (given other_given : List Reply) (kept other_kept : List Row) → IsRun institutions rows events given kept
    → IsRun others other_rows other_events other_given other_kept
    → Begins institutions rows events i → Begins others other_rows other_events j → Agree institutions others rows other_rows events other_events i j
    → let some = replies_at (is_own_event institutions i.name events) events given in
    let more = replies_at (is_own_event others j.name other_events) other_events other_given in
    IsPrefix some more ⊎ IsPrefix more some
agreeing_runs adds lenses institutions others rows other_rows events other_events i j given other_given kept other_kept run other b c agree =
    let at : List Reply → List Reply = replies_at (is_own_event institutions i.name events) events in
    let other_at : List Reply → List Reply = replies_at (is_own_event others j.name other_events) other_events in
    let fronts = agreeing_fronts adds lenses institutions others rows other_rows events other_events i j (length given) (length other_given) b c agree in
    subst (λ (x : List Reply). IsPrefix x (other_at other_given) ⊎ IsPrefix (other_at other_given) x) (sym (ap at run.first_replies))
    (subst (λ (y : List Reply). IsPrefix (at (take (length given) (replies institutions rows events))) y ⊎ IsPrefix y (at (take (length given)
    (replies institutions rows events))))
    (sym (ap other_at other.first_replies)) fronts)

-- ---- what a crash leaves after a run

left-within : (institutions : List Institution) (rows : List Row) (events : List Event) (given : List Reply) (kept left : List Row)
    → IsLeftOf institutions rows events given kept left
    → (operations : ℕ) × (left ≡ rows_within institutions rows events (length given) operations)
left-within institutions rows events given kept left is = elim is.with_next [
  | inl same ↦ (is.operations, same ∙ is.rows_then)
  | inr next ↦ (suc is.operations, next)
]

pub left_run : (institutions : List Institution) (rows : List Row) (events : List Event) (given : List Reply) (kept left : List Row)
    → IsRun institutions rows events given kept → IsLeftOf institutions rows events given kept left → IsRun institutions rows events given left
left_run institutions rows events given kept left run is =
    let within = left-within institutions rows events given kept left is in
    record { first_replies = run.first_replies; operations = within.0; rows_then = within.1 }

pub left_begins : AddsInputs → Lenses → (institutions : List Institution) (rows : List Row) (events : List Event) (given : List Reply) (kept left : List Row)
    → IsLeftOf institutions rows events given kept left → (i : Institution) → Begins institutions rows events i → (more : List Event)
    → IsTrue (is_well_formed_history more) → Begins institutions left more i
left_begins adds lenses institutions rows events given kept left is i b more formed =
    let within = left-within institutions rows events given kept left is in record {
      own_names = b.own_names;
      listed = b.listed;
      rising = rw within.1 (isolated-rising adds lenses institutions rows events i (length given) within.0 b);
      well_formed = formed;
    }
