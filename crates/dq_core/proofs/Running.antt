-- A run of a history, event by event.
use Rattle.std.proofs.Common.{◌≡◌, ◌≢◌, ℕ, suc, false, IsTrue, List, [], ◌∷◌, ◌++◌, length, take, Option, Some, None, Result, Ok, Err, inl, inr, refl, sym, ap, ◌∙◌, append_assoc}
use Rattle.std.specs.Prelude.{Contains}
use Rattle.std.specs.Result.{result_err, MatchResult, OnOk, OnErr}
use Rattle.std.proofs.lemmas.List.{length-append}
use Rattle.std.proofs.Math.Seq.{take-append_seam, drop-append_seam, take-length}
use Rattle.dq_config.specs.declared.config.Institution.{Institution}
use Rattle.dq_tables.specs.declared.row.Row.{Row}
use Rattle.dq_tables.specs.Rows.{Operation, after_all, IsRising}
use Rattle.dq_tables.specs.TableStates.{State, IsSettled}
use Rattle.dq_core.specs.declared.event.Event.{Event}
use Rattle.dq_core.specs.declared.event.Event.TheVariants as event
use Rattle.dq_core.specs.declared.event.Reply.{Reply}
use Rattle.dq_core.specs.declared.fault.Fault.{Fault}
use Rattle.dq_core.specs.Shared.{World, turn, world_after_turn, replies_from, first_world, replies, world_after, operations_next, rows_within}
use Rattle.dq_core.specs.Histories.{is_above, newest_after, rises_from, is_well_formed_history}
use Rattle.dq_core.specs.Owners.{HaveOwnNames}
use Rattle.dq_core.specs.Isolation.{Begins}
use Rattle.dq_core.specs.Stepping.{Opens, TakesNoMemory, HealthAfter, MayLeaveAfter, IsPartOf}
use Rattle.dq_core.specs.Runs.{IsRun, IsLeftOf, FaultsAfter}
use Rattle.dq_core.specs.ServerView.{ServerView, Refines}
use Rattle.dq_core.proofs.Composing.{after-append}
use Rattle.dq_core.proofs.TableCalls.{ok_of, goes-then, goes-start}
use Rattle.dq_core.proofs.isolation.Rising.{both-true}
use Rattle.dq_core.proofs.Refinement.{replies-append, newest-append}

rises-later : (newest : Option ℕ) (xs ys : List Event) → IsTrue (rises_from newest (xs ++ ys)) → IsTrue (rises_from (newest_after newest xs) ys)
rises-later newest [] ys h = h
rises-later newest (event.Open number ∷ xs) ys h = rises-later (Some number) xs ys
    (both-true (is_above newest number) (rises_from (Some number) (xs ++ ys)) h).1
rises-later newest (event ∷ xs) ys h = rises-later newest xs ys h

opens-at : (newest : Option ℕ) (event : Event) (later : List Event) → IsTrue (rises_from newest (event ∷ later)) → Opens newest event
opens-at newest (event.Open number) later h = (both-true (is_above newest number) (rises_from (Some number) later) h).0
opens-at newest event later h = tt

count-from : (institutions : List Institution) (world : World) (events : List Event) → length (replies_from institutions world events) ≡ length events
count-from institutions world [] = refl
count-from institutions world (e ∷ events) = ap (λ n. suc n) (count-from institutions (world_after_turn world (turn institutions world e)) events)

-- the rows after one operation more
take-next : (done later : List Operation) → take (suc (length done)) (done ++ later) ≡ done ++ take 1 later
take-next [] later = refl
take-next (x ∷ done) later = ap (λ (os : List Operation). x ∷ os) (take-next done later)

next-made : (operations done later : List Operation) (before after : List Row) → done ++ later ≡ operations → after ≡ after_all done before
    → after_all (take 1 later) after ≡ after_all (take (suc (length done)) operations) before
next-made operations done later before after w m = rw (← w, take-next done later, after-append done (take 1 later) before, m) refl

module _ (institutions : List Institution) (rows : List Row) where
  pub replies_follow : (events : List Event) (event : Event) → replies institutions rows (events ++ event ∷ [])
      ≡ replies institutions rows events ++ (turn institutions (world_after institutions rows events) event).reply ∷ []
  replies_follow events event = replies-append institutions (first_world rows) events (event ∷ [])

  pub replies_count : (events : List Event) → length (replies institutions rows events) ≡ length events
  replies_count events = count-from institutions (first_world rows) events

  -- as many replies as events
  pub all-replies : (events : List Event) (given : List Reply) (kept : List Row) → IsRun institutions rows events given kept
      → length given ≡ length events → given ≡ replies institutions rows events
  all-replies events given kept run e =
      run.first_replies ∙ ap (λ (n : ℕ). take n (replies institutions rows events)) (e ∙ sym (replies_count events))
      ∙ take-length (replies institutions rows events)

  module _ (done left : List Event) (given : List Reply) (e : given ≡ replies institutions rows done) where
    -- the replies to the first events are the first replies
    front : given ≡ take (length given) (replies institutions rows (done ++ left))
    front = rw (replies-append institutions (first_world rows) done left, ← e) (sym (take-append_seam given _))

    -- the rows after the first events, and a part of the next
    within : (j : ℕ) → rows_within institutions rows (done ++ left) (length given) j
        ≡ after_all (take j (operations_next institutions (world_after institutions rows done) left)) (world_after institutions rows done).rows
    within j =
        let n : length given ≡ length done = ap length e ∙ replies_count done in
        rw (n, take-append_seam done left, drop-append_seam done left) refl

  module _ (done : List Event) (event : Event) (later : List Event) (given : List Reply) (kept : List Row) (IsLeft : List Row → Type 0)
      (e : given ≡ replies institutions rows done)
      (p : (let world = world_after institutions rows done in IsPartOf (turn institutions world event).operations world.rows kept IsLeft)) where
    kept-part : kept ≡ rows_within institutions rows (done ++ event ∷ later) (length given) (length p.done)
    kept-part = rw (within done (event ∷ later) given e (length p.done), ← p.whole, take-append_seam p.done p.later) p.made

    pub run-part : IsRun institutions rows (done ++ event ∷ later) given kept
    run-part = record { first_replies = front done (event ∷ later) given e; operations = length p.done; rows_then = kept-part }

    pub run-left : (r : List Row) → IsLeft r → IsLeftOf institutions rows (done ++ event ∷ later) given kept r
    run-left r left = record {
      operations = length p.done;
      rows_then = kept-part;
      with_next = elim (p.crash r left) [
        | inl same ↦ inl same
        | inr next ↦ inr (next ∙ next-made (turn institutions (world_after institutions rows done) event).operations p.done p.later
            (world_after institutions rows done).rows kept p.whole p.made ∙ sym (within done (event ∷ later) given e (suc (length p.done))))
      ];
    }

-- an answer without a fault
abbrev pub went : Result (Unit {0}) Fault
went = Ok tt

-- Events that were answered so far, and those that are left.
pub record RanSo {Tables : Type 0} (state : Tables → State) (first now : ServerView Tables)
    (given : List Reply) (all done left : List Event) : Type 0 where
  pub parts : done ++ left ≡ all
  pub count : length given ≡ length done
  pub unspent : now.spent ≡ false
  pub newest : now.newest ≡ newest_after first.newest done
  pub institutions : now.institutions ≡ first.institutions
  pub goes : HealthAfter (state first.tables) (state now.tables) went
  pub stands : (rows : List Row) → Refines state rows first [] → (state now.tables).honest → Refines state rows now done
  pub replied : (rows : List Row) → Refines state rows first [] → (state now.tables).honest → given ≡ replies first.institutions rows done

-- What a step gives, where it gives a reply.
pub record Stepped {Tables : Type 0} (state : Tables → State) (now next : ServerView Tables)
    (event : Event) (reply : Reply) : Type 0 where
  pub replied : (rows : List Row) (events : List Event) → Refines state rows now events → (state next.tables).honest
      → reply ≡ (turn now.institutions (world_after now.institutions rows events) event).reply
  pub stands : (rows : List Row) (events : List Event) → Refines state rows now events → (state next.tables).honest
      → Refines state rows next (events ++ event ∷ [])
  pub institutions : next.institutions ≡ now.institutions
  pub newest : next.newest ≡ newest_after now.newest (event ∷ [])
  pub unspent : next.spent ≡ false
  pub goes : HealthAfter (state now.tables) (state next.tables) (ok_of reply)

module _ {Tables : Type 0} {state : Tables → State} {first now : ServerView Tables}
    {given : List Reply} {all done left : List Event} (ran : RanSo state first now given all done left)
    {event : Event} {later : List Event} (e : left ≡ event ∷ later) where
  -- The next event opens a number that is above the others.
  pub ran-opens : IsTrue (rises_from first.newest all) → Opens now.newest event
  ran-opens w = rw ran.newest (opens-at (newest_after first.newest done) event later
      (rises-later first.newest done (event ∷ later) (rw (← ran.parts, e) at w)))

  -- A fault within the next event: the first of its operations were made.
  pub ran-part : (next : Tables) → ((state next).honest → (state now.tables).honest)
      → ((rows : List Row) (events : List Event) → Refines state rows now events → (state next).honest
      → (let world = world_after now.institutions rows events in
      IsPartOf (turn now.institutions world event).operations world.rows (state next).rows (MayLeaveAfter (state now.tables) (state next))))
      → (rows : List Row) → Refines state rows first [] → (state next).honest → IsRun first.institutions rows all given (state next).rows
  ran-part next was part rows f h = rw (← ran.parts, e) (run-part first.institutions rows done event later given (state next).rows
      (MayLeaveAfter (state now.tables) (state next))
      (ran.replied rows f (was h)) (rw (← ran.institutions) (part rows done (ran.stands rows f (was h)) h)))

  -- and what a crash leaves
  pub ran-left : (next : Tables) → ((state next).honest → (state now.tables).honest)
      → ((rows : List Row) (events : List Event) → Refines state rows now events → (state next).honest
      → (let world = world_after now.institutions rows events in
      IsPartOf (turn now.institutions world event).operations world.rows (state next).rows (MayLeaveAfter (state now.tables) (state next))))
      → (rows : List Row) → Refines state rows first [] → (state next).honest → IsSettled (state first.tables)
      → (r : List Row) → (state next).may_leave r → IsLeftOf first.institutions rows all given (state next).rows r
  ran-left next was part rows f h settled r left = rw (← ran.parts, e) (run-left first.institutions rows done event later given (state next).rows
      (MayLeaveAfter (state now.tables) (state next))
      (ran.replied rows f (was h)) (rw (← ran.institutions) (part rows done (ran.stands rows f (was h)) h)) r
      (ran.goes.settles (was h) settled, left))

  -- A fault within the next event, which is none that takes no memory.
  pub ran-faulted : (next : Tables) → ((state next).honest → (state now.tables).honest)
      → ((rows : List Row) (events : List Event) → Refines state rows now events
      → TakesNoMemory (world_after now.institutions rows events).connections event → ⊥)
      → (rows : List Row) → Refines state rows first [] → (state next).honest → FaultsAfter first.institutions rows all (length given)
  ran-faulted next was loud rows f h =
      rw (← ran.parts, e, ran.count, take-append_seam done (event ∷ later), drop-append_seam done (event ∷ later))
      (rw (← ran.institutions) (loud rows done (ran.stands rows f (was h))))

  module _ {next : ServerView Tables} {reply : Reply} (stepped : Stepped state now next event reply) where
    -- one event more, whose reply was added
    pub ran-next : {grown : List Reply} → grown ≡ given ++ reply ∷ [] → RanSo state first next grown all (done ++ event ∷ []) later
    ran-next m = record {
      parts = append_assoc done (event ∷ []) later ∙ rw (← e) ran.parts;
      count = rw (m, length-append, length-append, ran.count) refl;
      unspent = stepped.unspent;
      newest = rw (stepped.newest, ran.newest, newest-append) refl;
      institutions = stepped.institutions ∙ ran.institutions;
      goes = goes-then (goes-then ran.goes stepped.goes) goes-start;
      stands = λ rows f h. stepped.stands rows done (ran.stands rows f (stepped.goes.was_honest h)) h;
      replied = λ rows f h.
          let stood = ran.stands rows f (stepped.goes.was_honest h) in
          rw (m, ran.replied rows f (stepped.goes.was_honest h), stepped.replied rows done stood h, ran.institutions, replies_follow) refl;
    }

-- what holds of an answer without a fault
pub without-fault : {A : Type 0} {P : Type 0} (Q : Fault → Type 0) (r : Result A Fault) (fault : Option Fault) → fault ≡ result_err r → fault ≡ None
    → MatchResult r (λ _. P) Q → P
without-fault Q (Ok a) fault e n p = p
without-fault Q (Err f) fault e n p = cc

pub without-err : {A : Type 0} {P : Type 0} (r : Result A Fault) (fault : Option Fault) → fault ≡ result_err r → fault ≡ None → OnOk r P → P
without-err (Ok a) fault e n p = p
without-err (Err f) fault e n p = cc

-- and of a fault
pub with-fault : {A : Type 0} {P : Type 0} (r : Result A Fault) (fault : Option Fault) → fault ≡ result_err r → (fault ≡ None → ⊥) → OnErr r P → P
with-fault (Ok a) fault e n p = absurd (n e)
with-fault (Err f) fault e n p = p

-- a history of a configuration begins
pub begun : {institutions : List Institution} {rows : List Row} {events : List Event} (i : Institution) → HaveOwnNames institutions
    → Contains institutions i → IsRising rows → IsTrue (is_well_formed_history events) → Begins institutions rows events i
begun i names listed rising formed = record { own_names = names; listed = listed; rising = rising; well_formed = formed }

-- what a crash leaves of what a run came to, where before it could leave the rows alone
module _ (institutions : List Institution) (rows : List Row) (events : List Event) (given : List Reply) (now : State) where
  pub left-of : (fault : Option Fault) → IsRun institutions rows events given now.rows → (fault ≡ None → IsSettled now)
      → (fault ≢ None → (r : List Row) → now.may_leave r → IsLeftOf institutions rows events given now.rows r)
      → (r : List Row) → now.may_leave r → IsLeftOf institutions rows events given now.rows r
  left-of None run settled crash r may = record { operations = run.operations; rows_then = run.rows_then; with_next = inl ((settled refl).only r may) }
  left-of (Some fault) run settled crash r may = crash (λ is. cc) r may
