-- A server that stands for a history stands for it with one event more.
use Rattle.std.proofs.Common.{◌≡◌, ℕ, Bool, true, false, List, [], ◌∷◌, ◌++◌, Option, Some, inl, inr, refl, sym, ap, subst, ◌∙◌}
use Rattle.std.proofs.lemmas.Bool.{false≢true}
use Rattle.dq_config.specs.declared.config.Institution.{Institution}
use Rattle.dq_tables.specs.declared.row.Row.{Row}
use Rattle.dq_tables.specs.TableStates.{State}
use Rattle.dq_core.specs.declared.event.Event.{Event}
use Rattle.dq_core.specs.declared.event.Event.TheVariants as event
use Rattle.dq_core.specs.declared.event.Reply.{Reply}
use Rattle.dq_core.specs.Shared.{World, turn, world_after_turn, replies_from, world_from, first_world, world_after}
use Rattle.dq_core.specs.Histories.{newest_after}
use Rattle.dq_core.specs.Slots.{AreHeld, Turned}
use Rattle.dq_core.specs.Stepping.{HealthAfter}
use Rattle.dq_core.specs.ServerView.{ServerView, Refines}
use Rattle.dq_core.proofs.TableCalls.{ok_of}

module _ (institutions : List Institution) where
  pub world-append : (world : World) (xs ys : List Event)
      → world_from institutions world (xs ++ ys) ≡ world_from institutions (world_from institutions world xs) ys
  world-append world [] ys = refl
  world-append world (e ∷ xs) ys = world-append (world_after_turn world (turn institutions world e)) xs ys

  pub replies-append : (world : World) (xs ys : List Event)
      → replies_from institutions world (xs ++ ys) ≡ replies_from institutions world xs ++ replies_from institutions (world_from institutions world xs) ys
  replies-append world [] ys = refl
  replies-append world (e ∷ xs) ys =
      let t = turn institutions world e in ap (λ (rs : List Reply). t.reply ∷ rs) (replies-append (world_after_turn world t) xs ys)

pub newest-append : (newest : Option ℕ) (xs ys : List Event) → newest_after newest (xs ++ ys) ≡ newest_after (newest_after newest xs) ys
newest-append newest [] ys = refl
newest-append newest (event.Open number ∷ xs) ys = newest-append (Some number) xs ys
newest-append newest (event ∷ xs) ys = newest-append newest xs ys

-- An answer leaves tables that have not failed.
pub still-working : {A : Type 0} {old new : State} {a : A} → HealthAfter old new (ok_of a) → old.failed ≡ false → (b : Bool) → new.failed ≡ b → b ≡ false
still-working goes works false e = refl
still-working goes works true e = elim (goes.untold e) [ inl was ↦ absurd (false≢true (sym works ∙ was)) | inr faulted ↦ cc ]

pub stands-next : {Tables : Type 0} {state : Tables → State} {server new : ServerView Tables} {rows : List Row} {events : List Event} (event : Event)
    (reply : Reply) → Refines state rows server events → new.institutions ≡ server.institutions → new.spent ≡ server.spent
    → new.newest ≡ newest_after server.newest (event ∷ [])
    → (let world = world_after server.institutions rows events in
    Turned server.institutions (turn server.institutions world event) reply world.rows (state new.tables).rows new.slots)
    → HealthAfter (state server.tables) (state new.tables) (ok_of reply) → Refines state rows new (events ++ event ∷ [])
stands-next {state = state} {server = server} {new = new} {rows = rows} {events = events} event reply s i p n t g =
    let after = world-append server.institutions (first_world rows) events (event ∷ []) in record {
      unspent = p ∙ s.unspent;
      newest = rw (n, s.newest, newest-append) refl;
      holds = rw (i, after) (subst (λ (rs : List Row). AreHeld server.institutions rs new.slots
          (turn server.institutions (world_after server.institutions rows events) event).connections) t.rows t.holds);
      keeps = rw (i, after) t.rows;
      working = still-working g s.working (state new.tables).failed refl;
    }
