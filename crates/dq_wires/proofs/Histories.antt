-- Steps, one after the other, are a history of the plain server.
use Rattle.std.proofs.Common.{◌≡◌, List, [], ◌∷◌, ◌++◌, refl, ◌∙◌, ap, append_assoc}
use Rattle.std.proofs.lemmas.List.{append-nil}
use Rattle.dq_config.specs.declared.config.Institution.{Institution}
use Rattle.dq_tables.specs.TableStates.{State}
use Rattle.dq_core.specs.declared.event.Event.{Event}
use Rattle.dq_core.specs.Shared.{World, turn, world_after_turn, world_from, first_world, world_after, replies_from}
use Rattle.dq_core.specs.ServerView.{ServerView}
use Rattle.dq_wires.specs.Steps.{Step, Runs, events_of, replies_of}
use Rattle.dq_wires.specs.Steps.Step.{Answered, Asked}
use Rattle.dq_wires.specs.ServerSteps.{Moves}
use Rattle.dq_wires.specs.Serving.{Serves}

world-next : (institutions : List Institution) (world : World) (events : List Event) (event : Event) → world_from institutions world (events ++ event ∷ [])
    ≡ world_after_turn (world_from institutions world events) (turn institutions (world_from institutions world events) event)
world-next institutions world [] event = refl
world-next institutions world (e ∷ events) event = world-next institutions (world_after_turn world (turn institutions world e)) events event

module _ {Tables : Type 0} (state : Tables → State) where
  pub runs_serve : (old new : ServerView Tables) (steps : List Step) → Runs (Moves state) old new steps → Serves state old new steps
  runs_serve old new [] same = record {
    stands = λ rows events stood h. rw (same, append-nil events) stood;
    replied = λ rows events stood h. refl;
    institutions = ap (λ (x : ServerView Tables). x.institutions) same;
    was_honest = λ h. rw same at h;
    settles = λ h s. rw same s;
  }
  runs_serve old new (Answered event reply ∷ steps) (mid, stepped, rest) =
      let later : Serves state mid new steps = runs_serve mid new steps rest in
      record {
        stands = λ rows events stood h. rw (← append_assoc events (event ∷ []) (events_of steps))
            (later.stands rows (events ++ event ∷ []) (stepped.stands rows events stood (later.was_honest h)) h);
        replied = λ rows events stood h.
            let first = stepped.replied rows events stood (later.was_honest h) in
            let others : replies_of steps ≡ replies_from mid.institutions (world_after mid.institutions rows (events ++ event ∷ [])) (events_of steps) =
            later.replied rows (events ++ event ∷ []) (stepped.stands rows events stood (later.was_honest h)) h in
            let moved = rw (stepped.institutions, world-next old.institutions (first_world rows) events event) at others in
            cc;
        institutions = later.institutions ∙ stepped.institutions;
        was_honest = λ h. stepped.goes.was_honest (later.was_honest h);
        settles = λ h s. later.settles h (stepped.goes.settles (later.was_honest h) s);
      }
  runs_serve old new (Asked number pending ∷ steps) (mid, asks, rest) =
      let later : Serves state mid new steps = runs_serve mid new steps rest in
      let looked = asks.looked in
      record {
        stands = λ rows events stood h. later.stands rows events (looked.stands rows events stood (later.was_honest h)) h;
        replied = λ rows events stood h. later.replied rows events (looked.stands rows events stood (later.was_honest h)) h
            ∙ ap (λ (i : List Institution). replies_from i (world_after i rows events) (events_of steps)) looked.institutions;
        institutions = later.institutions ∙ looked.institutions;
        was_honest = λ h. looked.goes.was_honest (later.was_honest h);
        settles = λ h s. later.settles h (looked.goes.settles (later.was_honest h) s);
      }
