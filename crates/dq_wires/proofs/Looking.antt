-- Steps after a look are steps from before it.
use Rattle.std.proofs.Common.{◌≡◌, ℕ, Bool, List, [], ◌∷◌, ◌++◌, ◌∙◌, ap, refl}
use Rattle.std.proofs.lemmas.List.{append-nil}
use Rattle.dq_config.specs.declared.config.Institution.{Institution}
use Rattle.dq_tables.specs.declared.row.Row.{Row}
use Rattle.dq_tables.specs.TableStates.{State}
use Rattle.dq_core.specs.declared.event.Event.{Event}
use Rattle.dq_core.specs.declared.event.Reply.{Reply}
use Rattle.dq_core.specs.Connections.{is_pending}
use Rattle.dq_core.specs.Shared.{turn, world_after}
use Rattle.dq_core.specs.Histories.{newest_after}
use Rattle.dq_core.specs.ServerView.{ServerView, Refines}
use Rattle.dq_core.specs.Looking.{Looked}
use Rattle.dq_core.proofs.TableCalls.{goes-then}
use Rattle.dq_core.proofs.Looking.{looked-none, looked-then}
use Rattle.dq_wires.specs.Steps.{Step, Runs}
use Rattle.dq_wires.specs.Steps.Step.{Answered, Asked}
use Rattle.dq_wires.specs.ServerSteps.{Stepped, Asks, Moves}
use Rattle.dq_wires.specs.Serving.{Serves}
use Rattle.dq_wires.specs.Servings.{ComesBy}
use Rattle.dq_wires.proofs.Histories.{runs_serve}
use Rattle.dq_wires.proofs.TurnSequences.{runs-then}

module _ {Tables : Type 0} {state : Tables → State} where
  pub stepped_after : {old mid new : ServerView Tables} {event : Event} {reply : Reply}
      → Looked state old mid → Stepped state mid new event reply → Stepped state old new event reply
  stepped_after {event = event} looked stepped = record {
    replied = λ rows events stood honest.
        stepped.replied rows events (looked.stands rows events stood (stepped.goes.was_honest honest)) honest
        ∙ ap (λ (i : List Institution). (turn i (world_after i rows events) event).reply) looked.institutions;
    stands = λ rows events stood honest.
        stepped.stands rows events (looked.stands rows events stood (stepped.goes.was_honest honest)) honest;
    institutions = stepped.institutions ∙ looked.institutions;
    newest = stepped.newest ∙ ap (λ n. newest_after n (event ∷ [])) looked.newest;
    unspent = stepped.unspent;
    goes = goes-then looked.goes stepped.goes;
  }

  -- a question, as it is answered
  pub asks-so : {server : ServerView Tables} (number asked : ℕ) (pending said : Bool) → asked ≡ number → said ≡ pending
      → ((rows : List Row) (events : List Event) → Refines state rows server events → said ≡ is_pending asked (world_after server.institutions rows events).connections)
      → Asks state server server number pending
  asks-so {server} number asked pending said at so told = record {
    looked = looked-none server;
    told = λ rows events stood honest. rw (so, at) at (told rows events stood);
  }

  asks-after : {old mid new : ServerView Tables} {number : ℕ} {pending : Bool}
      → Looked state old mid → Asks state mid new number pending → Asks state old new number pending
  asks-after {number = number} looked asks = record {
    looked = looked-then looked asks.looked;
    told = λ rows events stood honest.
        asks.told rows events (looked.stands rows events stood (asks.looked.goes.was_honest honest)) honest
        ∙ ap (λ (i : List Institution). is_pending number (world_after i rows events).connections) looked.institutions;
  }

  moves-after : (old mid new : ServerView Tables) (s : Step) → Looked state old mid → Moves state mid new s → Moves state old new s
  moves-after old mid new (Answered event reply) looked moves = stepped_after looked moves
  moves-after old mid new (Asked number pending) looked moves = asks-after looked moves

  -- no step, nor a look
  pub comes-none : (server : ServerView Tables) → ComesBy state server server []
  comes-none server = record { last = server; runs = refl; looks = looked-none server }

  -- a look more
  pub comes-looking : {first mid next : ServerView Tables} {steps : List Step}
      → ComesBy state first mid steps → Looked state mid next → ComesBy state first next steps
  comes-looking comes looked = record { last = comes.last; runs = comes.runs; looks = looked-then comes.looks looked }

  -- more steps: the looks before them are part of the first
  pub comes-more : (first mid next : ServerView Tables) (steps more : List Step)
      → ComesBy state first mid steps → Runs (Moves state) mid next more → ComesBy state first next (steps ++ more)
  comes-more first mid next steps [] comes same =
      record { last = comes.last; runs = rw (append-nil steps) comes.runs; looks = rw same comes.looks }
  comes-more first mid next steps (s ∷ more) comes (after, moves, rest) = record {
    last = next;
    runs = runs-then (Moves state) first comes.last next steps (s ∷ more) comes.runs (after, moves-after comes.last mid after s comes.looks moves, rest);
    looks = looked-none next;
  }

  pub comes-serve : (old new : ServerView Tables) (steps : List Step) → ComesBy state old new steps → Serves state old new steps
  comes-serve old new steps comes =
      let serves : Serves state old comes.last steps = runs_serve state old comes.last steps comes.runs in
      let looks = comes.looks in
      record {
        stands = λ rows events stood honest. looks.stands rows _ (serves.stands rows events stood (looks.goes.was_honest honest)) honest;
        replied = λ rows events stood honest. serves.replied rows events stood (looks.goes.was_honest honest);
        institutions = looks.institutions ∙ serves.institutions;
        was_honest = λ honest. serves.was_honest (looks.goes.was_honest honest);
        settles = λ honest settled. looks.goes.settles honest (serves.settles (looks.goes.was_honest honest) settled);
      }
