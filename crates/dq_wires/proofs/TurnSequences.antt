-- The turns of connections, one after the other.
use Rattle.std.proofs.Common.{◌≡◌, ◌<◌, ◌+◌, ℕ, List, [], ◌∷◌, ◌++◌, length, map, get_or, set, remove, Bool, true, false, Option, refl, sym, ◌∙◌, ap, arith, append_assoc, length-append}
use Rattle.std.specs.List.{flat_map}
use Rattle.std.proofs.lemmas.List.{append-nil, map-append, flat_map_more}
use Rattle.dq_core.specs.declared.event.Event.{Event}
use Rattle.dq_core.specs.declared.fault.Fault.{Fault}
use Rattle.dq_wires.specs.declared.calls.Call.{Call}
use Rattle.dq_wires.specs.declared.fault.TurnFault.{TurnFault}
use Rattle.dq_wires.specs.Logs.{LogsAll}
use Rattle.dq_wires.specs.HeldConnections.{HeldConnection}
use Rattle.dq_wires.specs.Steps.{Step, Runs}
use Rattle.dq_wires.specs.ConnectionActions.{ConnectionAction, IsDue, action_calls, action_steps, action_after, break_calls}
use Rattle.dq_wires.specs.ConnectionTurns.{ActionDone, ActionCut}
use Rattle.dq_wires.specs.Turns.{Done, connection_of, calls_of, done_steps, connections_kept, AreDue}
use Rattle.dq_wires.specs.TurnOutcomes.{RoundWent, RoundCut}
use Rattle.dq_wires.proofs.Logging.{logs-then, logs-none}

-- one element more
pub flat_map-more : {X A : Type 0} (f : X → List A) (xs : List X) (x : X) → flat_map f (xs ++ x ∷ []) ≡ flat_map f xs ++ f x
flat_map-more f xs x = sym (flat_map_more f [] xs x)

pub map-more : {X A : Type 0} (f : X → A) (xs : List X) (x : X) → map f (xs ++ x ∷ []) ≡ map f xs ++ f x ∷ []
map-more f xs x = map-append f xs (x ∷ [])

-- steps, and then others
pub runs-then : {State : Type 0} (Goes : State → State → Step → Type 0) (old mid new : State) (first later : List Step)
    → Runs Goes old mid first → Runs Goes mid new later → Runs Goes old new (first ++ later)
runs-then Goes old mid new [] later a b = rw a at b
runs-then Goes old mid new (s ∷ first) later a b = (a.0, a.1, runs-then Goes a.0 mid new first later a.2 b)

pub due-more : (done : List Done) (d : Done) → AreDue done → IsDue d.wire d.action → AreDue (done ++ d ∷ [])
due-more [] d a h = (h, tt)
due-more (e ∷ done) d a h = (a.0, due-more done d a.1 h)

-- the element after the front of a list
pub get-at : {X : Type 0} (front : List X) (x : X) (rest : List X) (d : X) → get_or (front ++ x ∷ rest) (length front) d ≡ x
get-at [] x rest d = refl
get-at (y ∷ front) x rest d = get-at front x rest d

pub set-at : {X : Type 0} (front : List X) (x : X) (rest : List X) (v : X) → set (front ++ x ∷ rest) (length front) v ≡ front ++ v ∷ rest
set-at [] x rest v = refl
set-at (y ∷ front) x rest v = ap (λ l. y ∷ l) (set-at front x rest v)

pub remove-at : {X : Type 0} (front : List X) (x : X) (rest : List X) → remove (front ++ x ∷ rest) (length front) ≡ front ++ rest
remove-at [] x rest = refl
remove-at (y ∷ front) x rest = ap (λ l. y ∷ l) (remove-at front x rest)

-- Some have had their turns. Where the next stands in what is held, the others come after it.
pub record RoundSo {State : Type 0} (Goes : State → State → Step → Type 0) (before now : Option (List Call)) (old mid : State) (from held : List HeldConnection)
    (at : ℕ) : Type 0 where
  pub done : List Done
  pub others : List HeldConnection
  pub each : map connection_of done ++ others ≡ from
  pub due : AreDue done
  pub calls : LogsAll before now (flat_map calls_of done)
  pub steps : Runs Goes old mid (flat_map done_steps done)
  pub holds : held ≡ flat_map connections_kept done ++ others
  pub place : at ≡ length (flat_map connections_kept done)

module _ {State : Type 0} {Goes : State → State → Step → Type 0} where
  pub round-begins : (log : Option (List Call)) (old : State) (from : List HeldConnection) → RoundSo Goes log log old old from from 0
  round-begins log old from =
      record { done = []; others = from; each = refl; due = tt; calls = logs-none log; steps = refl; holds = refl; place = refl }

  module _ {before now : Option (List Call)} {old mid : State} {from held : List HeldConnection} {at : ℕ} (so : RoundSo Goes before now old mid from held at) where
    -- all have had their turns
    pub round-ends : length held < at + 1 → RoundWent Goes before now old mid from held
    round-ends h = ends so.others so.each so.holds where
      ends : (others : List HeldConnection) → map connection_of so.done ++ others ≡ from → held ≡ flat_map connections_kept so.done ++ others → RoundWent Goes before now old mid from held
      ends [] each holds = record {
        done = so.done;
        each = sym (append-nil (map connection_of so.done)) ∙ each;
        due = so.due;
        calls = so.calls;
        steps = so.steps;
        kept = holds ∙ append-nil (flat_map connections_kept so.done);
      }
      ends (wire ∷ others) each holds = absurd (omega (arith, so.place, h, ap length holds, length-append (flat_map connections_kept so.done) (wire ∷ others)))

    module _ (others : List HeldConnection) (wire : HeldConnection) (each : map connection_of so.done ++ wire ∷ others ≡ from) (holds : held ≡ flat_map connections_kept so.done ++ wire ∷ others)
      where
        -- the next is at the place
        next-is : (d : HeldConnection) → get_or held at d ≡ wire
        next-is d = rw (holds, so.place) (get-at (flat_map connections_kept so.done) wire others d)

        after-set : (next : HeldConnection) → set held at next ≡ flat_map connections_kept so.done ++ next ∷ others
        after-set next = rw (holds, so.place) (set-at (flat_map connections_kept so.done) wire others next)

        each-more : (action : ConnectionAction) → map connection_of (so.done ++ (record { wire = wire; action = action }) ∷ []) ++ others ≡ from
        each-more action = ap (λ l. l ++ others) (map-more connection_of so.done (record { wire = wire; action = action })) ∙ append_assoc (map connection_of so.done) (wire ∷ []) others ∙ each

        kept-more : (action : ConnectionAction) (left : List HeldConnection) → action_after wire action ≡ left
            → flat_map connections_kept (so.done ++ (record { wire = wire; action = action }) ∷ []) ≡ flat_map connections_kept so.done ++ left
        kept-more action left e = flat_map-more connections_kept so.done (record { wire = wire; action = action }) ∙ ap (λ l. flat_map connections_kept so.done ++ l) e

        is-cut : {after : Option (List Call)} {new : State} {Fails : State → State → Event → Fault → Type 0} {fault : TurnFault} → ActionCut Fails now after mid new wire fault
            → RoundCut Goes Fails before after old new from fault
        is-cut {after = after} off = record {
          done = so.done;
          wire = wire;
          others = others;
          each = each;
          due = so.due;
          at = off.at;
          breaks = off.fits;
          calls = logs-then before now after (flat_map calls_of so.done) (break_calls wire off.at) so.calls off.calls;
          mid = mid;
          steps = so.steps;
          stops = off.stops;
        }

        module _ {after : Option (List Call)} {new : State} {next : HeldConnection} where
          is-kept : ActionDone Goes now after mid new wire next true → RoundSo Goes before after old new from (set held at next) (at + 1)
          is-kept went =
              let item : Done = record { wire = wire; action = went.action } in
              let grown : flat_map connections_kept (so.done ++ item ∷ []) ≡ flat_map connections_kept so.done ++ next ∷ [] = kept-more went.action (next ∷ []) went.kept in
              record {
                done = so.done ++ item ∷ [];
                others = others;
                each = each-more went.action;
                due = due-more so.done item so.due went.due;
                calls = rw (flat_map-more calls_of so.done item) (logs-then before now after (flat_map calls_of so.done) (action_calls wire went.action) so.calls went.calls);
                steps = rw (flat_map-more done_steps so.done item) (runs-then Goes old mid new (flat_map done_steps so.done) (action_steps wire went.action) so.steps went.steps);
                holds = after-set next ∙ sym (append_assoc (flat_map connections_kept so.done) (next ∷ []) others) ∙ ap (λ l. l ++ others) (sym grown);
                place = omega (arith, so.place, ap length grown, length-append (flat_map connections_kept so.done) (next ∷ []));
              }

          is-dropped : ActionDone Goes now after mid new wire next false → RoundSo Goes before after old new from (remove (set held at next) at) at
          is-dropped went =
              let item : Done = record { wire = wire; action = went.action } in
              let grown : flat_map connections_kept (so.done ++ item ∷ []) ≡ flat_map connections_kept so.done = kept-more went.action [] went.kept ∙ append-nil (flat_map connections_kept so.done) in
              record {
                done = so.done ++ item ∷ [];
                others = others;
                each = each-more went.action;
                due = due-more so.done item so.due went.due;
                calls = rw (flat_map-more calls_of so.done item) (logs-then before now after (flat_map calls_of so.done) (action_calls wire went.action) so.calls went.calls);
                steps = rw (flat_map-more done_steps so.done item) (runs-then Goes old mid new (flat_map done_steps so.done) (action_steps wire went.action) so.steps went.steps);
                holds = rw (after-set next, so.place, remove-at, grown) refl;
                place = rw grown so.place;
              }

    module _ {after : Option (List Call)} {new : State} {next : HeldConnection} (within : at < length held) (w : HeldConnection) (found : w ≡ get_or held at w) {b : Bool} where
      pub round-kept : b ≡ true → ActionDone Goes now after mid new w next b → RoundSo Goes before after old new from (set held at next) (at + 1)
      round-kept holds-on went = by so.others so.each so.holds where
        by : (others : List HeldConnection) → map connection_of so.done ++ others ≡ from → held ≡ flat_map connections_kept so.done ++ others
            → RoundSo Goes before after old new from (set held at next) (at + 1)
        by [] each holds = absurd (omega (arith, so.place, within, ap length holds, length-append (flat_map connections_kept so.done) []))
        by (wire ∷ others) each holds = is-kept others wire each holds (rw (found ∙ next-is others wire each holds w, holds-on) at went)

      pub round-dropped : b ≡ false → ActionDone Goes now after mid new w next b → RoundSo Goes before after old new from (remove (set held at next) at) at
      round-dropped let-go went = by so.others so.each so.holds where
        by : (others : List HeldConnection) → map connection_of so.done ++ others ≡ from → held ≡ flat_map connections_kept so.done ++ others
            → RoundSo Goes before after old new from (remove (set held at next) at) at
        by [] each holds = absurd (omega (arith, so.place, within, ap length holds, length-append (flat_map connections_kept so.done) []))
        by (wire ∷ others) each holds = is-dropped others wire each holds (rw (found ∙ next-is others wire each holds w, let-go) at went)

    pub round-cut : {after : Option (List Call)} {new : State} {Fails : State → State → Event → Fault → Type 0} {fault : TurnFault} → at < length held → (w : HeldConnection) → w ≡ get_or held at w → ActionCut Fails now after mid new w fault
        → RoundCut Goes Fails before after old new from fault
    round-cut {after} {new} {Fails} {fault} within w found off = by so.others so.each so.holds where
      by : (others : List HeldConnection) → map connection_of so.done ++ others ≡ from → held ≡ flat_map connections_kept so.done ++ others
          → RoundCut Goes Fails before after old new from fault
      by [] each holds = absurd (omega (arith, so.place, within, ap length holds, length-append (flat_map connections_kept so.done) []))
      by (wire ∷ others) each holds = is-cut others wire each holds (rw (found ∙ next-is others wire each holds w) at off)
