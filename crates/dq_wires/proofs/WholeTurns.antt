-- Turns of all, one after the other.
use Rattle.std.proofs.Common.{◌≡◌, ◌<◌, ◌+◌, ℕ, List, [], ◌∷◌, ◌++◌, Option, refl, sym, ◌∙◌, ap, length-append}
use Rattle.std.specs.List.{flat_map}
use Rattle.dq_core.specs.declared.event.Event.{Event}
use Rattle.dq_core.specs.declared.fault.Fault.{Fault}
use Rattle.dq_wires.specs.declared.calls.Call.{Call}
use Rattle.dq_wires.specs.declared.fault.TurnFault.{TurnFault}
use Rattle.dq_wires.specs.HeldConnections.{HeldConnection}
use Rattle.dq_wires.specs.Steps.{Step}
use Rattle.dq_wires.specs.ConnectionActions.{break_calls}
use Rattle.dq_wires.specs.Turns.{calls_of, done_steps, Hold, Turn, IsTurn, turn_calls, turn_steps, taking_calls, taking_steps, after_turn, AreTurns, after_turns, all_calls, all_steps, cut_calls, cut_steps, TurnsWent, TurnsCut}
use Rattle.dq_wires.specs.Turns.Cut.{Midway}
use Rattle.dq_wires.specs.TurnOutcomes.{RoundWent, RoundCut, TakingWent, TurnWent, TurnCut}
use Rattle.dq_wires.proofs.Logging.{logs-then, logs-none}
use Rattle.dq_wires.proofs.TurnSequences.{flat_map-more, runs-then}

pub hold-of : {h k : List HeldConnection} {n m : ℕ} → h ≡ k → n ≡ m → (let one : Hold = record { held = h; newest = n } in let other : Hold = record { held = k; newest = m } in one ≡ other)
hold-of a b = cc

are-more : (h : Hold) (turns : List Turn) (t : Turn) → AreTurns h turns → IsTurn (after_turns h turns) t → AreTurns h (turns ++ t ∷ [])
are-more h [] t a is = (is, tt)
are-more h (first ∷ turns) t a is = (a.0, are-more (after_turn h first) turns t a.1 is)

after-more : (h : Hold) (turns : List Turn) (t : Turn) → after_turns h (turns ++ t ∷ []) ≡ after_turn (after_turns h turns) t
after-more h [] t = refl
after-more h (first ∷ turns) t = after-more (after_turn h first) turns t

module _ {State : Type 0} {Goes : State → State → Step → Type 0} {before : Option (List Call)} {old : State} {from : Hold} where
  module _ {now after : Option (List Call)} {mid new : State} {h : List HeldConnection} {n : ℕ}
      (taken : TakingWent Goes before now old mid from (record { held = h; newest = n })) where
    -- a turn is its beginning and those of the connections
    pub turn-whole : {k : List HeldConnection} → RoundWent Goes now after mid new h k → TurnWent Goes before after old new from (record { held = k; newest = n })
    turn-whole {k} round = record {
      turn = record { taking = taken.taking; done = round.done };
      is = record { takes = taken.takes; each = round.each ∙ ap (λ (x : Hold). x.held) taken.leaves; due = round.due };
      calls = logs-then before now after (taking_calls taken.taking) (flat_map calls_of round.done) taken.calls round.calls;
      steps = runs-then Goes old mid new (taking_steps taken.taking) (flat_map done_steps round.done) taken.steps round.steps;
      leaves = hold-of round.kept (ap (λ (x : Hold). x.newest) taken.leaves);
    }

    pub turn-part : {Fails : State → State → Event → Fault → Type 0} {fault : TurnFault} → RoundCut Goes Fails now after mid new h fault
        → TurnCut Goes Fails before after old new from fault
    turn-part round = record {
      cut = Midway taken.taking round.done round.wire round.at;
      fits = record {
        takes = taken.takes;
        others = round.others;
        each = round.each ∙ ap (λ (x : Hold). x.held) taken.leaves;
        due = round.due;
        breaks = round.breaks;
      };
      calls = logs-then before now after (taking_calls taken.taking) (flat_map calls_of round.done ++ break_calls round.wire round.at) taken.calls round.calls;
      mid = round.mid;
      steps = runs-then Goes old mid round.mid (taking_steps taken.taking) (flat_map done_steps round.done) taken.steps round.steps;
      stops = round.stops;
    }

  pub turns-begin : TurnsWent Goes before before old old from from 0
  turns-begin = record { turns = []; whole = refl; are = tt; calls = logs-none before; steps = refl; leaves = refl }

  module _ {now : Option (List Call)} {mid : State} {to : Hold} {count : ℕ} (went : TurnsWent Goes before now old mid from to count)
      {after : Option (List Call)} {new : State} where
    -- one more
    pub turns-next : {last : Hold} → TurnWent Goes now after mid new to last → TurnsWent Goes before after old new from last (count + 1)
    turns-next {last} one = record {
      turns = went.turns ++ one.turn ∷ [];
      whole = length-append went.turns (one.turn ∷ []) ∙ ap (λ (n : ℕ). n + 1) went.whole;
      are = are-more from went.turns one.turn went.are (rw went.leaves at one.is);
      calls = rw (flat_map-more turn_calls went.turns one.turn) (logs-then before now after (all_calls went.turns) (turn_calls one.turn) went.calls one.calls);
      steps = rw (flat_map-more turn_steps went.turns one.turn) (runs-then Goes old mid new (all_steps went.turns) (turn_steps one.turn) went.steps one.steps);
      leaves = one.leaves ∙ ap (λ x. after_turn x one.turn) went.leaves ∙ sym (after-more from went.turns one.turn);
    }

    -- one that is cut off
    pub turns-cut : {Fails : State → State → Event → Fault → Type 0} {fault : TurnFault} {total : ℕ} → count < total
        → TurnCut Goes Fails now after mid new to fault → TurnsCut Goes Fails before after old new from total fault
    turns-cut {total = total} fewer one = record {
      turns = went.turns;
      fewer = rw went.whole fewer;
      are = went.are;
      cut = one.cut;
      fits = rw went.leaves at one.fits;
      calls = logs-then before now after (all_calls went.turns) (cut_calls one.cut) went.calls one.calls;
      mid = one.mid;
      steps = runs-then Goes old mid one.mid (all_steps went.turns) (cut_steps one.cut) went.steps one.steps;
      stops = one.stops;
    }
