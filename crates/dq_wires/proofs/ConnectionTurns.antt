-- How the turn of a connection went, by each action.
use Rattle.std.proofs.Common.{◌≡◌, ◌≤◌, ℕ, true, false, List, [], ◌∷◌, length, drop, Option, Some, Result, Ok, Err, refl, sym, ap, inl, inr}
use Rattle.std.specs.Result.{IfErr, result_err}
use Rattle.dq_core.specs.declared.event.Event.{Event}
use Rattle.dq_core.specs.declared.event.Event.TheVariants.{Piece, End, Pull}
use Rattle.dq_core.specs.declared.fault.Fault.{Fault}
use Rattle.dq_wires.specs.declared.calls.Call.{Call}
use Rattle.dq_wires.specs.declared.calls.Call.TheVariants.{Read, Write, Shut}
use Rattle.dq_wires.specs.declared.calls.ReadOutcome.{ReadOutcome}
use Rattle.dq_wires.specs.declared.calls.ReadOutcome.TheVariants as came
use Rattle.dq_wires.specs.declared.fault.TurnFault.{TurnFault}
use Rattle.dq_wires.specs.Limits.{most_read}
use Rattle.dq_wires.specs.Logs.{Logs}
use Rattle.dq_wires.specs.HeldConnections.{HeldConnection}
use Rattle.dq_wires.specs.Steps.{Step, Runs, StopsBy}
use Rattle.dq_wires.specs.Steps.Step.{Answered, Asked}
use Rattle.dq_wires.specs.ConnectionActions.{Shutting, IsSending, IsListening, TellsEnd, write_failure}
use Rattle.dq_wires.specs.ConnectionActions.ConnectionAction.{Sent, WriteFailed, LastWriteFailed, Closed, Received, Idle, Pulled, PeerLeft}
use Rattle.dq_wires.specs.ConnectionActions.Break.{OutOfMemory, PieceFailed, PullFailed, EndFailed}
use Rattle.dq_wires.specs.ConnectionTurns.{Ends, Hears, Waits, FailsToHear, ActionDone, ActionCut}
use Rattle.dq_wires.proofs.Logging.{logs-then}

-- what holds of a fault that a call handed on
pub handed-on : {A : Type 0} (r : Result A TurnFault) {fault : TurnFault} (P : TurnFault → Type 0) → result_err r ≡ Some fault → P fault → IfErr r P
handed-on (Ok a) P e p = tt
handed-on (Err f) {fault} P e p = let same : f ≡ fault = cc in rw same p

-- one step
run-one : {State : Type 0} (Goes : State → State → Step → Type 0) {old new : State} (s : Step) → Goes old new s → Runs Goes old new (s ∷ [])
run-one Goes {old} {new} s goes = (new, goes, refl)

module _ {State : Type 0} {Goes : State → State → Step → Type 0} {before after : Option (List Call)} {old : State} {wire : HeldConnection} where
  pub went-sent : (next : HeldConnection) (place : ℕ) (offered : List ℕ) (count : ℕ) → place ≡ wire.place → offered ≡ wire.unsent → IsSending wire
      → count ≤ length offered → Logs before after (Write place offered (Ok count)) → next ≡ record wire { unsent = drop count wire.unsent }
      → ActionDone Goes before after old old wire next true
  went-sent next place offered count at all sending bound told kept = record {
    action = Sent count;
    due = (sending, rw all at bound);
    calls = rw (at, all) at told;
    steps = refl;
    kept = ap (λ (w : HeldConnection). w ∷ []) (sym kept);
  }

  pub went-lost : (mid : Option (List Call)) (next : HeldConnection) (place then_place : ℕ) (offered : List ℕ) (answer : Shutting) → place ≡ wire.place
      → offered ≡ wire.unsent → IsSending wire → wire.closed ≡ true → Logs before mid (Write place offered write_failure)
      → then_place ≡ wire.place → Logs mid after (Shut then_place answer) → ActionDone Goes before after old old wire next false
  went-lost mid next place then_place offered answer at all sending closed told at' told' = record {
    action = LastWriteFailed answer;
    due = (sending, closed);
    calls = logs-then before mid after (Write wire.place wire.unsent write_failure ∷ []) (Shut wire.place answer ∷ []) (rw (at, all) at told) (rw at' at told');
    steps = refl;
    kept = refl;
  }

  pub went-closed : (next : HeldConnection) (place : ℕ) (answer : Shutting) → wire.unsent ≡ [] → wire.closed ≡ true → place ≡ wire.place
      → Logs before after (Shut place answer) → ActionDone Goes before after old old wire next false
  went-closed next place answer sent closed at told =
      record { action = Closed answer; due = (sent, closed); calls = rw at at told; steps = refl; kept = refl }

  module _ {new : State} where
    pub went-waiting : (next : HeldConnection) (place room : ℕ) → IsListening wire → place ≡ wire.place → room ≡ most_read
        → Logs before after (Read place room came.Nothing) → Waits Goes old new wire next → ActionDone Goes before after old new wire next true
    went-waiting next place room listening at all told (inl silent) = record {
      action = Idle;
      due = listening;
      calls = rw (at, all) at told;
      steps = run-one Goes (Asked wire.number false) silent.0;
      kept = ap (λ (w : HeldConnection). w ∷ []) (sym silent.1);
    }
    went-waiting next place room listening at all told (inr pulls) = record {
      action = Pulled pulls.reply;
      due = listening;
      calls = rw (at, all) at told;
      steps = (pulls.mid, pulls.is_open, run-one Goes (Answered (Pull wire.number) pulls.reply) pulls.goes);
      kept = ap (λ (w : HeldConnection). w ∷ []) (sym pulls.kept);
    }

    pub went-broke : (mid : Option (List Call)) (next : HeldConnection) (place : ℕ) (offered : List ℕ) → place ≡ wire.place → offered ≡ wire.unsent
        → IsSending wire → wire.closed ≡ false → Logs before mid (Write place offered write_failure) → Ends Goes mid after old new wire
        → ActionDone Goes before after old new wire next false
    went-broke mid next place offered at all sending unclosed told ends = record {
      action = WriteFailed ends.reply ends.answer;
      due = (sending, unclosed);
      calls = logs-then before mid after (Write wire.place wire.unsent write_failure ∷ []) (Shut wire.place ends.answer ∷ []) (rw (at, all) at told) ends.calls;
      steps = run-one Goes (Answered (End wire.number) ends.reply) ends.goes;
      kept = refl;
    }

    pub went-heard : (next : HeldConnection) (place room : ℕ) (octets : List ℕ) → IsListening wire → length octets ≤ most_read → place ≡ wire.place
        → room ≡ most_read → Logs before after (Read place room (came.Octets octets)) → Hears Goes old new wire next octets
        → ActionDone Goes before after old new wire next true
    went-heard next place room octets listening bound at all told hears = record {
      action = Received octets hears.reply;
      due = (listening, bound);
      calls = rw (at, all) at told;
      steps = run-one Goes (Answered (Piece wire.number octets) hears.reply) hears.goes;
      kept = ap (λ (w : HeldConnection). w ∷ []) (sym hears.kept);
    }

    pub went-left : (mid : Option (List Call)) (next : HeldConnection) (place room : ℕ) (came : ReadOutcome) → IsListening wire → TellsEnd came → place ≡ wire.place
        → room ≡ most_read → Logs before mid (Read place room came) → Ends Goes mid after old new wire
        → ActionDone Goes before after old new wire next false
    went-left mid next place room came listening ended at all told ends = record {
      action = PeerLeft came ends.reply ends.answer;
      due = (listening, ended);
      calls = logs-then before mid after (Read wire.place most_read came ∷ []) (Shut wire.place ends.answer ∷ []) (rw (at, all) at told) ends.calls;
      steps = run-one Goes (Answered (End wire.number) ends.reply) ends.goes;
      kept = refl;
    }

module _ {State : Type 0} {Fails : State → State → Event → Fault → Type 0} {before after : Option (List Call)} {old new : State} {wire : HeldConnection} {fault : TurnFault} where
  pub off-unheard : (place room : ℕ) (octets : List ℕ) → IsListening wire → length octets ≤ most_read → place ≡ wire.place → room ≡ most_read
      → Logs before after (Read place room (came.Octets octets)) → FailsToHear Fails old new wire octets fault
      → ActionCut Fails before after old new wire fault
  off-unheard place room octets listening bound at all told (inl unkept) =
      record { at = OutOfMemory octets; fits = (listening, bound); calls = rw (at, all) at told; stops = unkept }
  off-unheard place room octets listening bound at all told (inr unanswered) =
      record { at = PieceFailed octets; fits = (listening, bound); calls = rw (at, all) at told; stops = unanswered }

  pub off-unpulled : (place room : ℕ) → IsListening wire → place ≡ wire.place → room ≡ most_read
      → Logs before after (Read place room came.Nothing) → StopsBy Fails old new (Some (Pull wire.number)) fault
      → ActionCut Fails before after old new wire fault
  off-unpulled place room listening at all told stops =
      record { at = PullFailed; fits = listening; calls = rw (at, all) at told; stops = stops }

  pub off-unended : (place room : ℕ) (came : ReadOutcome) → IsListening wire → TellsEnd came → place ≡ wire.place → room ≡ most_read
      → Logs before after (Read place room came) → StopsBy Fails old new (Some (End wire.number)) fault
      → ActionCut Fails before after old new wire fault
  off-unended place room came listening ended at all told stops =
      record { at = EndFailed came; fits = (listening, ended); calls = rw (at, all) at told; stops = stops }
