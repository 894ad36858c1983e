-- A serving grows by what is asked of a turner.
use Rattle.std.proofs.Common.{◌≡◌, ◌&&◌, ℕ, Bool, true, IsTrue, List, [], ◌∷◌, ◌++◌, Option, Some, None, refl, sym, ◌∙◌, ap, arith, append_assoc}
use Rattle.std.specs.List.{flat_map}
use Rattle.std.proofs.lemmas.List.{append-nil}
use Rattle.std.proofs.lemmas.Grind.{flat_map-append}
use Rattle.std.proofs.lemmas.Bool.Decides.{nat_tests}
use Rattle.dq_tables.specs.declared.row.Row.{Row}
use Rattle.dq_tables.specs.TableStates.{State}
use Rattle.dq_core.specs.declared.event.Event.{Event}
use Rattle.dq_core.specs.declared.event.Event.TheVariants.{Open, Piece, End, Pull, Schedule, Withdraw}
use Rattle.dq_core.specs.declared.event.Reply.{Reply}
use Rattle.dq_core.specs.declared.fault.Fault.{Fault}
use Rattle.dq_core.specs.Histories.{is_above, rises_from, is_well_formed_history}
use Rattle.dq_core.specs.ServerView.{ServerView, Refines}
use Rattle.dq_core.specs.Looking.{Looked}
use Rattle.dq_wires.specs.declared.calls.Call.{Call}
use Rattle.dq_wires.specs.declared.fault.TurnFault.{TurnFault}
use Rattle.dq_wires.specs.Logs.{LogsAll}
use Rattle.dq_wires.specs.HeldConnections.{HeldConnection}
use Rattle.dq_wires.specs.Steps.{Step, Runs, events_of}
use Rattle.dq_wires.specs.Steps.Step.{Answered, Asked}
use Rattle.dq_wires.specs.ServerSteps.{Stepped, Moves}
use Rattle.dq_wires.specs.ConnectionActions.{ConnectionAction, action_steps}
use Rattle.dq_wires.specs.ConnectionActions.ConnectionAction.{Sent}
use Rattle.dq_wires.specs.Turns.{Done, done_steps, Hold, Taking, IsTaking, taking_steps, with_taken, Turn, turn_calls, turn_steps, after_turn, AreTurns, after_turns, all_calls, all_steps, Cut, IsCut, cut_steps, TurnsWent, TurnsCut}
use Rattle.dq_wires.specs.Turns.Taking.{NewConnection}
use Rattle.dq_wires.specs.Turns.Cut.{NoRoom, Midway}
use Rattle.dq_wires.specs.Turners.{NextOpens, IsOrder}
use Rattle.dq_wires.specs.Servings.{Act, act_calls, act_steps, nothing_held, AreActs, after_acts, all_turned, Serving, served_steps, served_events, Served}
use Rattle.dq_wires.specs.Servings.Act.{Turned, Ordered}
use Rattle.dq_wires.proofs.Logging.{logs-then, logs-none}
use Rattle.dq_wires.proofs.Looking.{comes-none, comes-looking, comes-more}

-- acts, and then others
pub acts-more : (h : Hold) (acts more : List Act) → AreActs h acts → AreActs (after_acts h acts) more → AreActs h (acts ++ more)
acts-more h [] more a b = b
acts-more h (Turned t ∷ acts) more a b = (a.0, acts-more (after_turn h t) acts more a.1 b)
acts-more h (Ordered event reply ∷ acts) more a b = (a.0, acts-more h acts more a.1 b)

pub after-more : (h : Hold) (acts more : List Act) → after_acts h (acts ++ more) ≡ after_acts (after_acts h acts) more
after-more h [] more = refl
after-more h (Turned t ∷ acts) more = after-more (after_turn h t) acts more
after-more h (Ordered event reply ∷ acts) more = after-more h acts more

-- turns as acts
pub turned-are : (h : Hold) (turns : List Turn) → AreTurns h turns → AreActs h (all_turned turns)
turned-are h [] a = tt
turned-are h (t ∷ turns) a = (a.0, turned-are (after_turn h t) turns a.1)

pub turned-after : (h : Hold) (turns : List Turn) → after_acts h (all_turned turns) ≡ after_turns h turns
turned-after h [] = refl
turned-after h (t ∷ turns) = turned-after (after_turn h t) turns

pub turned-calls : (turns : List Turn) → flat_map act_calls (all_turned turns) ≡ all_calls turns
turned-calls [] = refl
turned-calls (t ∷ turns) = ap (λ calls. turn_calls t ++ calls) (turned-calls turns)

pub turned-steps : (turns : List Turn) → flat_map act_steps (all_turned turns) ≡ all_steps turns
turned-steps [] = refl
turned-steps (t ∷ turns) = ap (λ steps. turn_steps t ++ steps) (turned-steps turns)

module _ {Tables : Type 0} (state : Tables → State) (rows : List Row) where
  pub serving_begins : (log : Option (List Call)) (server : ServerView Tables) → Refines state rows server []
      → Serving state rows log log server server nothing_held []
  serving_begins log server begins =
      record { begins = begins; are = tt; leaves = refl; calls = logs-none log; steps = comes-none server }

  module _ (before now after : Option (List Call)) (first mid next : ServerView Tables) (hold to : Hold) (acts : List Act) where
    -- by acts that are asked of it from there on
    pub serving-more : (more : List Act) → Serving state rows before now first mid hold acts → AreActs hold more → to ≡ after_acts hold more
        → LogsAll now after (flat_map act_calls more) → Runs (Moves state) mid next (flat_map act_steps more)
        → Serving state rows before after first next to (acts ++ more)
    serving-more more serving are leaves calls steps = record {
      begins = serving.begins;
      are = acts-more nothing_held acts more serving.are (rw serving.leaves at are);
      leaves = leaves ∙ ap (λ (h : Hold). after_acts h more) serving.leaves ∙ sym (after-more nothing_held acts more);
      calls = rw (flat_map-append act_calls acts more)
          (logs-then before now after (flat_map act_calls acts) (flat_map act_calls more) serving.calls calls);
      steps = rw (flat_map-append act_steps acts more)
          (comes-more first mid next (flat_map act_steps acts) (flat_map act_steps more) serving.steps steps);
    }

    pub serving_turns : (count : ℕ) → Serving state rows before now first mid hold acts
        → (went : TurnsWent (Moves state) now after mid next hold to count)
        → Serving state rows before after first next to (acts ++ all_turned went.turns)
    serving_turns count serving went =
        serving-more (all_turned went.turns) serving (turned-are hold went.turns went.are) (went.leaves ∙ sym (turned-after hold went.turns))
        (rw (turned-calls went.turns) went.calls) (rw (turned-steps went.turns) went.steps)

  pub serving_order : (before now : Option (List Call)) (first mid next : ServerView Tables) (hold : Hold) (acts : List Act) (event : Event) (reply : Reply)
      → Serving state rows before now first mid hold acts → IsOrder event → Stepped state mid next event reply
      → Serving state rows before now first next hold (acts ++ Ordered event reply ∷ [])
  serving_order before now first mid next hold acts event reply serving order goes =
      serving-more before now now first mid next hold hold acts (Ordered event reply ∷ []) serving (order, tt) refl (logs-none now) (next, goes, refl)

  pub serving_look : (before now : Option (List Call)) (first mid next : ServerView Tables) (hold : Hold) (acts : List Act)
      → Serving state rows before now first mid hold acts → Looked state mid next → Serving state rows before now first next hold acts
  serving_look before now first mid next hold acts serving looked = record {
    begins = serving.begins;
    are = serving.are;
    leaves = serving.leaves;
    calls = serving.calls;
    steps = comes-looking serving.steps looked;
  }

  pub serving_whole : (before now : Option (List Call)) (first last : ServerView Tables) (hold : Hold) (acts : List Act)
      → Serving state rows before now first last hold acts → Served state rows first last acts NoRoom
  serving_whole before now first last hold acts serving =
      record { begins = serving.begins; are = serving.are; fits = tt; steps = rw (append-nil (flat_map act_steps acts)) serving.steps }

  pub serving_cut : {Fails : ServerView Tables → ServerView Tables → Event → Fault → Type 0} (before now after : Option (List Call))
      (first mid new : ServerView Tables) (hold : Hold) (acts : List Act) (count : ℕ) (fault : TurnFault)
      → Serving state rows before now first mid hold acts → (off : TurnsCut (Moves state) Fails now after mid new hold count fault)
      → Served state rows first off.mid (acts ++ all_turned off.turns) off.cut
  serving_cut before now after first mid new hold acts count fault serving off =
      let after : after_acts nothing_held (acts ++ all_turned off.turns) ≡ after_turns hold off.turns =
      after-more nothing_held acts (all_turned off.turns) ∙ ap (λ (h : Hold). after_acts h (all_turned off.turns)) (sym serving.leaves)
      ∙ turned-after hold off.turns in
      let steps : served_steps (acts ++ all_turned off.turns) off.cut ≡ flat_map act_steps acts ++ (all_steps off.turns ++ cut_steps off.cut) =
      ap (λ s. s ++ cut_steps off.cut) (flat_map-append act_steps acts (all_turned off.turns))
      ∙ append_assoc (flat_map act_steps acts) (flat_map act_steps (all_turned off.turns)) (cut_steps off.cut)
      ∙ ap (λ s. flat_map act_steps acts ++ (s ++ cut_steps off.cut)) (turned-steps off.turns) in
      record {
        begins = serving.begins;
        are = acts-more nothing_held acts (all_turned off.turns) serving.are (rw serving.leaves at (turned-are hold off.turns off.are));
        fits = rw after off.fits;
        steps = rw steps (comes-more first mid off.mid (flat_map act_steps acts) (all_steps off.turns ++ cut_steps off.cut) serving.steps off.steps);
      }

-- numbers that are given rise: a turn opens at most one connection, under the next number
action-rises : (newest : Option ℕ) (wire : HeldConnection) (action : ConnectionAction) (later : List Event)
    → rises_from newest (events_of (action_steps wire action) ++ later) ≡ rises_from newest later
action-rises newest wire (Sent count) later = refl
action-rises newest wire other later = refl

events-append : (first later : List Step) → events_of (first ++ later) ≡ events_of first ++ events_of later
events-append [] later = refl
events-append (Answered event reply ∷ first) later = ap (λ events. event ∷ events) (events-append first later)
events-append (Asked number pending ∷ first) later = events-append first later

round-rises : (newest : Option ℕ) (done : List Done) (later : List Step)
    → rises_from newest (events_of (flat_map done_steps done ++ later)) ≡ rises_from newest (events_of later)
round-rises newest [] later = refl
round-rises newest (d ∷ done) later =
    rw (append_assoc (done_steps d) (flat_map done_steps done) later, events-append (done_steps d) (flat_map done_steps done ++ later))
    (action-rises newest d.wire d.action (events_of (flat_map done_steps done ++ later)) ∙ round-rises newest done later)

both : (a b : Bool) → a ≡ true → b ≡ true → (a && b) ≡ true
both a b e f = rw (e, f) refl

-- what comes after a beginning of a turn rises, as long as it does from the number that was given last
taking-rises : (newest : Option ℕ) (h : Hold) (taking : Taking) (later : List Step) → NextOpens newest h.newest → IsTaking h taking
    → ((n : Option ℕ) → NextOpens n (with_taken h taking).newest → IsTrue (rises_from n (events_of later)))
    → IsTrue (rises_from newest (events_of (taking_steps taking ++ later)))
taking-rises newest h (NewConnection place number reply) later opens takes rest =
    both (is_above newest number) (rises_from (Some number) (events_of later)) (rw takes.1 opens) (rest (Some number) (grind (arith, nat_tests)))
taking-rises newest h other later opens takes rest = rest newest opens

cut-rises : (newest : Option ℕ) (h : Hold) (cut : Cut) → NextOpens newest h.newest → IsCut h cut → IsTrue (rises_from newest (events_of (cut_steps cut)))
cut-rises newest h (Midway taking done wire at) opens fits =
    taking-rises newest h taking (flat_map done_steps done) opens fits.takes
    (λ n o. let all : rises_from n (events_of (flat_map done_steps done)) ≡ true = rw (← append-nil (flat_map done_steps done)) (round-rises n done []) in all)
cut-rises newest h other opens fits = refl

acts-rise : (newest : Option ℕ) (h : Hold) (acts : List Act) (cut : Cut) → NextOpens newest h.newest → AreActs h acts
    → IsCut (after_acts h acts) cut → IsTrue (rises_from newest (served_events acts cut))
acts-rise newest h [] cut opens are fits = cut-rises newest h cut opens fits
acts-rise newest h (Turned t ∷ acts) cut opens are fits =
    rw (append_assoc (turn_steps t) (flat_map act_steps acts) (cut_steps cut), append_assoc (taking_steps t.taking) (flat_map done_steps t.done) (served_steps acts cut))
    (taking-rises newest h t.taking (flat_map done_steps t.done ++ served_steps acts cut) opens are.0.takes
    (λ n o. rw (round-rises n t.done (served_steps acts cut)) (acts-rise n (after_turn h t) acts cut o are.1 fits)))
acts-rise newest h (Ordered event reply ∷ acts) cut opens are fits = by event are.0 (acts-rise newest h acts cut opens are.1 fits) where
  by : (e : Event) → IsOrder e → IsTrue (rises_from newest (served_events acts cut)) → IsTrue (rises_from newest (e ∷ served_events acts cut))
  by (Open number) order rest = absurd order
  by (Piece number octets) order rest = absurd order
  by (End number) order rest = absurd order
  by (Pull number) order rest = absurd order
  by (Schedule inst octets) order rest = rest
  by (Withdraw inst id) order rest = rest

pub served_rises : {Tables : Type 0} {state : Tables → State} {rows : List Row} {first last : ServerView Tables} {acts : List Act} {cut : Cut}
    → Served state rows first last acts cut → IsTrue (is_well_formed_history (served_events acts cut))
served_rises {acts = acts} {cut = cut} served = acts-rise None nothing_held acts cut refl served.are served.fits
