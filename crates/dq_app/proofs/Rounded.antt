-- Rounds of a service, one after the other.
use Rattle.std.proofs.Common.{◌≡◌, ◌<◌, ◌≤◌, ◌+◌, ℕ, List, [], ◌∷◌, ◌++◌, length, map, inl, inr, refl, sym, subst, ◌∙◌, ap, ap₂, append_assoc, length-append, arith, Option, Some, None}
use Rattle.std.proofs.lemmas.List.{append-nil, length-map}
use Rattle.std.proofs.lemmas.Grind.{flat_map-append}
use Rattle.std.specs.List.{flat_map}
use Rattle.dq_config.specs.declared.config.Institution.{Institution}
use Rattle.dq_tables.specs.declared.row.Row.{Row}
use Rattle.dq_tables.specs.TableStates.{State}
use Rattle.dq_core.specs.declared.event.Event.{Event}
use Rattle.dq_core.specs.declared.event.Event.TheVariants.{Open}
use Rattle.dq_core.specs.declared.fault.Fault.{Fault}
use Rattle.dq_core.specs.declared.fault.Fault.TheVariants as fault
use Rattle.dq_core.specs.Faults.{server_fault_number as fault_number}
use Rattle.dq_core.specs.ServerView.{ServerView}
use Rattle.dq_wires.specs.declared.calls.Call.{Call}
use Rattle.dq_wires.specs.ConnectionActions.{break_event}
use Rattle.dq_wires.specs.Logs.{LogsAll}
use Rattle.dq_wires.specs.declared.fault.TurnFault.{TurnFault}
use Rattle.dq_wires.specs.Servings.{Act, act_calls, all_turned}
use Rattle.dq_wires.specs.Servings.Act.{Turned}
use Rattle.dq_wires.specs.Steps.{StopsBy}
use Rattle.dq_wires.specs.ServerSteps.{Moves, Fails}
use Rattle.dq_wires.specs.Turns.{Turn, TurnsWent, TurnsCut, Cut, all_steps, cut_calls, cut_steps, CutStops}
use Rattle.dq_wires.specs.Turns.Cut.{NoRoom, AcceptFailed, OpenFailed, Midway}
use Rattle.dq_wires.specs.Turners.{TurnerView}
use Rattle.dq_wires.proofs.Logging.{logs-then, logs-none}
use Rattle.dq_app.specs.declared.stop.Stop.{Stop}
use Rattle.dq_app.specs.declared.stop.Stop.TheVariants as stop
use Rattle.dq_console.specs.Console.{HeldClient, attending_calls, attending_acts, after_attending, interruption_acts, VisitsTell, FrontTurn}
use Rattle.dq_console.specs.Requests.{IsLeft}
use Rattle.dq_console.specs.ClientTurns.{Attends, Interrupted}
use Rattle.dq_app.specs.Program.{stop_of_turning}
use Rattle.dq_console.specs.ServiceProgress.{WentOn, HoldsAt}
use Rattle.dq_app.specs.Serving.{Round, round_acts, rounds_acts, console_calls, clients_left, ArePlain, ArePlainTo, AreConsoled, RoundsTell, Halt, halt_acts, halt_calls, IsHalt, HaltTells, HasCause, IsServiceFault}
use Rattle.dq_app.specs.Serving.Round.{Plain, Consoled}
use Rattle.dq_app.specs.Serving.Halt.{InTurn, AtConsole}
use Rattle.dq_app.specs.Rounds.{RoundsWent, RoundsCut, Beside, BesideCut, ConsoleView, AreBeside, AreBesideTo, IsAttended, IsInterrupted}
use Rattle.dq_console.proofs.ServiceProgress.{TurnsServe, TurnsCutServe, WholeServes, StepsServe, holds-later, left-honest, failed-honest, went-nowhere, went-then, went-by-turns}

-- no turn is whole of one that was cut off
none-below : {X : Type 0} (xs : List X) → length xs < 1 → xs ≡ []
none-below [] below = refl
none-below (x ∷ xs) below = absurd (omega (arith, below))

cut-calls : (start before after : Option (List Call)) (done : List Act) (cut : Cut) → LogsAll start before (flat_map act_calls done)
    → LogsAll before after (cut_calls cut) → LogsAll start after (flat_map act_calls (done ++ []) ++ cut_calls cut)
cut-calls start before after done cut first later =
    rw append-nil (logs-then start before after (flat_map act_calls done) (cut_calls cut) first later)

-- ---- rounds without a console

pub plain-then : (some later : List Round) → ArePlain some → ArePlain later → ArePlain (some ++ later)
plain-then [] later a b = b
plain-then (Plain turn ∷ some) later a b = plain-then some later a b
plain-then (Consoled turn attending ∷ some) later a b = absurd a

pub plain-then-cut : (some later : List Round) (halt : Halt) → ArePlain some → ArePlainTo later halt → ArePlainTo (some ++ later) halt
plain-then-cut some later (InTurn cut) a b = plain-then some later a b
plain-then-cut some later (AtConsole turn it) a b = absurd b

abbrev plain : Turn → Round
plain turn = Plain turn

are-plain : (turns : List Turn) → ArePlain (map plain turns)
are-plain [] = tt
are-plain (turn ∷ turns) = are-plain turns

plain-acts : (turns : List Turn) → rounds_acts (map plain turns) ≡ all_turned turns
plain-acts [] = refl
plain-acts (turn ∷ turns) = ap (λ acts. round_acts (plain turn) ++ acts) (plain-acts turns)

-- ---- rounds with one

consoled-then : (clients : List HeldClient) (some later : List Round) → AreConsoled clients some → AreConsoled (clients_left clients some) later
    → AreConsoled clients (some ++ later)
consoled-then clients [] later a b = b
consoled-then clients (Plain turn ∷ some) later a b = absurd a
consoled-then clients (Consoled turn attending ∷ some) later a b = (a.0, consoled-then (after_attending attending) some later a.1 b)

left-then : (clients : List HeldClient) (some later : List Round) → clients_left clients (some ++ later) ≡ clients_left (clients_left clients some) later
left-then clients [] later = refl
left-then clients (Plain turn ∷ some) later = left-then clients some later
left-then clients (Consoled turn attending ∷ some) later = left-then (after_attending attending) some later

-- rounds after others tell of the rows as they are after those
rounds-tell : (institutions : List Institution) (names : List (List ℕ)) (rows : List Row) (done : List Act) (some later : List Round)
    → RoundsTell institutions names rows done some → RoundsTell institutions names rows (done ++ rounds_acts some) later
    → RoundsTell institutions names rows done (some ++ later)
rounds-tell institutions names rows done [] later a b = subst (λ (acts : List Act). RoundsTell institutions names rows acts later) (append-nil done) b
rounds-tell institutions names rows done (Plain turn ∷ some) later a b =
    rounds-tell institutions names rows (done ++ round_acts (Plain turn)) some later a
    (subst (λ (acts : List Act). RoundsTell institutions names rows acts later) (sym (append_assoc done (round_acts (Plain turn)) (rounds_acts some))) b)
rounds-tell institutions names rows done (Consoled turn attending ∷ some) later a b = (
  a.0,
  rounds-tell institutions names rows (done ++ round_acts (Consoled turn attending)) some later a.1
      (subst (λ (acts : List Act). RoundsTell institutions names rows acts later)
      (sym (append_assoc done (round_acts (Consoled turn attending)) (rounds_acts some))) b),
)

module _ {Tables : Type 0} (state : Tables → State) where
  beside-none : (now : Option (List Call)) (old : TurnerView Tables) (new : ServerView Tables) (view : ConsoleView) → Beside state now old new view view []
  beside-none now old new view = record { are = tt; calls = logs-none view.calls; leaves = refl; named = refl; tells = λ honest rows start first done s. tt }

  beside-then : {now next_now : Option (List Call)} {old one : TurnerView Tables} {new : ServerView Tables} (from via to : ConsoleView)
      (some later : List Round) → Beside state now old one.server from via some → WentOn state now next_now old one (rounds_acts some)
      → ((state new.tables).honest → (state one.server.tables).honest)
      → Beside state next_now one new via to later → Beside state now old new from to (some ++ later)
  beside-then {next_now = next_now} {one = one} {new = new} from via to some later first went was next =
      let are : AreConsoled (clients_left from.clients some) later =
      subst (λ (clients : List HeldClient). AreConsoled clients later) first.leaves next.are in
      let told = subst (λ (names : List (List ℕ)). HoldsAt state next_now one new (λ institutions rows acts. RoundsTell institutions names rows acts later))
      first.named next.tells in
      record {
        are = consoled-then from.clients some later first.are are;
        calls = rw (flat_map-append console_calls some later)
            (logs-then from.calls via.calls to.calls (flat_map console_calls some) (flat_map console_calls later) first.calls next.calls);
        leaves = next.leaves ∙ ap (λ (clients : List HeldClient). clients_left clients later) first.leaves ∙ sym (left-then from.clients some later);
        named = next.named ∙ first.named;
        tells = λ honest rows start server done s.
            rounds-tell server.institutions from.names rows done some later (first.tells (was honest) rows start server done s)
            (holds-later state new (λ institutions rows acts. RoundsTell institutions from.names rows acts later) went told honest rows start server done s);
      }

  beside-then-cut : {now next_now : Option (List Call)} {old one : TurnerView Tables} {new : ServerView Tables} (from via to : ConsoleView)
      (some later : List Round) (halt : Halt) → Beside state now old one.server from via some → WentOn state now next_now old one (rounds_acts some)
      → ((state new.tables).honest → (state one.server.tables).honest)
      → BesideCut state next_now one new via to later halt → BesideCut state now old new from to (some ++ later) halt
  beside-then-cut {next_now = next_now} {one = one} {new = new} from via to some later halt first went was next =
      let are : AreConsoled (clients_left from.clients some) later =
      subst (λ (clients : List HeldClient). AreConsoled clients later) first.leaves next.are in
      let is : IsHalt (clients_left (clients_left from.clients some) later) halt =
      subst (λ (clients : List HeldClient). IsHalt (clients_left clients later) halt) first.leaves next.is in
      let later_told = subst (λ (names : List (List ℕ)). HoldsAt state next_now one new (λ institutions rows acts. RoundsTell institutions names rows acts later
      × HaltTells institutions names rows (acts ++ rounds_acts later) halt)) first.named next.tells in
      record {
        are = consoled-then from.clients some later first.are are;
        is = rw (left-then from.clients some later) is;
        calls = rw (flat_map-append console_calls some later, append_assoc (flat_map console_calls some) (flat_map console_calls later) (halt_calls halt))
            (logs-then from.calls via.calls to.calls (flat_map console_calls some) (flat_map console_calls later ++ halt_calls halt) first.calls next.calls);
        tells = λ honest rows start server done s.
            let told = holds-later state new (λ institutions rows acts. RoundsTell institutions from.names rows acts later
            × HaltTells institutions from.names rows (acts ++ rounds_acts later) halt) went later_told honest rows start server done s in (
              rounds-tell server.institutions from.names rows done some later (first.tells (was honest) rows start server done s) told.0,
              subst (λ (acts : List Act). HaltTells server.institutions from.names rows acts halt)
                  (append_assoc done (rounds_acts some) (rounds_acts later) ∙ ap (λ (acts : List Act). done ++ acts) (sym (flat_map-append round_acts some later)))
                  told.1,
            );
      }

  -- no turn of the console was begun
  pub besides-cut-none : (now : Option (List Call)) (old : TurnerView Tables) (new : ServerView Tables) (view : Option ConsoleView) (cut : Cut)
      → AreBesideTo state now old new view view [] (InTurn cut)
  besides-cut-none now old new None cut = tt
  besides-cut-none now old new (Some view) cut =
      record { are = tt; is = tt; calls = logs-none view.calls; tells = λ honest rows start first done s. (tt, tt) }

  -- its turns were made
  pub besides-cut-whole : (now : Option (List Call)) (old : TurnerView Tables) (new : ServerView Tables) (from to : Option ConsoleView) (rounds : List Round)
      → AreBeside state now old new from to rounds → AreBesideTo state now old new from to rounds (InTurn NoRoom)
  besides-cut-whole now old new None None rounds are = are
  besides-cut-whole now old new None (Some to) rounds are = absurd are
  besides-cut-whole now old new (Some from) None rounds are = absurd are
  besides-cut-whole now old new (Some from) (Some to) rounds are = record {
    are = are.are;
    is = tt;
    calls = rw append-nil are.calls;
    tells = λ honest rows start first done s. (are.tells honest rows start first done s, tt);
  }

  pub besides-none : (now : Option (List Call)) (old : TurnerView Tables) (new : ServerView Tables) (view : Option ConsoleView)
      → AreBeside state now old new view view []
  besides-none now old new None = tt
  besides-none now old new (Some view) = beside-none now old new view

  module _ (now next_now : Option (List Call)) (old one : TurnerView Tables) (new : ServerView Tables) where
    pub besides-then : (from via to : Option ConsoleView) (some later : List Round)
        → AreBeside state now old one.server from via some → WentOn state now next_now old one (rounds_acts some)
        → ((state new.tables).honest → (state one.server.tables).honest) → AreBeside state next_now one new via to later
        → AreBeside state now old new from to (some ++ later)
    besides-then None None None some later first went was next = plain-then some later first next
    besides-then None None (Some to) some later first went was next = absurd next
    besides-then None (Some via) to some later first went was next = absurd first
    besides-then (Some from) None to some later first went was next = absurd first
    besides-then (Some from) (Some via) None some later first went was next = absurd next
    besides-then (Some from) (Some via) (Some to) some later first went was next = beside-then from via to some later first went was next

    pub besides-then-cut : (from via to : Option ConsoleView) (some later : List Round) (halt : Halt)
        → AreBeside state now old one.server from via some → WentOn state now next_now old one (rounds_acts some)
        → ((state new.tables).honest → (state one.server.tables).honest) → AreBesideTo state next_now one new via to later halt
        → AreBesideTo state now old new from to (some ++ later) halt
    besides-then-cut None None None some later halt first went was next = plain-then-cut some later halt first next
    besides-then-cut None None (Some to) some later halt first went was next = absurd next
    besides-then-cut None (Some via) to some later halt first went was next = absurd first
    besides-then-cut (Some from) None to some later halt first went was next = absurd first
    besides-then-cut (Some from) (Some via) None some later halt first went was next = absurd next
    besides-then-cut (Some from) (Some via) (Some to) some later halt first went was next =
        beside-then-cut from via to some later halt first went was next

-- ---- why a service is stopped

service-fault : (why : Fault) → IsServiceFault (fault_number why)
service-fault fault.NoMemory = inl (inl refl)
service-fault fault.Store = inl (inr refl)
service-fault fault.Stopped = inr refl

module _ {Tables : Type 0} (state : Tables → State) (breaks : Type 0) (old new : ServerView Tables) where
  stops-cause : (cut : Cut) (event : Option Event) (fault : TurnFault) → StopsBy (Fails state) old new event fault → HasCause breaks cut (stop_of_turning fault)
  stops-cause cut None fault stops = rw stops.1 (inl (inl refl))
  stops-cause cut (Some event) fault stops = rw stops.1 (service-fault stops.0)

  stops-left : (event : Option Event) (fault : TurnFault) → StopsBy (Fails state) old new event fault → IsLeft state old new
  stops-left None fault stops = inl stops.0
  stops-left (Some event) fault stops = inr (inl (event, stops.0, stops.2))

  cut-cause : (cut : Cut) (fault : TurnFault) → CutStops (Fails state) old new cut fault → HasCause breaks cut (stop_of_turning fault)
  cut-cause NoRoom fault stops = stops-cause NoRoom None fault stops
  cut-cause AcceptFailed fault stops = rw stops.1 (inr refl)
  cut-cause (OpenFailed place number) fault stops = stops-cause (OpenFailed place number) (Some (Open number)) fault stops
  cut-cause (Midway taking done wire at) fault stops = stops-cause (Midway taking done wire at) (break_event wire at) fault stops

  cut-left : (cut : Cut) (fault : TurnFault) → CutStops (Fails state) old new cut fault → IsLeft state old new
  cut-left NoRoom fault stops = stops-left None fault stops
  cut-left AcceptFailed fault stops = inl stops.0
  cut-left (OpenFailed place number) fault stops = stops-left (Some (Open number)) fault stops
  cut-left (Midway taking done wire at) fault stops = stops-left (break_event wire at) fault stops

module _ {Tables : Type 0} (state : Tables → State) where
  pub rounds-none : {AreSo : List Round → Type 0} (log : Option (List Call)) (it : TurnerView Tables) → AreSo [] → RoundsWent state log log it it 0 AreSo
  rounds-none log it so = record { rounds = []; counted = refl; so = so; went = went-nowhere state log it }

  pub rounds-then : {before mid after : Option (List Call)} {old one new : TurnerView Tables} {count more : ℕ} {First Later Both : List Round → Type 0}
      → ((some later : List Round) → First some → WentOn state before mid old one (rounds_acts some)
      → ((state new.server.tables).honest → (state one.server.tables).honest) → Later later → Both (some ++ later))
      → RoundsWent state before mid old one count First
      → RoundsWent state mid after one new more Later → RoundsWent state before after old new (count + more) Both
  rounds-then join first next = record {
    rounds = first.rounds ++ next.rounds;
    counted = length-append first.rounds next.rounds ∙ ap₂ (λ (n m : ℕ). n + m) first.counted next.counted;
    so = join first.rounds next.rounds first.so first.went next.went.was_honest next.so;
    went = rw (flat_map-append round_acts first.rounds next.rounds) (went-then state first.went next.went);
  }

  pub plain-rounds : {before after : Option (List Call)} {old new : TurnerView Tables} {count : ℕ} → TurnsServe state → StepsServe state
      → TurnsWent (Moves state) before after old.server new.server old.hold new.hold count → new.fault ≡ None
      → RoundsWent state before after old new count ArePlain
  plain-rounds law histories went works = record {
    rounds = map plain went.turns;
    counted = length-map went.turns plain ∙ went.whole;
    so = are-plain went.turns;
    went = rw (plain-acts went.turns) (went-by-turns state law histories went works);
  }

  -- a turn of all connections was cut off
  pub cut-turn : {breaks : Type 0} {before after : Option (List Call)} {old : TurnerView Tables} (new : TurnerView Tables) {fault : TurnFault}
      {AreSo : List Round → Halt → Type 0} → ((cut : Cut) → AreSo [] (InTurn cut)) → TurnsCutServe state → StepsServe state
      → TurnsCut (Moves state) (Fails state) before after old.server new.server old.hold 1 fault
      → RoundsCut state breaks before after old new.server 1 AreSo (stop_of_turning fault)
  cut-turn {breaks} {before} {after} {old} new {fault} so law histories off = record {
    rounds = [];
    most = omega arith;
    halt = InTurn off.cut;
    so = so off.cut;
    causes = cut-cause state breaks off.mid new.server off.cut fault off.stops;
    was_honest = λ honest. (histories old.server off.mid (all_steps off.turns ++ cut_steps off.cut) off.steps).was_honest
        (left-honest state (cut-left state breaks off.mid new.server off.cut fault off.stops) honest);
    off = λ rows start first done s.
        let none : off.turns ≡ [] = none-below off.turns off.fewer in
        record {
          last = off.mid;
          served = rw none at (law rows start before after first old.server new.server old.hold done 1 fault s off);
          calls = cut-calls start before after done off.cut s.calls (rw none at off.calls);
          left = cut-left state breaks off.mid new.server off.cut fault off.stops;
        };
  }

  -- rounds were made, and what is to be waited for failed
  pub cut-after : {breaks : Type 0} {before after : Option (List Call)} {old new : TurnerView Tables} {count : ℕ} {AreSo : List Round → Type 0}
      {CutSo : List Round → Halt → Type 0} → ((rounds : List Round) → AreSo rounds → CutSo rounds (InTurn NoRoom)) → WholeServes state → breaks
      → RoundsWent state before after old new count AreSo → RoundsCut state breaks before after old new.server count CutSo stop.Network
  cut-after {before = before} {after} {old} {new} so whole broke went = record {
    rounds = went.rounds;
    most = omega (arith, went.counted);
    halt = InTurn NoRoom;
    so = so went.rounds went.so;
    causes = inl broke;
    was_honest = went.went.was_honest;
    off = λ rows start first done s.
        let later = went.went.serves rows start first done s in
        rw (append-nil (rounds_acts went.rounds)) (record {
          last = new.server;
          served = whole rows start after first new.server new.hold (done ++ rounds_acts went.rounds) later;
          calls = rw append-nil later.calls;
          left = inl refl;
        });
  }

  -- rounds, and then one that was stopped
  pub rounds-cut : {breaks : Type 0} {before mid after : Option (List Call)} {old one : TurnerView Tables} {new : ServerView Tables} {made count : ℕ} {cause : Stop}
      {First : List Round → Type 0} {Later Both : List Round → Halt → Type 0}
      → ((some later : List Round) (halt : Halt) → First some → WentOn state before mid old one (rounds_acts some)
      → ((state new.tables).honest → (state one.server.tables).honest) → Later later halt → Both (some ++ later) halt) → made + 1 ≤ count
      → RoundsWent state before mid old one made First → RoundsCut state breaks mid after one new 1 Later cause
      → RoundsCut state breaks before after old new count Both cause
  rounds-cut {after = after} join within first next = record {
    rounds = first.rounds ++ next.rounds;
    most = omega (arith, within, first.counted, next.most, length-append first.rounds next.rounds);
    halt = next.halt;
    so = join first.rounds next.rounds next.halt first.so first.went next.was_honest next.so;
    causes = next.causes;
    was_honest = λ honest. first.went.was_honest (next.was_honest honest);
    off = λ rows start server done s.
        let acts = rounds_acts first.rounds in
        let rest = rounds_acts next.rounds ++ halt_acts next.halt in
        rw (flat_map-append round_acts first.rounds next.rounds, append_assoc acts (rounds_acts next.rounds) (halt_acts next.halt), ← append_assoc done acts rest)
        (next.off rows start server (done ++ acts) (first.went.serves rows start server done s));
  }

  -- a turn of all connections, and then one of the console that was interrupted
  module _ {breaks : Type 0} {before after : Option (List Call)} {old mid new : TurnerView Tables} (from to : ConsoleView)
      (law : TurnsServe state) (whole : WholeServes state)
      (at : Interrupted state from.names from.calls to.calls mid new from.clients) (why : Fault) where
    interrupted-round : (turns : List Turn) → length turns ≡ 1 → WentOn state before after old mid (all_turned turns)
        → RoundsCut state breaks before after old new.server 1 (BesideCut state before old new.server from to) (stop.Fault (fault_number why))
    interrupted-round [] one went = absurd (cc)
    interrupted-round (turn ∷ []) one went = record {
      rounds = [];
      most = omega arith;
      halt = AtConsole turn at.it;
      so = record {
        are = tt;
        is = at.is;
        calls = at.calls;
        tells = λ honest rows start first done s. (
          tt,
          subst (λ (acts : List Act). VisitsTell first.institutions from.names rows (acts ++ Turned turn ∷ []) at.it.visits) (sym (append-nil done))
              (at.tells after honest rows start first (done ++ Turned turn ∷ []) (went.serves rows start first done s)),
        );
      };
      causes = service-fault why;
      was_honest = λ honest. went.was_honest ((at.acts after).was_honest (failed-honest state at.left honest));
      off = λ rows start first done s.
          let all = went-then state went (at.acts after) in
          let later = all.serves rows start first done s in
          record {
            last = at.last.server;
            served = whole rows start after first at.last.server at.last.hold (done ++ (Turned turn ∷ interruption_acts at.it)) later;
            calls = rw append-nil later.calls;
            left = inr at.left;
          };
    }
    interrupted-round (turn ∷ more ∷ turns) one went = absurd (cc)

  -- a turn of all connections, and then one of the console
  module _ {before after : Option (List Call)} {old mid new : TurnerView Tables} (from to : ConsoleView) (named : to.names ≡ from.names)
      {IsFront : FrontTurn → Type 0}
      (attends : Attends state from.names from.calls to.calls mid new from.clients to.clients IsFront) where
    consoled-round : (turns : List Turn) → length turns ≡ 1 → WentOn state before after old mid (all_turned turns)
        → RoundsWent state before after old new 1 (Beside state before old new.server from to)
    consoled-round (turn ∷ []) is went =
        let attending = attends.attending in
        record {
          rounds = Consoled turn attending ∷ [];
          counted = refl;
          so = record {
            are = (attends.is, tt);
            calls = rw (append-nil (attending_calls attending)) attends.calls;
            leaves = attends.leaves;
            named = named;
            tells = λ honest rows start first done s.
                (attends.tells after honest rows start first (done ++ Turned turn ∷ []) (went.serves rows start first done s), tt);
          };
          went = rw (append-nil (attending_acts attending)) (went-then state went (attends.acts after));
        }
    consoled-round other is went = absurd (cc)

  -- a turn of all connections, and then one of the console, if there is one
  module _ {before after : Option (List Call)} {old : TurnerView Tables} (mid new : TurnerView Tables) where
    pub one-round : (from to : Option ConsoleView) → TurnsServe state → StepsServe state
        → TurnsWent (Moves state) before after old.server mid.server old.hold mid.hold 1 → mid.fault ≡ None → IsAttended state mid new from to
        → RoundsWent state before after old new 1 (AreBeside state before old new.server from to)
    one-round None None law histories went works attended = rw attended (plain-rounds law histories went works)
    one-round None (Some to) law histories went works attended = absurd attended
    one-round (Some from) None law histories went works attended = absurd attended
    one-round (Some from) (Some to) law histories went works attended =
        consoled-round from to attended.1 attended.0 went.turns went.whole (went-by-turns state law histories went works)

    pub cut-attending : {breaks : Type 0} (from to : Option ConsoleView) → TurnsServe state → StepsServe state → WholeServes state
        → IsInterrupted state mid new from to → (why : Fault) → TurnsWent (Moves state) before after old.server mid.server old.hold mid.hold 1 → mid.fault ≡ None
        → RoundsCut state breaks before after old new.server 1 (AreBesideTo state before old new.server from to) (stop.Fault (fault_number why))
    cut-attending None to law histories whole at why went works = absurd at
    cut-attending (Some from) None law histories whole at why went works = absurd at
    cut-attending (Some from) (Some to) law histories whole at why went works =
        interrupted-round from to law whole at why went.turns went.whole (went-by-turns state law histories went works)
