-- Services that go on.
use Rattle.std.proofs.Common.{◌≡◌, ℕ, List, [], ◌++◌, length, subst, ◌∙◌, Option, Some, None}
use Rattle.std.proofs.lemmas.List.{append-nil}
use Rattle.std.specs.List.{flat_map}
use Rattle.dq_config.specs.declared.config.Institution.{Institution}
use Rattle.dq_core.specs.Shared.{replies}
use Rattle.dq_core.specs.declared.event.Event.{Event}
use Rattle.dq_core.specs.ServerView.{ServerView}
use Rattle.dq_tables.specs.declared.row.Row.{Row}
use Rattle.dq_tables.specs.TableStates.{State}
use Rattle.dq_wires.specs.declared.calls.Call.{Call}
use Rattle.dq_wires.specs.Looping.{ArePlayed}
use Rattle.dq_wires.specs.Logs.{LogsAll}
use Rattle.dq_wires.specs.Servings.{Act, act_calls, Serving, nothing_held, served_steps, served_events}
use Rattle.dq_wires.specs.Servings.{Served as ServedOver}
use Rattle.dq_wires.specs.Steps.{replies_of}
use Rattle.dq_wires.specs.Turns.{Cut, cut_calls}
use Rattle.dq_wires.specs.Turns.Cut.{NoRoom}
use Rattle.dq_wires.specs.Turns.{Hold}
use Rattle.dq_wires.specs.Turners.{TurnerView}
use Rattle.dq_app.specs.declared.stop.Stop.{Stop}
use Rattle.dq_app.specs.Looping.{ArePlayedOver}
use Rattle.dq_app.specs.Program.{AsFarAsHonest}
use Rattle.dq_app.specs.Rounds.{RoundsCut, AreBeside, AreBesideTo, Begins, view_of}
use Rattle.dq_console.specs.declared.console.Console.{Console}
use Rattle.dq_console.specs.Console.{HeldClient}
use Rattle.dq_console.specs.ServiceProgress.{WentOn}
use Rattle.dq_console.proofs.ServiceProgress.{WholeServes, RowsServe, StepsServe, left-honest}
use Rattle.dq_app.specs.Serving.{Round, rounds_acts, Halt, AreConsoled, clients_left, IsHalt, HasConsole, HasConsoleTo, IsUncalled, AreServed, Served, ServedUpTo}

-- what has gone on from a beginning is a service
module _ {Tables : Type 0} (state : Tables → State) (rows : List Row) where
  abbrev pub AreReplied : Type 0
  AreReplied = (rows : List Row) (first last : ServerView Tables) (acts : List Act) (cut : Cut) → ServedOver state rows first last acts cut
      → (state last.tables).honest → replies_of (served_steps acts cut) ≡ replies first.institutions rows (served_events acts cut)

  served-to : {Wired : Type 0} (log : Wired → Option (List Call)) (wires left : Wired) {first last : ServerView Tables} {acts : List Act} {cut : Cut}
      {institutions : List Institution} → AreReplied → ServedOver state rows first last acts cut
      → LogsAll (log wires) (log left) (flat_map act_calls acts ++ cut_calls cut) → (state last.tables).honest → first.institutions ≡ institutions
      → IsUncalled (log wires) → AreServed log institutions rows acts cut
  served-to log wires left {first} {last} {acts} {cut} replied served calls honest same uncalled = record {
    wires = wires;
    left = left;
    uncalled = uncalled;
    are = served.are;
    fits = served.fits;
    calls = calls;
    answered = rw same at (replied rows first last acts cut served honest);
  }

  -- the acts of a serving are served
  pub served-by : {Wired : Type 0} (log : Wired → Option (List Call)) (wires left : Wired) {first last : ServerView Tables} {hold : Hold} {acts : List Act}
      {institutions : List Institution} → WholeServes state → AreReplied → Serving state rows (log wires) (log left) first last hold acts
      → (state last.tables).honest → first.institutions ≡ institutions → IsUncalled (log wires) → AreServed log institutions rows acts NoRoom
  served-by log wires left {first} {last} {hold} {acts} whole replied service honest same uncalled =
      served-to log wires left replied (whole rows (log wires) (log left) first last hold acts service) (rw append-nil service.calls) honest same uncalled

  -- what was honest at the end was so from the first
  pub was-honest : {first last : ServerView Tables} {acts : List Act} {cut : Cut} → StepsServe state → ServedOver state rows first last acts cut
      → (state last.tables).honest → (state first.tables).honest
  was-honest {first} {last} {acts} {cut} histories served honest =
      (histories first served.steps.last (served_steps acts cut) served.steps.runs).was_honest (served.steps.looks.goes.was_honest honest)

  pub service-of : {Wired Console : Type 0} (log : Wired → Option (List Call)) (console_log : Console → Option (List Call))
      (wires left : Wired) {old new : TurnerView Tables} {count made : ℕ} (console : Option (List ℕ))
      (institutions : List Institution) (rounds : List Round) → StepsServe state → WholeServes state → AreReplied → RowsServe state
      → Serving state rows (log wires) (log wires) old.server old.server old.hold [] → (state new.server.tables).honest
      → old.server.institutions ≡ institutions → made ≡ count → IsUncalled (log wires) → length rounds ≡ made → HasConsole console_log institutions rows console rounds
      → WentOn state (log wires) (log left) old new (rounds_acts rounds)
      → (state old.server.tables).honest × Served log console_log institutions rows count console (state new.server.tables).rows
  service-of log console_log wires left {old} {new} console institutions rounds histories whole replied kept begun honest same number uncalled counted consoled went =
      let acts = rounds_acts rounds in
      let service = went.serves rows (log wires) old.server [] begun in
      let served = whole rows (log wires) (log left) old.server new.server new.hold acts service in (
        was-honest histories served honest,
        record {
          rounds = rounds;
          counted = counted ∙ number;
          served = served-by log wires left whole replied service honest same uncalled;
          consoled = consoled;
          leaves = rw same at (kept rows old.server new.server acts NoRoom served honest);
        },
      )

  -- one that was cut off
  pub service-cut : {Wired Console : Type 0} (log : Wired → Option (List Call)) (console_log : Console → Option (List Call))
      (wires left : Wired) {breaks : Type 0} {old : TurnerView Tables} {new : ServerView Tables}
      {count made : ℕ} {AreSo : List Round → Halt → Type 0} {cause : Stop} (console : Option (List ℕ)) (institutions : List Institution)
      → StepsServe state → AreReplied → Serving state rows (log wires) (log wires) old.server old.server old.hold []
      → old.server.institutions ≡ institutions → made ≡ count → IsUncalled (log wires)
      → (off : RoundsCut state breaks (log wires) (log left) old new made AreSo cause)
      → ((state new.tables).honest → HasConsoleTo console_log institutions rows console off.rounds off.halt)
      → AsFarAsHonest state ((state old.server.tables).honest × ServedUpTo log console_log breaks institutions rows count console cause)
  service-cut log console_log wires left {old = old} {new = new} console institutions histories replied begun same number uncalled off consoled =
      let cut = off.off rows (log wires) old.server [] begun in (
        new.tables,
        λ honest. (
          off.was_honest honest,
          record {
            rounds = off.rounds;
            most = rw number at off.most;
            halt = off.halt;
            causes = off.causes;
            served = served-to log wires left replied cut.served cut.calls (left-honest state cut.left honest) same uncalled;
            consoled = consoled honest;
          },
        ),
      )

-- a service has had its console, if there is one
module _ {Tables Wired Front : Type 0} (state : Tables → State) (log : Wired → Option (List Call)) (institutions : List Institution) (rows : List Row)
    (now : Option (List Call)) (old : TurnerView Tables) (begun : Serving state rows now now old.server old.server old.hold [])
    (same : old.server.institutions ≡ institutions) (new : ServerView Tables) (honest : (state new.tables).honest) where
  pub has-console : (clients : Option (List ℕ)) (from to : Option (Console Wired Front)) (rounds : List Round) → Begins log institutions clients from
      → AreBeside state now old new (view_of log from) (view_of log to) rounds → HasConsole log institutions rows clients rounds
  has-console None None None rounds begins are = are
  has-console None None (Some to) rounds begins are = absurd are
  has-console None (Some from) to rounds begins are = absurd begins
  has-console (Some path) None to rounds begins are = absurd begins
  has-console (Some path) (Some from) None rounds begins are = absurd are
  has-console (Some path) (Some from) (Some to) rounds begins are = (
    from.handler.wires,
    to.handler.wires,
    begins.0,
    subst (λ (clients : List HeldClient). AreConsoled clients rounds) begins.1 are.are,
    are.calls,
    rw (same, begins.2) at (are.tells honest rows now old.server [] begun),
  )

  pub has-console-to : (clients : Option (List ℕ)) (from to : Option (Console Wired Front)) (rounds : List Round) (halt : Halt)
      → Begins log institutions clients from → AreBesideTo state now old new (view_of log from) (view_of log to) rounds halt
      → HasConsoleTo log institutions rows clients rounds halt
  has-console-to None None None rounds halt begins are = are
  has-console-to None None (Some to) rounds halt begins are = absurd are
  has-console-to None (Some from) to rounds halt begins are = absurd begins
  has-console-to (Some path) None to rounds halt begins are = absurd begins
  has-console-to (Some path) (Some from) None rounds halt begins are = absurd are
  has-console-to (Some path) (Some from) (Some to) rounds halt begins are =
      let told = rw (same, begins.2) at (are.tells honest rows now old.server [] begun) in (
        from.handler.wires,
        to.handler.wires,
        begins.0,
        subst (λ (clients : List HeldClient). AreConsoled clients rounds) begins.1 are.are,
        subst (λ (clients : List HeldClient). IsHalt (clients_left clients rounds) halt) begins.1 are.is,
        are.calls,
        told.0,
        told.1,
      )

-- the events of a capture were played
module _ {Tables : Type 0} (state : Tables → State) where
  pub played-by : {Wired : Type 0} (log : Wired → Option (List Call)) (wires : Wired) {first : ServerView Tables} {institutions : List Institution}
      {events : List Event} → WholeServes state → AreReplied state [] → ((tables : Tables) → (state tables).honest) → first.institutions ≡ institutions
      → IsUncalled (log wires) → ((acts : List Act) × (left : Wired) × (last : ServerView Tables) × (hold : Hold) × ArePlayed [] nothing_held events acts
      × Serving state [] (log wires) (log left) first last hold acts) → ArePlayedOver log institutions events
  played-by log wires whole replied honest same uncalled (acts, left, last, hold, played, service) = record {
    acts = acts;
    played = played;
    served = served-by state [] log wires left whole replied service (honest last.tables) same uncalled;
  }
