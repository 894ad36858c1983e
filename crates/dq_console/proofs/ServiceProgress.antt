-- What is asked of the console, as parts of a service that goes on.
use Rattle.std.proofs.Common.{◌≡◌, ℕ, List, [], ◌∷◌, ◌++◌, inl, inr, refl, subst, ◌∙◌, ap₂, append_assoc, Option, Some, None, Result, Bool, string_bytes}
use Rattle.std.proofs.lemmas.List.{append-nil}
use Rattle.std.specs.List.{flat_map}
use Rattle.dq_config.specs.declared.config.Institution.{Institution}
use Rattle.dq_core.specs.Shared.{world_after}
use Rattle.dq_core.specs.declared.event.Event.{Event}
use Rattle.dq_core.specs.declared.event.Event.TheVariants as event
use Rattle.dq_core.specs.declared.event.Reply.{Reply}
use Rattle.dq_core.specs.Looking.{Looked}
use Rattle.dq_core.specs.ServerView.{ServerView}
use Rattle.dq_tables.specs.declared.row.Row.{Row}
use Rattle.dq_tables.specs.TableStates.{State}
use Rattle.dq_wires.specs.declared.calls.Call.{Call}
use Rattle.dq_wires.specs.declared.fault.TurnFault.{TurnFault}
use Rattle.dq_wires.specs.Serving.{Serves}
use Rattle.dq_wires.specs.Servings.{Act, act_steps, Serving, all_turned, served_events}
use Rattle.dq_wires.specs.Servings.{Served as ServedOver}
use Rattle.dq_wires.specs.Steps.{Step, Runs}
use Rattle.dq_wires.specs.Turns.Cut.{NoRoom}
use Rattle.dq_wires.specs.Turns.{Cut, Hold, TurnsWent, TurnsCut, all_steps}
use Rattle.dq_wires.specs.Servings.Act.{Ordered}
use Rattle.dq_wires.specs.ServerSteps.{Stepped, Moves, Fails}
use Rattle.dq_wires.specs.Turners.{TurnerView, IsOrder}
use Rattle.dq_request.specs.declared.request.Request.{Request}
use Rattle.dq_request.specs.declared.request.Request.TheVariants as request
use Rattle.dq_request.specs.declared.response.Response.{Response}
use Rattle.dq_console.specs.declared.answer_error.AnswerError.{AnswerError}
use Rattle.dq_console.specs.declared.answer_error.AnswerError.TheVariants.{NoMemory, Server}
use Rattle.dq_console.specs.declared.asks.KeysError.{KeysError}
use Rattle.dq_console.specs.declared.console_line.ConsoleLine.{ConsoleLine}
use Rattle.dq_console.specs.declared.console_line.ConsoleLine.TheVariants as line
use Rattle.dq_console.specs.Console.{HeldClient, client_with_answer, rows_after, FrontTurn, OrdersOnce, IsAnswer, TellsOf, IsUnanswered, IsLineUnanswered}
use Rattle.dq_console.specs.Console.LineAnswer.{Obeyed, Reread, Refused, Unread}
use Rattle.dq_console.specs.Console.FrontTurn.{Unasked, Responded, LetGo}
use Rattle.dq_console.specs.RequestNotes.{is_bad}
use Rattle.dq_console.specs.ServiceProgress.{WentOn, Attended, Holds, HoldsAt}
use Rattle.dq_console.specs.ClientTurns.{Does, IsNotObeyed, IsNotAnswered, Responds, RespondedBy, LineAnswered, LineUnanswered}
use Rattle.dq_console.specs.ConsoleLines.{SpellsRequest, TellsLine}
use Rattle.dq_console.specs.Requests.{Orders, Answered, order_in, HasFailed, IsLeft, LooksInPart, OrdersInPart, Unanswered}

module _ {Tables : Type 0} (state : Tables → State) where
  -- the laws of servings that are used
  abbrev pub TurnsServe : Type 0
  TurnsServe = (rows : List Row) (before now after : Option (List Call)) (first mid next : ServerView Tables) (hold to : Hold) (acts : List Act) (count : ℕ)
      → Serving state rows before now first mid hold acts → (went : TurnsWent (Moves state) now after mid next hold to count)
      → Serving state rows before after first next to (acts ++ all_turned went.turns)

  abbrev pub OrdersServe : Type 0
  OrdersServe = (rows : List Row) (before now : Option (List Call)) (first mid next : ServerView Tables) (hold : Hold) (acts : List Act) (event : Event)
      (reply : Reply) → Serving state rows before now first mid hold acts → IsOrder event → Stepped state mid next event reply
      → Serving state rows before now first next hold (acts ++ Ordered event reply ∷ [])

  abbrev pub LooksServe : Type 0
  LooksServe = (rows : List Row) (before now : Option (List Call)) (first mid next : ServerView Tables) (hold : Hold) (acts : List Act)
      → Serving state rows before now first mid hold acts → Looked state mid next → Serving state rows before now first next hold acts

  abbrev pub WholeServes : Type 0
  WholeServes = (rows : List Row) (before now : Option (List Call)) (first last : ServerView Tables) (hold : Hold) (acts : List Act)
      → Serving state rows before now first last hold acts → ServedOver state rows first last acts NoRoom

  abbrev pub TurnsCutServe : Type 0
  TurnsCutServe = (rows : List Row) (before now after : Option (List Call)) (first mid new : ServerView Tables) (hold : Hold) (acts : List Act) (count : ℕ)
      (fault : TurnFault) → Serving state rows before now first mid hold acts
      → (off : TurnsCut (Moves state) (Fails state) now after mid new hold count fault)
      → ServedOver state rows first off.mid (acts ++ all_turned off.turns) off.cut

  abbrev pub StepsServe : Type 0
  StepsServe = (old new : ServerView Tables) (steps : List Step) → Runs (Moves state) old new steps → Serves state old new steps

  abbrev pub RowsServe : Type 0
  RowsServe = (rows : List Row) (first last : ServerView Tables) (acts : List Act) (cut : Cut) → ServedOver state rows first last acts cut
      → (state last.tables).honest → (state last.tables).rows ≡ (world_after first.institutions rows (served_events acts cut)).rows

  -- what holds of a server's institutions and rows holds of those of the serving, after its acts
  module _ (histories : StepsServe) (whole : WholeServes) (kept : RowsServe) where
    pub holds-of : (IsSo : List Institution → List Row → Type 0) (old : TurnerView Tables) (new : ServerView Tables)
        → ((state new.tables).honest → (state old.server.tables).honest)
        → ((state new.tables).honest → IsSo old.server.institutions (state old.server.tables).rows)
        → Holds state old new (λ institutions rows done. IsSo institutions (rows_after institutions rows done))
    holds-of IsSo old new was so now honest rows start first done s =
        let same : old.server.institutions ≡ first.institutions =
        s.steps.looks.institutions ∙ (histories first s.steps.last (flat_map act_steps done) s.steps.runs).institutions in
        let are : (state old.server.tables).rows ≡ rows_after first.institutions rows done =
        kept rows first old.server done NoRoom (whole rows start now first old.server old.hold done s) (was honest) in
        subst (λ (i : List Institution). IsSo i (rows_after first.institutions rows done)) same
        (subst (λ (r : List Row). IsSo old.server.institutions r) are (so honest))

  -- what holds after acts
  pub holds-later : {before after : Option (List Call)} {old mid : TurnerView Tables} {acts : List Act} (new : ServerView Tables)
      (AreSo : List Institution → List Row → List Act → Type 0) → WentOn state before after old mid acts → HoldsAt state after mid new AreSo
      → HoldsAt state before old new (λ institutions rows done. AreSo institutions rows (done ++ acts))
  holds-later {acts = acts} new AreSo went next honest rows start first done s =
      next honest rows start first (done ++ acts) (went.serves rows start first done s)

  pub went-nowhere : (log : Option (List Call)) (it : TurnerView Tables) → WentOn state log log it it []
  went-nowhere log it = record {
    serves = λ rows start first done s. rw append-nil s;
    working = λ works. works;
    was_honest = λ honest. honest;
  }

  module _ {before now after : Option (List Call)} {old mid new : TurnerView Tables} {acts later : List Act} where
    pub went-then : WentOn state before now old mid acts → WentOn state now after mid new later → WentOn state before after old new (acts ++ later)
    went-then one next = record {
      serves = λ rows start first done s. rw (← append_assoc done acts later) (next.serves rows start first (done ++ acts) (one.serves rows start first done s));
      working = λ works. next.working (one.working works);
      was_honest = λ honest. one.was_honest (next.was_honest honest);
    }

  pub went-by-turns : {before after : Option (List Call)} {old new : TurnerView Tables} {count : ℕ} → TurnsServe → StepsServe
      → (went : TurnsWent (Moves state) before after old.server new.server old.hold new.hold count) → new.fault ≡ None
      → WentOn state before after old new (all_turned went.turns)
  went-by-turns {before} {after} {old} {new} {count} law histories went works = record {
    serves = λ rows start first done s. law rows start before after first old.server new.server old.hold new.hold done count s went;
    working = λ worked. works;
    was_honest = (histories old.server new.server (all_steps went.turns) went.steps).was_honest;
  }

  module _ {old new : TurnerView Tables} (hold : new.hold ≡ old.hold) (fault : new.fault ≡ old.fault) where
    pub went-by-order : OrdersServe → (event : Event) (reply : Reply) → IsOrder event → Stepped state old.server new.server event reply
        → Attended state old new (Ordered event reply ∷ [])
    went-by-order law event reply order step = λ log. record {
      serves = λ rows start first done s.
          rw hold (law rows start log first old.server new.server old.hold done event reply s order step);
      working = λ works. fault ∙ works;
      was_honest = step.goes.was_honest;
    }

    pub went-by-look : LooksServe → Looked state old.server new.server → Attended state old new []
    went-by-look law look = λ log. record {
      serves = λ rows start first done s. rw (hold, append-nil) (law rows start log first old.server new.server old.hold done s look);
      working = λ works. fault ∙ works;
      was_honest = look.goes.was_honest;
    }

    pub went-by-nothing : new.server ≡ old.server → Attended state old new []
    went-by-nothing same = λ log. record {
      serves = λ rows start first done s. rw (same, hold, append-nil) s;
      working = λ works. fault ∙ works;
      was_honest = λ honest. subst (λ (server : ServerView Tables). (state server.tables).honest) same honest;
    }

  module _ {old new : TurnerView Tables} (hold : new.hold ≡ old.hold) (fault : new.fault ≡ old.fault) (copied : List Row → Type 0) (names : List (List ℕ))
      (orders : OrdersServe) (looks : LooksServe) (histories : StepsServe) (whole : WholeServes) (kept : RowsServe) where
    order-responds : (asked : Request) (event : Event) (answer : Response) → IsOrder event
        → ((acts : List Act) → OrdersOnce event answer acts → IsAnswer asked answer acts)
        → ((institutions : List Institution) (rows : List Row) → TellsOf institutions names rows asked answer)
        → Orders state old.server new.server event answer → Responds state names old new asked answer
    order-responds asked event answer order is tells done = record {
      stepped = Ordered event done.0 ∷ [];
      is = is (Ordered event done.0 ∷ []) (done.0, refl, done.2);
      acts = went-by-order hold fault orders event done.0 order done.1;
      tells = λ now honest rows start first acts s. tells first.institutions (rows_after first.institutions rows acts);
    }

    look-responds : (asked : Request) (answer : Response) → IsAnswer asked answer []
        → ((state new.server.tables).honest → TellsOf old.server.institutions names (state old.server.tables).rows asked answer)
        → Looked state old.server new.server → Responds state names old new asked answer
    look-responds asked answer is tells looked = record {
      stepped = [];
      is = is;
      acts = went-by-look hold fault looks looked;
      tells = holds-of histories whole kept (λ (institutions : List Institution) (rows : List Row). TellsOf institutions names rows asked answer) old
          new.server looked.goes.was_honest tells;
    }

    -- what is asked was done, and its answer is of the rows as they are
    pub responds : (asked : Request) (answer : Response) → Answered state copied names old.server new.server asked answer
        → Responds state names old new asked answer
    responds (request.Search asked) answer is =
        look-responds (request.Search asked) answer refl is.1 is.0
    responds (request.Counts name) answer is =
        look-responds (request.Counts name) answer refl is.1 is.0
    responds request.Report answer is = look-responds request.Report answer refl is.1 is.0
    responds (request.Schedule institution octets) answer is =
        order-responds (request.Schedule institution octets) (event.Schedule institution octets) answer tt (λ acts once. once) (λ institutions rows. tt) is
    responds (request.Withdraw institution id) answer is =
        order-responds (request.Withdraw institution id) (event.Withdraw institution id) answer tt (λ acts once. once) (λ institutions rows. tt) is
    responds (request.Backup path) answer is =
        look-responds (request.Backup path) answer (refl, (is.made, is.answer_is)) (λ honest. tt) is.looked

    -- what a line tells was done, and the client has its answer
    pub does-line : (rereads : Result (Unit {0}) KeysError → Type 0) (octets text : List ℕ) (client next : HeldClient) (is_over : Bool) → next ≡ client_with_answer client text is_over → (l : ConsoleLine)
        → TellsLine octets l → is_over ≡ is_bad l → LineAnswered state copied names rereads old.server new.server l text
        → Does state names old new octets client next rereads
    does-line rereads octets text client next is_over put (line.Asked asked) tells bad is =
        let answered = responds asked is.0 is.1 in
        record {
          answer = Obeyed (record { asked = asked; answer = is.0; acts = answered.stepped });
          is = (tells, answered.is);
          acts = answered.acts;
          leaves = put ∙ ap₂ (λ (t : List ℕ) (b : Bool). client_with_answer client t b) is.2 bad;
          tells = answered.tells;
          reread = tt;
        }
    does-line rereads octets text client next is_over put line.Keys tells bad is = record {
      answer = Reread is.1.0;
      is = tells;
      acts = went-by-nothing hold fault is.0;
      leaves = put ∙ ap₂ (λ (t : List ℕ) (b : Bool). client_with_answer client t b) is.1.2 bad;
      tells = λ now honest rows start first done s. tt;
      reread = is.1.1;
    }
    does-line rereads octets text client next is_over put (line.Misspelled word) tells bad is = record {
      answer = Refused (string_bytes word);
      is = tells;
      acts = went-by-nothing hold fault is.0;
      leaves = put ∙ ap₂ (λ (t : List ℕ) (b : Bool). client_with_answer client t b) is.1 bad;
      tells = λ now honest rows start first done s. tt;
      reread = tt;
    }
    does-line rereads octets text client next is_over put line.Bad tells bad is = record {
      answer = Unread;
      is = tells;
      acts = went-by-nothing hold fault is.0;
      leaves = put ∙ ap₂ (λ (t : List ℕ) (b : Bool). client_with_answer client t b) is.1 bad;
      tells = λ now honest rows start first done s. tt;
      reread = tt;
    }

  -- what is honest after a fault was so before
  pub failed-honest : {last new : ServerView Tables} → HasFailed state last new → (state new.tables).honest → (state last.tables).honest
  failed-honest (inl (event, why, fails)) honest = fails.goes.was_honest honest
  failed-honest (inr (why, fails)) honest = fails.goes.was_honest honest

  pub left-honest : {last new : ServerView Tables} → IsLeft state last new → (state new.tables).honest → (state last.tables).honest
  left-honest (inl same) honest = subst (λ (server : ServerView Tables). (state server.tables).honest) same honest
  left-honest (inr failed) honest = failed-honest failed honest

  -- a turner as it was, but for its server
  abbrev at-server : TurnerView Tables → ServerView Tables → TurnerView Tables
  at-server old at = record { server = at; hold = old.hold; fault = old.fault }

  -- an order that is not answered, of the line that asks for it
  of-line : (octets : List ℕ) (asked : Request) (order : Option (Event × Reply)) → SpellsRequest octets asked → IsUnanswered asked order
      → IsLineUnanswered octets order
  of-line octets asked None tells is = tt
  of-line octets asked (Some order) tells is = (asked, tells, is)

  -- it was done, and there is no memory for its answer
  pub unanswered-after : (copied : List Row → Type 0) (names : List (List ℕ)) (old new : ServerView Tables) (asked : Request) (answer : Response)
      → Answered state copied names old new asked answer → Unanswered state old new asked NoMemory
  unanswered-after copied names old new (request.Search it) answer is = (new, is.0, refl)
  unanswered-after copied names old new (request.Counts name) answer is = (new, is.0, refl)
  unanswered-after copied names old new request.Report answer is = (new, is.0, refl)
  unanswered-after copied names old new (request.Schedule institution octets) answer is = inr (is.0, is.1)
  unanswered-after copied names old new (request.Withdraw institution id) answer is = inr (is.0, is.1)
  unanswered-after copied names old new (request.Backup path) answer is = (new, is.looked, refl)

  -- the web front had its turn: nothing was asked
  pub none-responded : {IsFront : FrontTurn → Type 0} (names : List (List ℕ)) (it : TurnerView Tables) → IsFront Unasked
      → RespondedBy state names it it IsFront
  none-responded names it is = record {
    asked = Unasked;
    are = tt;
    acts = λ log. went-nowhere log it;
    tells = λ now honest rows start first done s. tt;
    front = is;
  }

  pub responded-as : {IsFront IsMore : FrontTurn → Type 0} (names : List (List ℕ)) (old new : TurnerView Tables)
      → ((asked : FrontTurn) → IsFront asked → IsMore asked) → RespondedBy state names old new IsFront → RespondedBy state names old new IsMore
  responded-as names old new more responded = record {
    asked = responded.asked;
    are = responded.are;
    acts = responded.acts;
    tells = responded.tells;
    front = more responded.asked responded.front;
  }

  -- what was asked was answered
  pub one-responded : {IsFront : FrontTurn → Type 0} (names : List (List ℕ)) (old new : TurnerView Tables) (asked : Request) (answer : Response)
      → (one : Responds state names old new asked answer) → ((acts : List Act) → IsFront (Responded (record { asked = asked; answer = answer; acts = acts })))
      → RespondedBy state names old new IsFront
  one-responded names old new asked answer one is = record {
    asked = Responded (record { asked = asked; answer = answer; acts = one.stepped });
    are = one.is;
    acts = one.acts;
    tells = one.tells;
    front = is one.stepped;
  }

  -- there was no memory for the answer
  pub none-answered : {IsFront : FrontTurn → Type 0} (names : List (List ℕ)) (old new : TurnerView Tables) (asked : Request)
      → IsNotAnswered state old new asked NoMemory → ((order : Option (Event × Reply)) → IsFront (LetGo asked order)) → RespondedBy state names old new IsFront
  none-answered names old new asked (order, of, acts) is = record {
    asked = LetGo asked order;
    are = of;
    acts = acts;
    tells = λ now honest rows start first done s. tt;
    front = is order;
  }

  -- there is no answer to a request
  module _ (old new : TurnerView Tables) (orders : OrdersServe) (looks : LooksServe) (hold : new.hold ≡ old.hold) where
    looks-part : (asked : Request) (error : AnswerError) → (error ≡ NoMemory → new.fault ≡ old.fault)
        → LooksInPart state old.server new.server error → IsNotAnswered state old new asked error
    looks-part asked NoMemory fault part = (None, tt, went-by-look hold (fault refl) looks (rw part.2 part.1))
    looks-part asked (Server why) fault part = record {
      last = at-server old part.0;
      acts = went-by-look {old = old} {new = at-server old part.0} refl refl looks part.1;
      left = inr (why, part.2);
    }

    order-part : (asked : Request) (event : Event) (error : AnswerError) → IsOrder event → order_in asked ≡ Some event
        → (error ≡ NoMemory → new.fault ≡ old.fault) → OrdersInPart state old.server new.server event error → IsNotAnswered state old new asked error
    order-part asked event NoMemory order is fault (inl same) = (None, tt, went-by-nothing hold (fault refl) same)
    order-part asked event NoMemory order is fault (inr (reply, stepped)) =
        (Some (event, reply), is, went-by-order hold (fault refl) orders event reply order stepped)
    order-part asked event (Server why) order is fault fails =
        record { last = old; acts = λ log. went-nowhere log old; left = inl (event, why, fails) }

    pub not-answered : (asked : Request) (error : AnswerError) → (error ≡ NoMemory → new.fault ≡ old.fault)
        → Unanswered state old.server new.server asked error → IsNotAnswered state old new asked error
    not-answered (request.Search asked) error fault part = looks-part (request.Search asked) error fault part
    not-answered (request.Counts name) error fault part = looks-part (request.Counts name) error fault part
    not-answered request.Report error fault part = looks-part request.Report error fault part
    not-answered (request.Schedule institution octets) error fault part =
        order-part (request.Schedule institution octets) (event.Schedule institution octets) error tt refl fault part
    not-answered (request.Withdraw institution id) error fault part =
        order-part (request.Withdraw institution id) (event.Withdraw institution id) error tt refl fault part
    not-answered (request.Backup path) error fault part = looks-part (request.Backup path) error fault part

    -- nor to a line
    of-asked : (octets : List ℕ) (asked : Request) (error : AnswerError) → SpellsRequest octets asked → IsNotAnswered state old new asked error
        → IsNotObeyed state old new octets error
    of-asked octets asked NoMemory tells (order, is, acts) = (order, of-line octets asked order tells is, acts)
    of-asked octets asked (Server why) tells halted = halted

    pub not-obeyed : (octets : List ℕ) (l : ConsoleLine) (error : AnswerError) → TellsLine octets l → (error ≡ NoMemory → new.fault ≡ old.fault)
        → LineUnanswered state old.server new.server l error → IsNotObeyed state old new octets error
    not-obeyed octets (line.Asked asked) error tells fault part = of-asked octets asked error tells (not-answered asked error fault part)
    not-obeyed octets (line.Misspelled word) NoMemory tells fault same = (None, tt, went-by-nothing hold (fault refl) same)
    not-obeyed octets line.Keys NoMemory tells fault same = (None, tt, went-by-nothing hold (fault refl) same)
    not-obeyed octets line.Bad NoMemory tells fault same = (None, tt, went-by-nothing hold (fault refl) same)
    not-obeyed octets (line.Misspelled word) (Server why) tells fault none = absurd none
    not-obeyed octets line.Keys (Server why) tells fault none = absurd none
    not-obeyed octets line.Bad (Server why) tells fault none = absurd none
