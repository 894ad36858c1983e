-- The turns of clients of the console, one after the other.
use Rattle.std.proofs.Common.{◌≡◌, ◌<◌, ◌+◌, ℕ, List, [], ◌∷◌, ◌++◌, length, map, get_or, set, remove, Bool, true, false, Option, Some, None, Result, refl, sym, subst, ◌∙◌, ap, arith, append_assoc, length-append}
use Rattle.std.specs.List.{flat_map}
use Rattle.std.proofs.lemmas.List.{append-nil}
use Rattle.dq_config.specs.declared.config.Institution.{Institution}
use Rattle.dq_tables.specs.declared.row.Row.{Row}
use Rattle.dq_tables.specs.TableStates.{State}
use Rattle.dq_wires.specs.declared.calls.Call.{Call}
use Rattle.dq_wires.specs.declared.calls.Call.TheVariants.{Shut}
use Rattle.dq_wires.specs.ConnectionActions.{Shutting}
use Rattle.dq_wires.specs.Logs.{Logs, LogsAll}
use Rattle.dq_wires.specs.Servings.{Act}
use Rattle.dq_wires.specs.Turners.{TurnerView}
use Rattle.dq_wires.proofs.Logging.{logs-then, logs-none}
use Rattle.dq_wires.proofs.TurnSequences.{flat_map-more, map-more, get-at, set-at, remove-at}
use Rattle.dq_console.specs.Console.{HeldClient, HasLine, first_line, without_line, TakesMore, client_with_answer, line_answer_text, is_unread, client_turn_calls, after_client_turn, letting_calls, Visit, IsVisit, AreVisits, client_of, clients_kept, visit_calls, visit_acts, shut_calls, ClientTurnTells, VisitsTell, IsClientTurn, IsLineUnanswered, FrontTurn, AskedTells}
use Rattle.dq_console.specs.Console.Stopping.{AtLine, AtFront}
use Rattle.dq_console.specs.Console.ClientTurn.{Took, Forgotten}
use Rattle.dq_console.specs.ClientTurns.{Writes, Quiet, Does, LetsIn, HaltedAt, Halted, IsNotObeyed, ClientTurnMade, Visited, AllVisited, SomeVisited, RespondedBy, Attends, Interrupted}
use Rattle.dq_core.specs.declared.event.Event.{Event}
use Rattle.dq_core.specs.declared.event.Reply.{Reply}
use Rattle.dq_console.specs.declared.answer_error.AnswerError.TheVariants.{NoMemory}
use Rattle.dq_console.specs.declared.asks.KeysError.{KeysError}
use Rattle.dq_console.specs.ServiceProgress.{WentOn, Attended, Holds}
use Rattle.dq_console.proofs.ServiceProgress.{went-nowhere, went-then, holds-later, failed-honest}

visits-more : (visits : List Visit) (v : Visit) → AreVisits visits → IsVisit v → AreVisits (visits ++ v ∷ [])
visits-more [] v a h = (h, tt)
visits-more (e ∷ visits) v a h = (a.0, visits-more visits v a.1 h)

-- one visit more tells of the rows as they are after those before it
tells-more : (institutions : List Institution) (names : List (List ℕ)) (rows : List Row) (done : List Act) (visits : List Visit) (v : Visit)
    → VisitsTell institutions names rows done visits → ClientTurnTells institutions names rows (done ++ flat_map visit_acts visits) v.client v.client_turn
    → VisitsTell institutions names rows done (visits ++ v ∷ [])
tells-more institutions names rows done [] v a h =
    (subst (λ (acts : List Act). ClientTurnTells institutions names rows acts v.client v.client_turn) (append-nil done) h, tt)
tells-more institutions names rows done (e ∷ visits) v a h = (
  a.0,
  tells-more institutions names rows (done ++ visit_acts e) visits v a.1 (subst (λ (acts : List Act). ClientTurnTells institutions names rows acts v.client v.client_turn)
      (sym (append_assoc done (visit_acts e) (flat_map visit_acts visits))) h),
)

module _ {Tables : Type 0} (state : Tables → State) where
  pub attended-then : {old mid new : TurnerView Tables} {acts later : List Act} → Attended state old mid acts → Attended state mid new later
      → Attended state old new (acts ++ later)
  attended-then one next = λ log. went-then state (one log) (next log)

  attended-still : {old mid new : TurnerView Tables} {acts : List Act} → Attended state old mid acts → Attended state mid new [] → Attended state old new acts
  attended-still {old} {mid} {new} {acts} one next = λ log.
      subst (λ (all : List Act). WentOn state log log old new all) (append-nil acts) (went-then state (one log) (next log))

module _ {Tables : Type 0} (state : Tables → State) (names : List (List ℕ)) where
  -- who is gone is shut
  pub visited-gone : {before mid after : Option (List Call)} {old new : TurnerView Tables} {client next : HeldClient} {there : Bool} (place : ℕ) (answer : Shutting)
      → there ≡ false → ClientTurnMade state names before mid old new client next there → place ≡ client.place → Logs mid after (Shut place answer)
      → Visited state names before after old new client next false
  visited-gone {before} {mid} {after} {client = client} place answer is made at told =
      let leaves : after_client_turn client made.client_turn ≡ [] = rw is at made.leaves in
      record {
        client_turn = made.client_turn;
        is = made.is;
        shut = Some answer;
        shuts = rw leaves tt;
        calls = logs-then before mid after (client_turn_calls client made.client_turn) (shut_calls client (Some answer)) made.calls (rw at at told);
        acts = made.acts;
        leaves = leaves;
        tells = made.tells;
      }

  -- a line was taken, and its answer offered
  pub client-turn-line : {before mid after : Option (List Call)} {old new : TurnerView Tables} {client taken put next : HeldClient} {line : List ℕ} {there : Bool}
      {rereads : Result (Unit {0}) KeysError → Type 0}
      → TakesMore client → HasLine client.came → line ≡ first_line client.came → taken ≡ without_line client → mid ≡ before
      → Does state names old new line taken put rereads → Writes mid after put next there → ClientTurnMade state names before after old new client next there
  client-turn-line {client = client} listening has is without same does writes =
      let became = does.leaves ∙ ap (λ (c : HeldClient). client_with_answer c (line_answer_text does.answer) (is_unread does.answer)) without in
      let sent = rw (became, same) at writes in
      record {
        client_turn = Took does.answer sent.0;
        is = (listening, has, rw is at does.is);
        calls = sent.1;
        acts = does.acts;
        leaves = sent.2;
        tells = does.tells;
      }

  -- no line was taken
  pub client-turn-quiet : {before after : Option (List Call)} {old : TurnerView Tables} {client next : HeldClient} {there : Bool} → Quiet before after client next there
      → ClientTurnMade state names before after old old client next there
  client-turn-quiet {old = old} quiet = record {
    client_turn = quiet.client_turn;
    is = quiet.is;
    calls = quiet.calls;
    acts = λ log. rw quiet.quiet (went-nowhere state log old);
    leaves = quiet.leaves;
    tells = λ now honest rows start first done s. quiet.tells first.institutions names rows done;
  }

  forgotten : (client : HeldClient) (order : Option (Event × Reply)) → TakesMore client → HasLine client.came
      → IsLineUnanswered (first_line client.came) order → IsClientTurn client (Forgotten order)
  forgotten client None listening has is = listening
  forgotten client (Some order) listening has is = (listening, has, is)

  -- there was no memory for a line, or for its answer
  pub client-turn-forgotten : {before after : Option (List Call)} {old new : TurnerView Tables} {client next : HeldClient} → TakesMore client → HasLine client.came
      → after ≡ before → IsNotObeyed state old new (first_line client.came) NoMemory → ClientTurnMade state names before after old new client next false
  client-turn-forgotten {before} {client = client} listening has same (order, is, acts) = record {
    client_turn = Forgotten order;
    is = forgotten client order listening has is;
    calls = rw same (logs-none before);
    acts = acts;
    leaves = refl;
    tells = λ now honest rows start first done s. tt;
  }

  -- Some have had their turns. Where the next stands among the clients, the others come after it.
  pub record VisitsSo (before now : Option (List Call)) (old mid : TurnerView Tables) (from clients : List HeldClient) (at : ℕ) : Type 0 where
    pub visits : List Visit
    pub others : List HeldClient
    pub each : map client_of visits ++ others ≡ from
    pub are : AreVisits visits
    pub calls : LogsAll before now (flat_map visit_calls visits)
    pub acts : Attended state old mid (flat_map visit_acts visits)
    pub tells : Holds state old mid.server (λ institutions rows done. VisitsTell institutions names rows done visits)
    pub holds : clients ≡ flat_map clients_kept visits ++ others
    pub place : at ≡ length (flat_map clients_kept visits)

  pub visits-begin : (log : Option (List Call)) (old : TurnerView Tables) (from : List HeldClient) → VisitsSo log log old old from from 0
  visits-begin log old from = record {
    visits = [];
    others = from;
    each = refl;
    are = tt;
    calls = logs-none log;
    acts = λ l. went-nowhere state l old;
    tells = λ now honest rows start first done s. tt;
    holds = refl;
    place = refl;
  }

  module _ {before now : Option (List Call)} {old mid : TurnerView Tables} {from clients : List HeldClient} {at : ℕ} (so : VisitsSo before now old mid from clients at) where
    pub visits-end : length clients < at + 1 → AllVisited state names before now old mid from clients
    visits-end h = ends so.others so.each so.holds where
      ends : (others : List HeldClient) → map client_of so.visits ++ others ≡ from → clients ≡ flat_map clients_kept so.visits ++ others
          → AllVisited state names before now old mid from clients
      ends [] each holds = record {
        visits = so.visits;
        each = sym (append-nil (map client_of so.visits)) ∙ each;
        are = so.are;
        calls = so.calls;
        acts = so.acts;
        kept = holds ∙ append-nil (flat_map clients_kept so.visits);
        tells = so.tells;
      }
      ends (client ∷ others) each holds = absurd (omega (arith, so.place, h, ap length holds, length-append (flat_map clients_kept so.visits) (client ∷ others)))

    module _ (others : List HeldClient) (client : HeldClient) (each : map client_of so.visits ++ client ∷ others ≡ from)
        (holds : clients ≡ flat_map clients_kept so.visits ++ client ∷ others) where
      next-is : (d : HeldClient) → get_or clients at d ≡ client
      next-is d = rw (holds, so.place) (get-at (flat_map clients_kept so.visits) client others d)

      after-set : (next : HeldClient) → set clients at next ≡ flat_map clients_kept so.visits ++ next ∷ others
      after-set next = rw (holds, so.place) (set-at (flat_map clients_kept so.visits) client others next)

      module _ {after : Option (List Call)} {new : TurnerView Tables} {next : HeldClient} {there : Bool} (went : Visited state names now after mid new client next there) where
        abbrev item : Visit
        item = record { client = client; client_turn = went.client_turn; shut = went.shut }

        each-more : map client_of (so.visits ++ item ∷ []) ++ others ≡ from
        each-more = ap (λ l. l ++ others) (map-more client_of so.visits item) ∙ append_assoc (map client_of so.visits) (client ∷ []) others ∙ each

        are-more : AreVisits (so.visits ++ item ∷ [])
        are-more = visits-more so.visits item so.are (went.is, went.shuts)

        calls-more : LogsAll before after (flat_map visit_calls (so.visits ++ item ∷ []))
        calls-more = rw (flat_map-more visit_calls so.visits item) (logs-then before now after (flat_map visit_calls so.visits) (visit_calls item) so.calls went.calls)

        acts-more : Attended state old new (flat_map visit_acts (so.visits ++ item ∷ []))
        acts-more = rw (flat_map-more visit_acts so.visits item) (attended-then state so.acts went.acts)

        told-more : Holds state old new.server (λ institutions rows done. VisitsTell institutions names rows done (so.visits ++ item ∷ []))
        told-more log honest rows start first done s =
            tells-more first.institutions names rows done so.visits item (so.tells log ((went.acts log).was_honest honest) rows start first done s)
            (holds-later state new.server (λ institutions rows acts. ClientTurnTells institutions names rows acts client went.client_turn) (so.acts log) (went.tells log) honest rows start
            first done s)

        kept-more : (left : List HeldClient) → after_client_turn client went.client_turn ≡ left
            → flat_map clients_kept (so.visits ++ item ∷ []) ≡ flat_map clients_kept so.visits ++ left
        kept-more left e = flat_map-more clients_kept so.visits item ∙ ap (λ l. flat_map clients_kept so.visits ++ l) e

        is-kept : there ≡ true → VisitsSo before after old new from (set clients at next) (at + 1)
        is-kept is =
            let grown : flat_map clients_kept (so.visits ++ item ∷ []) ≡ flat_map clients_kept so.visits ++ next ∷ [] = kept-more (next ∷ []) (rw is at went.leaves) in
            record {
              visits = so.visits ++ item ∷ [];
              others = others;
              each = each-more;
              are = are-more;
              calls = calls-more;
              acts = acts-more;
              tells = told-more;
              holds = after-set next ∙ sym (append_assoc (flat_map clients_kept so.visits) (next ∷ []) others) ∙ ap (λ l. l ++ others) (sym grown);
              place = omega (arith, so.place, ap length grown, length-append (flat_map clients_kept so.visits) (next ∷ []));
            }

        is-gone : there ≡ false → VisitsSo before after old new from (remove (set clients at next) at) at
        is-gone is =
            let grown : flat_map clients_kept (so.visits ++ item ∷ []) ≡ flat_map clients_kept so.visits =
            kept-more [] (rw is at went.leaves) ∙ append-nil (flat_map clients_kept so.visits) in
            record {
              visits = so.visits ++ item ∷ [];
              others = others;
              each = each-more;
              are = are-more;
              calls = calls-more;
              acts = acts-more;
              tells = told-more;
              holds = ap (λ l. remove l at) (after-set next) ∙ ap (λ (n : ℕ). remove (flat_map clients_kept so.visits ++ next ∷ others) n) so.place
                  ∙ remove-at (flat_map clients_kept so.visits) next others ∙ ap (λ l. l ++ others) (sym grown);
              place = so.place ∙ ap length (sym grown);
            }

    module _ {after : Option (List Call)} {new : TurnerView Tables} {next : HeldClient} {there : Bool} (within : at < length clients) (w : HeldClient) (found : w ≡ get_or clients at w) where
      pub visits-kept : there ≡ true → Visited state names now after mid new w next there → VisitsSo before after old new from (set clients at next) (at + 1)
      visits-kept is went = by so.others so.each so.holds where
        by : (others : List HeldClient) → map client_of so.visits ++ others ≡ from → clients ≡ flat_map clients_kept so.visits ++ others
            → VisitsSo before after old new from (set clients at next) (at + 1)
        by [] each holds = absurd (omega (arith, so.place, within, ap length holds, length-append (flat_map clients_kept so.visits) []))
        by (client ∷ others) each holds = is-kept others client each holds (rw (found ∙ next-is others client each holds w) at went) is

      pub visits-gone : there ≡ false → Visited state names now after mid new w next there → VisitsSo before after old new from (remove (set clients at next) at) at
      visits-gone is went = by so.others so.each so.holds where
        by : (others : List HeldClient) → map client_of so.visits ++ others ≡ from → clients ≡ flat_map clients_kept so.visits ++ others
            → VisitsSo before after old new from (remove (set clients at next) at) at
        by [] each holds = absurd (omega (arith, so.place, within, ap length holds, length-append (flat_map clients_kept so.visits) []))
        by (client ∷ others) each holds = is-gone others client each holds (rw (found ∙ next-is others client each holds w) at went) is

    -- a fault came in the turn of the next
    pub visits-halted : {after : Option (List Call)} {new : TurnerView Tables} → at < length clients → (w : HeldClient) → w ≡ get_or clients at w
        → HaltedAt state now after mid new w → SomeVisited state names before after old new from
    visits-halted {after} {new} within w found halted = by so.others so.each so.holds where
      by : (others : List HeldClient) → map client_of so.visits ++ others ≡ from → clients ≡ flat_map clients_kept so.visits ++ others
          → SomeVisited state names before after old new from
      by [] each holds = absurd (omega (arith, so.place, within, ap length holds, length-append (flat_map clients_kept so.visits) []))
      by (client ∷ others) each holds =
          let is : HaltedAt state now after mid new client = rw (found ∙ next-is others client each holds w) at halted in
          record {
            visits = so.visits;
            client = client;
            others = others;
            each = each;
            are = so.are;
            calls = rw is.2 so.calls;
            listening = is.0;
            has = is.1;
            last = is.3.last;
            acts = attended-still state so.acts is.3.acts;
            left = is.3.left;
            tells = λ log honest. so.tells log ((is.3.acts log).was_honest (failed-honest state is.3.left honest));
          }

  -- a turn that was interrupted at a line
  pub interrupts : {before mid after : Option (List Call)} {old new : TurnerView Tables} {from via : List HeldClient} → LetsIn before mid from via
      → SomeVisited state names mid after old new via → Interrupted state names before after old new from
  interrupts {before} {mid} {after} lets some = record {
    it = record { letting = lets.letting; visits = some.visits; at = AtLine some.client some.others };
    is = record { lets = lets.lets; each = some.each ∙ lets.leaves; are = some.are; stops = (some.listening, some.has) };
    calls = logs-then before mid after (letting_calls lets.letting) (flat_map visit_calls some.visits) lets.calls some.calls;
    last = some.last;
    acts = some.acts;
    left = some.left;
    tells = some.tells;
  }

  -- a turn that was interrupted at the request of the web front
  pub interrupts-front : {before mid after : Option (List Call)} {old one new : TurnerView Tables} {from via to : List HeldClient} → LetsIn before mid from via
      → AllVisited state names mid after old one via to → Halted state one new → Interrupted state names before after old new from
  interrupts-front {before} {mid} {after} lets all halted = record {
    it = record { letting = lets.letting; visits = all.visits; at = AtFront };
    is = record {
      lets = lets.lets;
      each = append-nil (map client_of all.visits) ∙ all.each ∙ lets.leaves;
      are = all.are;
      stops = tt;
    };
    calls = logs-then before mid after (letting_calls lets.letting) (flat_map visit_calls all.visits) lets.calls all.calls;
    last = halted.last;
    acts = attended-still state all.acts halted.acts;
    left = halted.left;
    tells = λ log honest. all.tells log ((halted.acts log).was_honest (failed-honest state halted.left honest));
  }

  -- a turn
  pub attends : {before mid after : Option (List Call)} {old one new : TurnerView Tables} {from via to : List HeldClient} {IsFront : FrontTurn → Type 0}
      → LetsIn before mid from via → AllVisited state names mid after old one via to → RespondedBy state names one new IsFront
      → Attends state names before after old new from to IsFront
  attends {before} {mid} {after} {new = new} lets all responded = record {
    attending = record { letting = lets.letting; visits = all.visits; asked = responded.asked };
    is = record { lets = lets.lets; each = all.each ∙ lets.leaves; are = all.are; answers = responded.are };
    calls = logs-then before mid after (letting_calls lets.letting) (flat_map visit_calls all.visits) lets.calls all.calls;
    acts = attended-then state all.acts responded.acts;
    leaves = all.kept;
    tells = λ now honest rows start first done s. (
      all.tells now ((responded.acts now).was_honest honest) rows start first done s,
      holds-later state new.server (λ institutions rows acts. AskedTells institutions names rows acts responded.asked) (all.acts now) (responded.tells now) honest rows start
          first done s,
    );
    front = responded.front;
  }
