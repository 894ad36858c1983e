-- What each service keeps true of the rows stays true of them, whatever octets the server is sent.
use Rattle.std.proofs.Common.{◌≡◌, ℕ, zero, suc, ◌==◌, Bool, true, false, List, [], ◌∷◌, ◌++◌, map, length, take, drop, Option, Some, None, refl, sym, ap, ◌∙◌, subst}
use Rattle.std.specs.List.{AllByRecursion}
use Rattle.std.specs.Option.{option_map_or}
use Rattle.std.specs.Str.{bytes_eq}
use Rattle.std.proofs.lemmas.List.{map-append}
use Rattle.dq_core.proofs.isolation.Vocabulary.{AreOctets, Syntax, c_cancel, Message, AcceptedContext, Agreement, Verdict, service_of, uid_of, context_of, Input, Sent, Institution, Limits, limits_of, Row, Event, Reply, IsRun, DimseOperation, Echo, Store, FindStudies, FindEntries, CreateStep, SetStep, Progress, Answer, input_answer, input_answers, answer_after, then_answer, progress_of, inputs_added, verdict_at, after_piece, Connection, new_connection, with_piece, with_query, connection_in, owner, live_of, World, turn, answer_by, operations_by, piece_turn, end_turn, pull_turn, order_turn, world_after_turn, world_from, first_world, world_after, operations_next, rows_within, HoldsOctets, BringsOctets, BringOctets, CameAsOctets, ServicesKeep}
use Rattle.dq_config.specs.Routing.{institution_named}
use Rattle.dq_tables.specs.Rows.{Record, Edit, records_after_edits, Operation, by, of, after, after_all}
use Rattle.dq_core.specs.declared.event.Event.TheVariants as event
use Rattle.dq_core.specs.Services.{ConsoleOrder, Scheduling, Withdrawal, console_outcome, service_of_message, served_by, no_response, operation_named, operation_outcome, outcome_of, message_outcome}
use Rattle.dq_core.specs.Pages.{OpenQuery, Reaction, next_page, reaction, reaction_while, cancel_reaction, first_reaction, answered_message_id}
use Rattle.dq_core.proofs.Composing.{after-append}
use Rattle.dq_core.proofs.isolation.Lists.{found-has, each-append, each-without, each-with}
use Rattle.dq_core.proofs.isolation.Octets.{SmallInput, from-octets, to-octets, each-joined, each-dropped, each-taken, added-small}

-- ---- the streams of the connections that are held

module _ (institutions : List Institution) where
  abbrev Came : Connection → Type 0
  Came c = AreOctets c.stream

  piece-came : (world : World) (c : Connection) (piece : List ℕ) (a : Answer) (p : Bool) → a.close ≡ p → Came c → AreOctets piece
      → CameAsOctets world.connections → CameAsOctets (after_piece c piece a world.connections)
  piece-came world c piece a true h came brings each = rw h (each-without Came c.number world.connections each)
  piece-came world c piece a false h came brings each =
      let joined = to-octets (c.stream ++ piece) (each-joined _ c.stream piece (from-octets c.stream came) (from-octets piece brings)) in
      rw h (each-with Came (with_piece c piece a.next.query) world.connections joined each)

  on_connection-came : (world : World) (number : ℕ) (piece : List ℕ) (o : Option Connection) → connection_in number world.connections ≡ o
      → AreOctets piece → CameAsOctets world.connections → CameAsOctets (piece_turn institutions world piece o).connections
  on_connection-came world number piece None e brings each = each
  on_connection-came world number piece (Some c) e brings each =
      let a = answer_by (owner institutions (c.stream ++ piece)) institutions world c piece in
      piece-came world c piece a a.close refl (found-has Came number world.connections c e each) brings each

  end-came : (world : World) (o : Option Connection) → CameAsOctets world.connections → CameAsOctets (end_turn world o).connections
  end-came world None each = each
  end-came world (Some c) each = each-without Came c.number world.connections each

  pull-came : (world : World) (number : ℕ) (o : Option Connection) → connection_in number world.connections ≡ o
      → CameAsOctets world.connections → CameAsOctets (pull_turn world o).connections
  pull-came world number None e each = each
  pull-came world number (Some c) e each =
      each-with Came (with_query (next_page c.query).query c) world.connections (found-has Came number world.connections c e each) each

  order-came : (world : World) (order : ConsoleOrder) (o : Option Institution) → CameAsOctets world.connections
      → CameAsOctets (order_turn world order o).connections
  order-came world order None each = each
  order-came world order (Some i) each = each

  pub turn-came : (world : World) (e : Event) → CameAsOctets world.connections → BringsOctets e → CameAsOctets (turn institutions world e).connections
  turn-came world (event.Open number) each brings = each-append Came world.connections (new_connection number) each (to-octets [] tt)
  turn-came world (event.Piece number piece) each brings =
      on_connection-came world number piece (connection_in number world.connections) refl brings each
  turn-came world (event.End number) each brings = end-came world (connection_in number world.connections) each
  turn-came world (event.Pull number) each brings = pull-came world number (connection_in number world.connections) refl each
  turn-came world (event.Schedule inst octets) each brings = order-came world (Scheduling octets) (institution_named institutions inst) each
  turn-came world (event.Withdraw inst id) each brings = order-came world (Withdrawal id) (institution_named institutions inst) each

  came-from : (world : World) (events : List Event) → CameAsOctets world.connections → BringOctets events
      → CameAsOctets (world_from institutions world events).connections
  came-from world [] each brings = each
  came-from world (e ∷ events) each brings =
      came-from (world_after_turn world (turn institutions world e)) events (turn-came world e each brings.0) brings.1

pub history-came : (institutions : List Institution) (rows : List Row) (events : List Event) → BringOctets events
    → CameAsOctets (world_after institutions rows events).connections
history-came institutions rows events brings = came-from institutions (first_world rows) events tt brings

-- ---- what services keep

-- an institution's records are edited
abbrev pub Edits : Type 0
Edits = (name : List ℕ) (edits : List Edit) (rows : List Row) → of name (after (by name edits) rows) ≡ records_after_edits edits (of name rows)

module _ (Good : List Row → Type 0) where
  -- the rows after edits of an institution's records, if they were good
  abbrev Keep : List ℕ → List Edit → List Row → Type 0
  Keep name edits rows = Good (after (by name edits) rows)

  -- the rows stay good after each operation in turn
  abbrev pub Stay : List Operation → List Row → Type 0
  Stay [] rows = Good rows
  Stay (o ∷ os) rows = Good rows × Stay os (after o rows)

  stay-first : (os : List Operation) (rows : List Row) → Stay os rows → Good rows
  stay-first [] rows s = s
  stay-first (o ∷ os) rows s = s.0

  stay-all : (os : List Operation) (rows : List Row) → Stay os rows → Good (after_all os rows)
  stay-all [] rows s = s
  stay-all (o ∷ os) rows s = stay-all os (after o rows) s.1

  pub stay-taken : (os : List Operation) (rows : List Row) → Stay os rows → (count : ℕ) → Good (after_all (take count os) rows)
  stay-taken os rows s zero = stay-first os rows s
  stay-taken [] rows s (suc count) = s
  stay-taken (o ∷ os) rows s (suc count) = stay-taken os (after o rows) s.1 count

  stay-joined : (os ps : List Operation) (rows : List Row) → Stay os rows → Stay ps (after_all os rows) → Stay (os ++ ps) rows
  stay-joined [] ps rows s t = t
  stay-joined (o ∷ os) ps rows s t = (s.0, stay-joined os ps (after o rows) s.1 t)

  -- ---- answers

  then-changes : (a b : Answer) → a.close ≡ false → (then_answer a b).changes ≡ a.changes ++ b.changes
  then-changes a b h = rw h refl

  then-closed : (a b : Answer) → a.close ≡ true → then_answer a b ≡ a
  then-closed a b h = rw h refl

  -- An answer to an institution keeps the rows good, and what it goes on from are the institution's records after it.
  pub record Keeps (name : List ℕ) (rows : List Row) (a : Answer) : Type 0 where
    pub stay : Stay (map (by name) a.changes) rows
    pub has : a.next.records ≡ of name (after_all (map (by name) a.changes) rows)

  keeps-then : (name : List ℕ) (rows : List Row) (a b : Answer) (p : Bool) → a.close ≡ p → Keeps name rows a
      → Keeps name (after_all (map (by name) a.changes) rows) b → Keeps name rows (then_answer a b)
  keeps-then name rows a b true h k l = subst (Keeps name rows) (sym (then-closed a b h)) k
  keeps-then name rows a b false h k l =
      let joined = map-append (by name) a.changes b.changes in
      let os = map (by name) a.changes in
      let ps = map (by name) b.changes in
      rw h (record {
        stay = subst (λ (operations : List Operation). Stay operations rows) (sym joined) (stay-joined os ps rows k.stay l.stay);
        has = l.has ∙ ap (of name) (sym (after-append os ps rows) ∙ ap (λ (operations : List Operation). after_all operations rows) (sym joined));
      })

  module _ (keep : ServicesKeep Good) (name : List ℕ) (limits : Limits) (rows : List Row) (good : Good rows) where
    operation-kept : (operation : DimseOperation) (called : List ℕ) (syntax : Syntax) (message : Message) → AreOctets message.octets
        → Keep name (operation_outcome operation called syntax limits message (of name rows)).1 rows
    operation-kept Store called syntax message are = keep.storing name limits rows message syntax are good
    operation-kept CreateStep called syntax message are = keep.creating name limits rows message syntax are good
    operation-kept SetStep called syntax message are = keep.changing name rows message syntax are good
    operation-kept other called syntax message are = good

    outcome-kept : (named : Option DimseOperation) (is_its_class : Bool) (called : List ℕ) (syntax : Syntax) (message : Message) → AreOctets message.octets
        → Keep name (outcome_of named is_its_class called syntax limits message (of name rows)).1 rows
    outcome-kept None is_its_class called syntax message are = good
    outcome-kept (Some operation) false called syntax message are = good
    outcome-kept (Some operation) true called syntax message are = operation-kept operation called syntax message are

    on-kept : (o : Option AcceptedContext) (agreement : Agreement) (message : Message) → AreOctets message.octets
        → Keep name (option_map_or (λ (context : AcceptedContext). served_by context message.command
        (message_outcome agreement context limits message (of name rows))) o no_response).edits rows
    on-kept None agreement message are = good
    on-kept (Some context) agreement message are =
        outcome-kept (operation_named (service_of context.class) message.command.code) (bytes_eq message.command.sop_class (uid_of context.class))
        agreement.called context.syntax message are

    served-by-kept : (agreement : Agreement) (message : Message) → AreOctets message.octets → (b : Bool) → (message.command.code == c_cancel) ≡ b
        → Good (after (by name (service_of_message limits (of name rows) agreement message).edits) rows)
    unfolding service_of_message
    served-by-kept agreement message are true h = rw h good
    served-by-kept agreement message are false h = rw h (on-kept (context_of agreement message.context) agreement message are)

    pub served-kept : (agreement : Agreement) (message : Message) → AreOctets message.octets
        → Good (after (by name (service_of_message limits (of name rows) agreement message).edits) rows)
    served-kept agreement message are = served-by-kept agreement message are (message.command.code == c_cancel) refl

    pub ordered-kept : (order : ConsoleOrder) → HoldsOctets order → Good (after (by name (console_outcome limits (of name rows) order).edits) rows)
    unfolding console_outcome
    ordered-kept (Scheduling octets) are = keep.scheduling name limits rows octets are good
    ordered-kept (Withdrawal id) are = keep.withdrawing name rows id good

    cancel-kept : (id : ℕ) (query : OpenQuery) (b : Bool) → (id == answered_message_id query) ≡ b → Keep name (cancel_reaction id query).edits rows
    cancel-kept id query true h = rw h good
    cancel-kept id query false h = rw h good

    while-kept : (query : Option OpenQuery) (message : Message) (first : Reaction) (b : Bool) → (message.command.code == c_cancel) ≡ b
        → Keep name first.edits rows → Keep name (reaction_while query message first).edits rows
    while-kept None message first b h k = k
    while-kept (Some query) message first true h k = rw h (cancel-kept message.command.id query (message.command.id == answered_message_id query) refl)
    while-kept (Some query) message first false h k = rw h k

    reaction-kept : (query : Option OpenQuery) (agreement : Agreement) (message : Message) → AreOctets message.octets
        → Keep name (reaction query limits (of name rows) agreement message).edits rows
    unfolding reaction
    reaction-kept query agreement message are =
        while-kept query message (first_reaction agreement message (service_of_message limits (of name rows) agreement message))
        (message.command.code == c_cancel) refl (served-kept agreement message are)

  module _ (keep : ServicesKeep Good) (lens : Edits) (name : List ℕ) (limits : Limits) (verdict : Verdict) where
    after-kept : (o : Option Agreement) (agreed : Option Agreement) (query : Option OpenQuery) (rows : List Row) (x : Input) → SmallInput x → Good rows
        → Keeps name rows (answer_after o limits verdict (record { agreement = agreed; records = of name rows; query = query }) x)
    after-kept (Some agreement) agreed query rows (Sent message) s good =
        let edits = (reaction query limits (of name rows) agreement message).edits in record {
          stay = (good, reaction-kept keep name limits rows good query agreement message (to-octets message.octets s));
          has = sym (lens name edits rows);
        }
    after-kept other agreed query rows x s good = record { stay = good; has = refl }

    answer-kept : (progress : Progress) (rows : List Row) (x : Input) → SmallInput x → Good rows → progress.records ≡ of name rows
        → Keeps name rows (input_answer limits verdict progress x)
    answer-kept progress rows x s good e =
        subst (λ (records : List Record). Keeps name rows (input_answer limits verdict (record progress { records = records }) x)) (sym e)
        (after-kept progress.agreement progress.agreement progress.query rows x s good)

    pub answers-kept : (progress : Progress) (rows : List Row) (xs : List Input) → AllByRecursion SmallInput xs → Good rows
        → progress.records ≡ of name rows → Keeps name rows (input_answers limits verdict progress xs)
    answers-kept progress rows [] s good e = record { stay = good; has = e }
    answers-kept progress rows (x ∷ xs) s good e =
        let first = input_answer limits verdict progress x in
        let k = answer-kept progress rows x s.0 good e in
        let later = after_all (map (by name) first.changes) rows in
        keeps-then name rows first (input_answers limits verdict first.next xs) first.close refl k
        (answers-kept first.next later xs s.1 (stay-all (map (by name) first.changes) rows k.stay) k.has)

  -- ---- turns and histories

  module _ (keep : ServicesKeep Good) (lens : Edits) (institutions : List Institution) where
    piece-kept : (world : World) (c : Connection) (piece : List ℕ) (o : Option Institution) → AreOctets c.stream → AreOctets piece → Good world.rows
        → Stay (operations_by o (answer_by o institutions world c piece).changes) world.rows
    piece-kept world c piece None came brings good = good
    piece-kept world c piece (Some i) came brings good =
        let verdict = verdict_at i.associations (live_of institutions i.name world.connections) in
        (answers-kept keep lens i.name (limits_of i) verdict (progress_of c (of i.name world.rows)) world.rows (inputs_added c.stream piece)
        (added-small c.stream piece (from-octets c.stream came) (from-octets piece brings)) good refl).stay

    on_connection-kept : (world : World) (number : ℕ) (piece : List ℕ) (o : Option Connection) → connection_in number world.connections ≡ o
        → CameAsOctets world.connections → AreOctets piece → Good world.rows → Stay (piece_turn institutions world piece o).operations world.rows
    on_connection-kept world number piece None e came brings good = good
    on_connection-kept world number piece (Some c) e came brings good =
        piece-kept world c piece (owner institutions (c.stream ++ piece))
        (found-has (λ (d : Connection). AreOctets d.stream) number world.connections c e came) brings good

    end-kept : (world : World) (o : Option Connection) → Good world.rows → Stay (end_turn world o).operations world.rows
    end-kept world None good = good
    end-kept world (Some c) good = good

    pull-kept : (world : World) (o : Option Connection) → Good world.rows → Stay (pull_turn world o).operations world.rows
    pull-kept world None good = good
    pull-kept world (Some c) good = good

    order-kept : (world : World) (order : ConsoleOrder) (o : Option Institution) → HoldsOctets order → Good world.rows
        → Stay (order_turn world order o).operations world.rows
    order-kept world order None are good = good
    order-kept world order (Some i) are good = (good, ordered-kept keep i.name (limits_of i) world.rows good order are)

    pub turn-kept : (world : World) (e : Event) → CameAsOctets world.connections → BringsOctets e → Good world.rows
        → Stay (turn institutions world e).operations world.rows
    turn-kept world (event.Open number) came brings good = good
    turn-kept world (event.Piece number piece) came brings good =
        on_connection-kept world number piece (connection_in number world.connections) refl came brings good
    turn-kept world (event.End number) came brings good = end-kept world (connection_in number world.connections) good
    turn-kept world (event.Pull number) came brings good = pull-kept world (connection_in number world.connections) good
    turn-kept world (event.Schedule inst octets) came brings good = order-kept world (Scheduling octets) (institution_named institutions inst) brings good
    turn-kept world (event.Withdraw inst id) came brings good = order-kept world (Withdrawal id) (institution_named institutions inst) tt good

    -- what is kept by events
    pub record IsKept (world : World) : Type 0 where
      pub came : CameAsOctets world.connections
      pub good : Good world.rows

    pub from-kept : (world : World) (events : List Event) → BringOctets events → IsKept world → IsKept (world_from institutions world events)
    from-kept world [] brings k = k
    from-kept world (e ∷ events) brings k =
        let t = turn institutions world e in
        from-kept (world_after_turn world t) events brings.1 (record {
          came = turn-came institutions world e k.came brings.0;
          good = stay-all t.operations world.rows (turn-kept world e k.came brings.0 k.good);
        })

    pub history-kept : (rows : List Row) (events : List Event) → BringOctets events → Good rows → IsKept (world_after institutions rows events)
    history-kept rows events brings good = from-kept (first_world rows) events brings (record { came = tt; good = good })

    next-kept : (world : World) (events : List Event) → BringOctets events → IsKept world → (count : ℕ)
        → Good (after_all (take count (operations_next institutions world events)) world.rows)
    next-kept world [] brings k count = stay-taken [] world.rows k.good count
    next-kept world (e ∷ events) brings k count =
        stay-taken (turn institutions world e).operations world.rows (turn-kept world e k.came brings.0 k.good) count

    pub within-kept : (rows : List Row) (events : List Event) → BringOctets events → Good rows → (answered operations : ℕ)
        → Good (rows_within institutions rows events answered operations)
    within-kept rows events brings good answered operations =
        next-kept (world_after institutions rows (take answered events)) (drop answered events) (each-dropped BringsOctets answered events brings)
        (history-kept rows (take answered events) (each-taken BringsOctets answered events brings) good) operations

    pub run-kept : (rows : List Row) (events : List Event) (given : List Reply) (kept : List Row) → IsRun institutions rows events given kept
        → BringOctets events → Good rows → Good kept
    run-kept rows events given kept run brings good = subst Good (sym run.rows_then) (within-kept rows events brings good (length given) run.operations)
