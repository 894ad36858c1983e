use Rattle.std.proofs.Common.{◌≡◌, [], ap}
use Rattle.dq_core.specs.ServerView.{ServerView, Refines}
use Rattle.dq_wires.specs.Servings.{Serving}
use Rattle.dq_cli.specs.CommandLine.{clients_of, serving_in}
use Rattle.dq_app.specs.declared.stop.Stop.{Stop}
use Rattle.dq_app.specs.Program.{AsFarAsHonest}
use Rattle.dq_app.specs.Serving.{turn_count, ServedUpTo}
use Rattle.dq_app.proofs.Ends.{keeps, listen_error-ends, cut-ends}
use Rattle.dq_app.proofs.Inputs.{if_error}
use Rattle.dq_app.proofs.Serviced.{service-of, service-cut, has-console, has-console-to}
use Rattle.dq_app.proofs.serving.serve_by.Goals as goal

pub returns-in-Ok-clause-served : goal.returns-in-Ok-clause-served
returns-in-Ok-clause-served g c = λ honest.
    let state = g.T.Tables.state in
    let rows = (state c.args.server.tables).rows in
    let turner = c.new-turner.result in
    let start = c.new-turner.ensures.server in
    let wires = c.console_of.new.wires in
    let log = g.N.Wired.Wires.log wires in
    let stands : Refines state rows turner.server [] = rw start c.requires.begins in
    let begun : Serving state rows log log turner.server turner.server turner.hold [] =
    rw c.new-turner.ensures.hold (c.calls_are_a_serving.ensures.begins rows log turner.server stands) in
    let same : turner.server.institutions ≡ c.args.server.institutions = ap (λ (s : ServerView g.row.T.Denot). s.institutions) start in
    let went = c.in-Ok.ensures.went in
    let clients = clients_of (serving_in c.args.service) in
    let still : (state c.serve_rounds.new.turner.server.tables).honest = rw (c.into_tables.ensures, c.into_server.ensures) at honest in
    let told = service-of state rows g.N.Wired.Wires.log g.N.Console.Wires.log wires c.serve_rounds.new.listeners.wires clients
    c.args.server.institutions went.rounds c.steps_are_a_history.ensures c.calls_are_a_serving.ensures.whole c.servings_are_answered.ensures.replies
    c.servings_are_answered.ensures.rows begun still same c.of-pace.ensures (rw c.console_of.ensures.same c.in_ok-wires.ensures.uncalled) went.counted
    (has-console state g.N.Console.Wires.log c.args.server.institutions rows log turner begun same _ still clients c.in_ok-console.console
    c.serve_rounds.new.listeners.console went.rounds (rw c.institutions.ensures at c.in_ok-console.ensures.begins) went.so) went.went in
    rw (c.into_tables.ensures, c.into_server.ensures) (rw start at told.0, told.1)

pub returns-in_err-wires-clause-ends : goal.returns-in_err-wires-clause-ends
returns-in_err-wires-clause-ends g c =
    let IsSo : Stop → Type 0 = λ (why : Stop). AsFarAsHonest g.T.Tables.state ((g.T.Tables.state c.args.server.tables).honest
    × ServedUpTo g.N.Wired.Wires.log g.N.Console.Wires.log (g.N.Network.may_break c.args.network.now)
    c.args.server.institutions (g.T.Tables.state c.args.server.tables).rows (turn_count c.args.service.turns) (clients_of (serving_in c.args.service)) why) in
    if_error _ c.from_residual.result _ c.from_residual.ensures.1
    (listen_error-ends _ (g.W.Sink.may_fail c.args.output.now) _ _ c.args.service.port IsSo _ (keeps _) c.in_err-wires.ensures.stops)

pub returns-in_err-console-clause-ends : goal.returns-in_err-console-clause-ends
returns-in_err-console-clause-ends g c =
    let IsSo : Stop → Type 0 = λ (why : Stop). AsFarAsHonest g.T.Tables.state ((g.T.Tables.state c.args.server.tables).honest
    × ServedUpTo g.N.Wired.Wires.log g.N.Console.Wires.log (g.N.Network.may_break c.args.network.now)
    c.args.server.institutions (g.T.Tables.state c.args.server.tables).rows (turn_count c.args.service.turns) (clients_of (serving_in c.args.service)) why) in
    if_error _ c.from_residual-in_err-console.result _ c.from_residual-in_err-console.ensures.1
    (listen_error-ends _ (g.W.Sink.may_fail c.args.output.now) _ _ c.args.service.port IsSo _ (keeps _) c.in_err-console.ensures.stops)

pub returns-clause-ends : goal.returns-clause-ends
returns-clause-ends g c =
    let state = g.T.Tables.state in
    let rows = (state c.args.server.tables).rows in
    let clients = clients_of (serving_in c.args.service) in
    let IsSo : Stop → Type 0 = λ (why : Stop). AsFarAsHonest state ((state c.args.server.tables).honest
    × ServedUpTo g.N.Wired.Wires.log g.N.Console.Wires.log (g.N.Network.may_break c.args.network.now)
    c.args.server.institutions rows (turn_count c.args.service.turns) clients why) in
    let turner = c.new-turner.result in
    let start = c.new-turner.ensures.server in
    let wires = c.console_of.new.wires in
    let log = g.N.Wired.Wires.log wires in
    let stands : Refines state rows turner.server [] = rw start c.requires.begins in
    let begun : Serving state rows log log turner.server turner.server turner.hold [] =
    rw c.new-turner.ensures.hold (c.calls_are_a_serving.ensures.begins rows log turner.server stands) in
    let same : turner.server.institutions ≡ c.args.server.institutions = ap (λ (s : ServerView g.row.T.Denot). s.institutions) start in
    let off = c.in-Err.ensures.cut in
    cut-ends _ (g.W.Sink.may_fail c.args.output.now) _ _ c.args.service.port IsSo _ _ c.in_ok-put_ready.ensures.ready off.causes
    (rw start at (service-cut state rows g.N.Wired.Wires.log g.N.Console.Wires.log wires c.serve_rounds.new.listeners.wires clients
    c.args.server.institutions c.steps_are_a_history.ensures c.servings_are_answered.ensures.replies begun same c.of-pace.ensures
    (rw c.console_of.ensures.same c.in_ok-wires.ensures.uncalled) off
    (λ honest. has-console-to state g.N.Console.Wires.log c.args.server.institutions rows log turner begun same _ honest clients c.in_ok-console.console
    c.serve_rounds.new.listeners.console off.rounds off.halt (rw c.institutions.ensures at c.in_ok-console.ensures.begins) off.so)))
