use Rattle.std.proofs.Common.{◌≡◌, ◌∙◌, Some, ap, sym, refl}
use Rattle.std.proofs.lemmas.List.Quantifiers.{position-Some}
use Rattle.std.proofs.lemmas.Option.{slice_get-get_or}
use Rattle.dq_http.specs.HttpConnections.{is_waiting}
use Rattle.dq_http.specs.RequestQueue.{first_waiting}
use Rattle.dq_http.proofs.http_server.HttpServer.try_let_go.Goals as goal

pub returns : goal.returns
returns g c =
    let connections = c.args.self.now.connections.items in
    let at : first_waiting connections ≡ Some c.in-Some.at = sym c.first_waiting.ensures ∙ c.in-Some.is in
    let within = position-Some is_waiting connections c.in-Some.at c.remove-connection.result at in
    let found = slice_get-get_or connections c.in-Some.at c.remove-connection.result within.0
    ∙ ap Some (sym c.remove-connection.ensures.value) in
    (rw at (c.remove-connection.result, c.shut.result, found, c.remove-connection.ensures.items, c.shut.ensures.told, c.tell.ensures.line), refl, refl)
