use Rattle.std.proofs.Common.{◌≡◌, ◌∙◌, Some, Ok, ap, sym, refl}
use Rattle.std.proofs.lemmas.Option.{slice_get-get_or}
use Rattle.dq_http.specs.RequestQueue.{first_waiting}
use Rattle.dq_http.proofs.http_server.HttpServer.answer.Goals as goal

pub returns-in_default : goal.returns-in_default
returns-in_default g c = (Ok tt, rw (sym c.first_waiting.ensures ∙ c.in_default.is) refl, refl, refl, refl)

pub returns-in-Some-get_mut : goal.returns-in-Some-get_mut
returns-in-Some-get_mut g c =
    let at : first_waiting c.args.self.now.connections.items ≡ Some c.in-Some.at =
    sym c.first_waiting.ensures ∙ c.in-Some.is in
    let found = slice_get-get_or c.args.self.now.connections.items c.in-Some.at c.in-Some-get_mut.connection.now
    c.in-Some-get_mut.ensures.item.3.0 ∙ ap Some (sym c.in-Some-get_mut.ensures.value) in
    (c.answer.result, rw at (c.in-Some-get_mut.connection.now, c.answer.new.self, found, c.answer.ensures, c.rotate_left.ensures.items), refl, refl, refl)
