use Rattle.dq_http.proofs.http_server.HttpServer.let_go.Goals as goal

pub returns : goal.returns
returns g c = (c.try_let_go.result, c.try_let_go.ensures)
