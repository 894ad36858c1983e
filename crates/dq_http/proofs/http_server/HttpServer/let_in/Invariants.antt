use Rattle.std.proofs.Common.{◌≡◌, ◌≤◌, length}
use Rattle.dq_http.specs.Places.{LetsIn}
use Rattle.dq_http.proofs.http_server.HttpServer.let_in.Given as goal

abbrev pub invariant-loop-connection : goal.invariant-loop-connection
invariant-loop-connection g l = record {
  came : LetsIn l.fn.self.peer_connections l.fn.self.state.guard.proxy l.fn.self.connections.items l.self.connections.items;
  room : length l.self.connections.items ≤ l._connection;
  state : l.self.state ≡ l.fn.self.state;
  most : l.self.peer_connections ≡ l.fn.self.peer_connections;
}
