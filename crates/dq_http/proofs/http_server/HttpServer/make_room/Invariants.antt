use Rattle.std.proofs.Common.{◌≡◌, ◌-◌, length}
use Rattle.dq_http.proofs.Room.{RoomSo}
use Rattle.dq_http.proofs.http_server.HttpServer.make_room.Given as goal

abbrev pub invariant-loop-at : goal.invariant-loop-at
invariant-loop-at g l = record {
  so : RoomSo l.initial.self.connections.items l.self.connections.items l.at;
  state : l.self.state ≡ l.initial.self.state;
  most : l.self.peer_connections ≡ l.initial.self.peer_connections;
}

abbrev pub decreases-loop-at : goal.decreases-loop-at
decreases-loop-at g l = length l.self.connections.items - l.at
