-- How many connections there may be, who is let in, and who gives way to others.
use Rattle.std.specs.Prelude.{◌≡◌, ◌⊎◌, ◌≤◌, ◌<◌, ◌-◌, ◌&&◌, ℕ, zero, suc, nat_le, Bool, false, not, is_some, if◌then◌else◌, List, [], ◌∷◌, ◌++◌, length, Option, Some, None}
use Rattle.std.specs.List.{filter, list_any}
use Rattle.std.specs.Net.Socket.{socket_ip}
use Rattle.std.specs.declared.net.ip_addr.IpAddr.{IpAddr}
use Rattle.std.specs.declared.net.socket_addr.SocketAddr.{SocketAddr}
use Rattle.dq_list.specs.Lengths.{is_empty}
use Rattle.dq_http.specs.declared.http_connection.HttpConnection.{HttpConnection}
use Rattle.dq_http.specs.HttpConnections.{IsNew, is_reading}
use Rattle.dq_http.specs.Notes.{has_address}

-- the most connections at a time
abbrev pub most_connections : ℕ
most_connections = 64

-- As many may be idle. The other eight places are for those whose request is still to come.
abbrev pub most_idle : ℕ
most_idle = 56

-- ---- who is let in

-- its peer has this address
abbrev pub is_of : IpAddr → HttpConnection → Bool
is_of address connection = has_address connection.peer.address address

abbrev pub is_proxy : Option IpAddr → Option SocketAddr → Bool
is_proxy None peer = false
is_proxy (Some proxy) peer = has_address peer proxy

-- There are as many connections of a peer's address as may be. Of the proxy's there may be any number.
abbrev pub is_crowded : Option ℕ → Option IpAddr → List HttpConnection → Option SocketAddr → Bool
is_crowded None proxy held peer = false
is_crowded (Some most) proxy held None = false
is_crowded (Some most) proxy held (Some peer) =
    not (is_proxy proxy (Some peer)) && nat_le most (length (filter (is_of (socket_ip peer)) held))

-- one that has just come, whose address is not crowded
abbrev pub MayCome : Option ℕ → Option IpAddr → List HttpConnection → HttpConnection → Type 0
MayCome most proxy held connection = (place : ℕ) × (peer : Option SocketAddr) × IsNew place peer connection
    × (is_crowded most proxy held peer ≡ false)

-- One after the other comes, as long as there is a place.
abbrev pub MayAllCome : Option ℕ → Option IpAddr → List HttpConnection → List HttpConnection → Type 0
MayAllCome most proxy held [] = Unit {0}
MayAllCome most proxy held (connection ∷ others) = (length held < most_connections)
    × MayCome most proxy held connection × MayAllCome most proxy (held ++ connection ∷ []) others

-- They are let in behind the others.
abbrev pub LetsIn : Option ℕ → Option IpAddr → List HttpConnection → List HttpConnection → Type 0
LetsIn most proxy old new =
    (came : List HttpConnection) × MayAllCome most proxy old came × (new ≡ old ++ came)

-- or one, or none
abbrev pub LetsOneIn : Option ℕ → Option IpAddr → List HttpConnection → List HttpConnection → Type 0
LetsOneIn most proxy old new = (new ≡ old)
    ⊎ ((connection : HttpConnection) × MayCome most proxy old connection × (new ≡ old ++ connection ∷ []))

-- ---- who gives way

-- Its last request was answered, and nothing of the next one has come. A server may close it at any time (RFC 9112
-- sections 9.3 and 9.5).
abbrev pub is_idle : HttpConnection → Bool
is_idle connection =
    is_reading connection.stage && (is_empty connection.came.items && not (is_some connection.since))

-- So many idle ones are let go, in their order, and nobody else.
abbrev pub without_idle : ℕ → List HttpConnection → List HttpConnection
without_idle zero connections = connections
without_idle (suc count) [] = []
without_idle (suc count) (connection ∷ others) =
    if is_idle connection then without_idle count others else connection ∷ without_idle (suc count) others

-- Idle ones are let go while there are more connections than may be idle.
abbrev pub with_room : List HttpConnection → List HttpConnection
with_room connections = without_idle (length connections - most_idle) connections

-- There is a place for another head, unless nobody is idle.
abbrev pub LeavesRoom : List HttpConnection → Type 0
LeavesRoom connections = (length connections ≤ most_idle) ⊎ (list_any is_idle connections ≡ false)
