-- The connections that a log watches.
use Rattle.std.specs.Prelude.{◌==◌, ℕ, true, false, not, if◌then◌else◌, List, map, filter, Option, None}
use Rattle.std.specs.declared.net.socket_addr.SocketAddr.{SocketAddr}
use Rattle.dq_wires.specs.declared.watched.Watched.{Watched}

-- one that has just come
abbrev pub newly_watched : ℕ → ℕ → Option SocketAddr → Watched
newly_watched place number peer =
    record { place = place; number = number; peer = peer; opened = None; is_shut = false }

-- shut, if it is at the place
abbrev pub shut_at : ℕ → Watched → Watched
shut_at place watched =
    if watched.place == place then record watched { is_shut = true } else watched

-- connections, but for what is said of their associations
abbrev pub without_associations : List Watched → List Watched
without_associations watched = map (λ (w : Watched). record w { opened = None }) watched

-- those that are not shut
abbrev pub without_shut : List Watched → List Watched
without_shut watched = filter (λ (w : Watched). not w.is_shut) watched
