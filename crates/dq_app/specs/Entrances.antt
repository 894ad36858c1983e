-- What is there for clients that are no associations.
use Rattle.std.specs.Prelude.{◌≡◌, ℕ, List, Option, Some, None}
use Rattle.dq_cli.specs.CommandLine.{WebFront}
use Rattle.dq_console.specs.declared.asks.KeysError.{KeysError}
use Rattle.dq_console.specs.declared.asks.KeysError.TheVariants as keys_error
use Rattle.dq_http.specs.declared.http_server.HttpServer.{HttpServer}
use Rattle.dq_app.specs.declared.network.ListenError.{ListenError}
use Rattle.dq_app.specs.declared.network.ListenError.TheVariants as listen_error
use Rattle.dq_app.specs.Serving.{limit_of, IsProxyNamed}

-- The console is there exactly if a path was asked for.
abbrev pub IsConsoleAt : {Wired : Type 0} → Option Wired → Option (List ℕ) → Type 0
IsConsoleAt None None = Unit {0}
IsConsoleAt (Some wires) (Some path) = Unit {0}
IsConsoleAt wires path = ⊥

-- The web front is there exactly if it was asked for. It lets in requests for its host, lets pages of the viewer's
-- origin read, believes the proxy that is named, and takes so many connections of one address.
abbrev pub IsFrontFor : {Wired : Type 0} → Option (HttpServer Wired) → Option WebFront → Type 0
IsFrontFor None None = Unit {0}
IsFrontFor (Some front) (Some web) =
    (front.state.guard.host ≡ web.host) × (front.state.guard.viewer ≡ web.origin)
    × IsProxyNamed web.proxy front.state.guard.proxy × (front.peer_connections ≡ limit_of web.peer_connections)
IsFrontFor front web = ⊥

-- Why nobody can be let in, if the keys of the web front are not read.
abbrev pub listen_error_of_keys : KeysError → ListenError
listen_error_of_keys keys_error.NoFront = listen_error.Failed
listen_error_of_keys keys_error.Failed = listen_error.Keys 0
listen_error_of_keys (keys_error.Line line) = listen_error.Keys line
listen_error_of_keys keys_error.NoMemory = listen_error.NoMemory
