-- The effect of a response on a web front, if there is one, of letting go who asks it, and of reading its keys anew.
use Rattle.std.specs.Prelude.{◌≡◌, ◌≢◌, ℕ, List, Option, Some, None, IfSome, Result, Ok, Err}
use Rattle.dq_console.specs.declared.asks.KeysError.{KeysError}
use Rattle.dq_console.specs.declared.asks.KeysError.TheVariants as keys_error
use Rattle.dq_request.specs.declared.response.Response.{Response}
use Rattle.dq_http.specs.declared.http_server.HttpServer.{HttpServer}
use Rattle.dq_http.specs.RequestQueue.{Answered, LetsGo, with_keys}
use Rattle.dq_web.specs.declared.keys.Keys.{Keys}
use Rattle.dq_web.specs.KeyFiles.{key_lines, AreSpelled}

abbrev pub IsAnswered : {Wired : Type 0} → Option (HttpServer Wired) → Option (HttpServer Wired) → Response → Type 0
IsAnswered (Some old) (Some new) response = Answered old new response
IsAnswered None None response = Unit {0}
IsAnswered old new response = ⊥

-- Who asked is let go. Sockets do not tell their calls.
abbrev pub IsLetGo : {Wired : Type 0} → Option (HttpServer Wired) → Option (HttpServer Wired) → Type 0
IsLetGo (Some old) (Some new) = LetsGo None None old new
IsLetGo None None = Unit {0}
IsLetGo old new = ⊥

-- The keys of a web front are now exactly those that the file spells, if its octets are known, and nothing else changed.
-- At an error nothing did.
abbrev pub Rereads : {Wired : Type 0} → Option (List ℕ) → HttpServer Wired → HttpServer Wired → Result (Unit {0}) KeysError → Type 0
Rereads held old new (Ok read) = (keys : Keys) × IfSome held (λ octets. AreSpelled (key_lines octets) keys.entries)
    × (new ≡ with_keys keys old)
Rereads held old new (Err why) = (new ≡ old) × (why ≢ keys_error.NoFront)

-- The keys of the front are read anew, from a file of which nothing is known. Without a front, that is the error.
abbrev pub AreReread : {Wired : Type 0} → Option (HttpServer Wired) → Option (HttpServer Wired) → Result (Unit {0}) KeysError → Type 0
AreReread (Some old) (Some new) outcome = Rereads None old new outcome
AreReread None None outcome = outcome ≡ Err keys_error.NoFront
AreReread old new outcome = ⊥
