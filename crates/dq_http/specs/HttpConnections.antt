-- The reads and writes of a connection of the web front.
use Rattle.std.specs.Prelude.{◌≡◌, ◌⊎◌, ◌++◌, ◌&&◌, ℕ, ◌<◌, ◌/◌, ◌-◌, nat_le, Bool, true, false, not, is_some, IsTrue, IfSome, OnOk, if◌then◌else◌, List, [], length, drop, string_bytes, Option, Some, None, Result}
use Rattle.std.specs.Borrow.{Bor}
use Rattle.std.specs.Time.{instant_nanos}
use Rattle.std.specs.declared.alloc.AllocError.{AllocError}
use Rattle.std.specs.declared.net.ip_addr.IpAddr.{IpAddr}
use Rattle.std.specs.declared.net.socket_addr.SocketAddr.{SocketAddr}
use Rattle.std.specs.declared.time.Instant.{Instant}
use Rattle.httpdate.specs.declared.date.HttpDate.{HttpDate}
use Rattle.dq_config.specs.declared.config.Institution.{Institution}
use Rattle.dq_list.specs.Lengths.{is_empty}
use Rattle.dq_request.specs.declared.request.Request.{Request}
use Rattle.dq_request.specs.declared.request.Request.TheVariants as request
use Rattle.dq_request.specs.declared.response.Response.{Response}
use Rattle.dq_web.specs.declared.guard.Guard.{Guard}
use Rattle.dq_web.specs.declared.replies.Written.{Written}
use Rattle.dq_web.specs.declared.status.Status.{Status}
use Rattle.dq_web.specs.Answers.{IsReplyTo, IsResponse}
use Rattle.dq_web.specs.Guards.{IsProxy}
use Rattle.dq_wires.specs.Logs.{Logs}
use Rattle.dq_wires.specs.declared.calls.Call.{Call}
use Rattle.dq_wires.specs.declared.calls.Call.TheVariants as call
use Rattle.dq_wires.specs.declared.calls.WireFault.{WireFault}
use Rattle.dq_http.specs.declared.http_state.Answer.{Answer}
use Rattle.dq_http.specs.declared.http_state.RequestOutcome.{RequestOutcome}
use Rattle.dq_http.specs.declared.http_state.RequestOutcome.TheVariants as outcome
use Rattle.dq_http.specs.declared.http_state.Given.{Given}
use Rattle.dq_http.specs.declared.http_state.Given.TheVariants as given
use Rattle.dq_http.specs.declared.http_connection.TheConstants.{CONTINUE}
use Rattle.dq_http.specs.declared.http_connection.Stage.{Stage}
use Rattle.dq_http.specs.declared.http_connection.Stage.TheVariants as stage
use Rattle.dq_http.specs.declared.http_connection.HttpConnection.{HttpConnection}
use Rattle.dq_http.specs.declared.request_log.Notes.{Notes}
use Rattle.dq_http.specs.Notes.{direct_sender, HasNote}
use Rattle.dq_http.specs.RequestOutcomes.{IsOutcome, IsTooLate}

-- one that has just come from a peer, and of which nothing is read
pub record IsNew (place : ℕ) (peer : Option SocketAddr) (connection : HttpConnection) : Type 0 where
  pub at : connection.place ≡ place
  pub from : connection.peer ≡ direct_sender peer
  pub came : connection.came.items ≡ []
  pub stage : connection.stage ≡ stage.Reading
  pub last : connection.is_last ≡ false
  pub fresh : connection.is_fresh ≡ false
  pub continued : connection.is_continued ≡ false
  pub awaits : connection.awaits_body ≡ false

-- ---- what it asks

abbrev pub asked_in : Stage → Option Request
asked_in (stage.Waiting question) = Some question.asked
asked_in other = None

abbrev pub is_waiting : HttpConnection → Bool
is_waiting connection = is_some (asked_in connection.stage)

abbrev pub is_report : Option Request → Bool
is_report (Some request.Report) = true
is_report other = false

abbrev pub asks_report : HttpConnection → Bool
asks_report connection = is_report (asked_in connection.stage)

-- there is something to do that no octet has to come for
abbrev pub is_busy_in : Stage → Bool → Bool
is_busy_in stage.Reading is_fresh = is_fresh
is_busy_in (stage.Waiting question) is_fresh = true
is_busy_in (stage.Writing response written) is_fresh = false
is_busy_in stage.Over is_fresh = true

abbrev pub is_busy : HttpConnection → Bool
is_busy connection = is_busy_in connection.stage connection.is_fresh

-- ---- what is written

-- a response is written from its first octet on
abbrev pub with_response : HttpConnection → List ℕ → HttpConnection
with_response connection octets = record connection { stage = stage.Writing octets 0 }

-- a connection's request has one note more in the log, with this outcome
abbrev pub IsNoted : HttpConnection → Notes → Notes → Option Status → Type 0
IsNoted connection old new status =
    HasNote connection.peer (string_bytes connection.words) status (string_bytes old.lines) (string_bytes new.lines)

-- So it has, but where there is no memory for a response, there may be none for the note either, as is then reported.
abbrev pub IsNotedOr : Result (Unit {0}) AllocError → HttpConnection → Notes → Notes → Option Status → Type 0
IsNotedOr reported connection old new (Some status) = IsNoted connection old new (Some status)
IsNotedOr reported connection old new None = OnOk reported (IsNoted connection old new None)

-- The server's response to a question is written as HTTP has it, and its status is noted. Where there is no memory for
-- that, nothing is written, nothing more is read, and that is noted.
abbrev pub AnswersAt : List Institution → Stage → Response → (Option Status → Type 0) → HttpConnection → HttpConnection → Type 0
AnswersAt institutions (stage.Waiting question) response Noted old new =
    ((written : Written) × IsResponse (IsReplyTo question response institutions) question.framing written
    × (new ≡ with_response old written.octets.items) × Noted (Some written.status))
    ⊎ ((new ≡ record old { stage = stage.Over }) × Noted None)
AnswersAt institutions other response Noted old new = new ≡ old

-- what is left of a response that is written
abbrev pub IsRest : Stage → Option (Bor (List ℕ)) → Type 0
IsRest (stage.Writing response written) (Some rest) = rest.now ≡ drop written response
IsRest (stage.Writing response written) None = length response < written
IsRest other (Some rest) = ⊥
IsRest other None = Unit {0}

-- what is left of a response is written at this place, and nothing else is called
abbrev pub WritesRest : ℕ → Stage → Option (List Call) → Option (List Call) → Type 0
WritesRest place (stage.Writing response written) before after =
    ((sent : Result ℕ WireFault) × Logs before after (call.Write place (drop written response) sent))
    ⊎ ((length response < written) × (after ≡ before))
WritesRest place other before after = after ≡ before

-- After octets of a response it is still written; or it is whole, and the next request is read. Behind the last
-- response nothing is read (RFC 9112 section 9.6).
abbrev pub IsAfterWrite : Stage → Bool → Stage → Type 0
IsAfterWrite (stage.Writing response written) is_last (stage.Writing same more) = same ≡ response
IsAfterWrite (stage.Writing response written) is_last stage.Reading = is_last ≡ false
IsAfterWrite (stage.Writing response written) is_last stage.Over = is_last ≡ true
IsAfterWrite (stage.Writing response written) is_last other = ⊥
IsAfterWrite before is_last after = after ≡ before

-- octets of its response were written, and nothing else changed
abbrev pub IsSent : HttpConnection → HttpConnection → Type 0
IsSent old new = IsAfterWrite old.stage old.is_last new.stage
    × (new ≡ record old { stage = new.stage })

-- ---- what is read

-- nothing more is read nor written
abbrev pub IsOver : Stage → Type 0
IsOver stage.Over = Unit {0}
IsOver other = ⊥

-- octets came behind those that had come, and nothing else changed
abbrev pub IsRead : HttpConnection → HttpConnection → Type 0
IsRead old new = ((more : List ℕ) × (new.came.items ≡ old.came.items ++ more))
    × (new ≡ record old { came = new.came; is_fresh = new.is_fresh })

-- A request of this extent is taken off what came. No other is waited for until an octet of it has come.
abbrev pub IsTakenOff : ℕ → HttpConnection → HttpConnection → Type 0
IsTakenOff extent old new = (new.came.items ≡ drop extent old.came.items)
    × (new ≡ record old {
      came = new.came;
      is_fresh = not (is_empty new.came.items);
      is_continued = false;
      awaits_body = false;
      since = None;
    })

-- what was looked at
abbrev pub seen : HttpConnection → HttpConnection
seen connection = record connection { is_fresh = false }

-- a response is written, or a question waits
abbrev pub stage_of : Given → Stage
stage_of (given.Response written) = stage.Writing written.octets.items 0
stage_of (given.Question question) = stage.Waiting question

-- the body of its request is waited for, from now on or since before
abbrev pub awaiting_body : Option Instant → HttpConnection → HttpConnection
awaiting_body now connection = if connection.awaits_body then connection
    else record connection { awaits_body = true; since = now }

-- its client is told to go on with the body, once
abbrev pub going_on : HttpConnection → HttpConnection
going_on connection = if connection.is_continued then connection
    else record (with_response connection CONTINUE.now) { is_continued = true }

-- the answer to the request at the front of what came is given, and its octets are taken off
abbrev pub TakesAnswer : Answer → HttpConnection → HttpConnection → Type 0
TakesAnswer answer old new = (mid : HttpConnection) × IsTakenOff answer.extent old mid
    × (new ≡ record mid { stage = stage_of answer.given; is_last = answer.is_last; words = answer.words; begun = new.begun })

-- what a connection becomes by what is done for the octets that came of it
abbrev pub Takes : Option Instant → RequestOutcome → HttpConnection → HttpConnection → Type 0
Takes now outcome.AwaitHead old new = new ≡ seen old
Takes now outcome.AwaitBody old new = new ≡ awaiting_body now (seen old)
Takes now outcome.GoOn old new = new ≡ going_on (awaiting_body now (seen old))
Takes now (outcome.Refuse words written) old new =
    new ≡ record (with_response (seen old) written.octets.items) { is_last = true }
Takes now (outcome.Answer answer) old new = TakesAnswer answer old new

abbrev pub is_reading : Stage → Bool
is_reading stage.Reading = true
is_reading other = false

abbrev pub is_to_take : HttpConnection → Bool
is_to_take connection = connection.is_fresh && is_reading connection.stage

-- what is to be done for the octets that came is done
abbrev pub TakesFront : Guard → Option Instant → HttpConnection → HttpConnection → Type 0
TakesFront guard now old new =
    (outcome : RequestOutcome) × IsOutcome guard old.came.items outcome × Takes now outcome old new

-- The address from which a request came is read off it, and nothing else changes. Only a proxy is believed.
abbrev pub IsSender : Option IpAddr → HttpConnection → HttpConnection → Type 0
IsSender proxy old new = IfSome new.peer.forwarded (λ _. IsProxy proxy old.peer.address)
    × (new ≡ record old { peer = record old.peer { forwarded = new.peer.forwarded } })

-- where a request is read, and something came that was not looked at, what is to be done for it is done
abbrev pub TakesUp : Guard → Option Instant → HttpConnection → HttpConnection → Type 0
TakesUp guard now old new = ((is_to_take old ≡ false) × (new ≡ old))
    ⊎ (IsTrue (is_to_take old) × ((mid : HttpConnection) × IsSender guard.proxy old mid × TakesFront guard now mid new))

-- ---- the time that a request has

-- its first octets have come
abbrev pub begun_wait : Option Instant → HttpConnection → HttpConnection
begun_wait now connection =
    if not (is_some connection.since) && not (is_empty connection.came.items) then record connection { since = now }
    else connection

-- how many seconds a head has to come, and then its body
abbrev pub seconds_for : Bool → ℕ
seconds_for false = 15
seconds_for true = 60

-- so many whole seconds have passed since an instant
abbrev pub is_past : Option Instant → Option Instant → ℕ → Bool
is_past (Some now) (Some since) seconds =
    nat_le seconds ((instant_nanos now - instant_nanos since) / 1_000_000_000)
is_past now since seconds = false

-- what a connection waits for did not come in that time, nor has anything just come that was not looked at
abbrev pub is_late : Option Instant → HttpConnection → Bool
is_late now connection = is_past now connection.since (seconds_for connection.awaits_body)
    && is_reading connection.stage && not connection.is_fresh

-- it is told so, and nothing comes after that
abbrev pub IsRefusedLate : Option IpAddr → HttpConnection → HttpConnection → Type 0
IsRefusedLate proxy old new = (mid : HttpConnection) × IsSender proxy old mid
    × ((date : Option HttpDate) × (written : Written) × IsTooLate date written
    × (new ≡ record (with_response (seen mid) written.octets.items) { is_last = true }))

-- what came is taken up, unless it is late
abbrev pub TakesOrRefuses : Guard → Option Instant → HttpConnection → HttpConnection → Type 0
TakesOrRefuses guard now old new = (IsTrue (is_late now old) × IsRefusedLate guard.proxy old new)
    ⊎ ((is_late now old ≡ false) × TakesUp guard now old new)

-- ---- its turn

-- a response is written, or what comes is read; what waits is as it was, and nothing is over
abbrev pub Moves : Stage → HttpConnection → HttpConnection → Type 0
Moves stage.Reading old new = IsRead old new
Moves (stage.Waiting question) old new = new ≡ old
Moves (stage.Writing response written) old new = IsSent old new × (IsOver new.stage → ⊥)
Moves stage.Over old new = ⊥

-- then what came is taken up, or refused where it is late
abbrev pub Turns : Guard → Option Instant → HttpConnection → HttpConnection → Type 0
Turns guard now old new = (mid : HttpConnection) × Moves old.stage old mid
    × TakesOrRefuses guard now (begun_wait now mid) new

-- that at some instant
abbrev pub HasTurn : Guard → HttpConnection → HttpConnection → Type 0
HasTurn guard old new = (now : Option Instant) × Turns guard now old new
