-- The outcome for the octets that came from a connection.
use Rattle.std.specs.Prelude.{◌≡◌, ◌⊎◌, ℕ, Bool, true, false, IsTrue, List, Option, None, codes, string_bytes}
use Rattle.httpdate.specs.declared.date.HttpDate.{HttpDate}
use Rattle.dq_web.specs.declared.parsed_request.Judgement.{Judgement}
use Rattle.dq_web.specs.declared.parsed_request.Judgement.TheVariants as judgement
use Rattle.dq_web.specs.declared.parsed_request.ParsedRequest.{ParsedRequest}
use Rattle.dq_web.specs.declared.parsed_request.ParsedRequest.TheVariants as asked
use Rattle.dq_web.specs.declared.parsed_request.Question.{Question}
use Rattle.dq_web.specs.declared.cutting.Cut.{Cut}
use Rattle.dq_web.specs.declared.cutting.Cut.TheVariants as cut
use Rattle.dq_web.specs.declared.cutting.Head.{Head}
use Rattle.dq_web.specs.declared.cutting.HttpRequest.{HttpRequest}
use Rattle.dq_web.specs.declared.guard.Guard.{Guard}
use Rattle.dq_web.specs.declared.refusal.Refusal.{Refusal}
use Rattle.dq_web.specs.declared.refusal.Refusal.TheVariants as refusal
use Rattle.dq_web.specs.declared.replies.Framing.{Framing}
use Rattle.dq_web.specs.declared.resource.ResourceKind.TheVariants as kind
use Rattle.dq_web.specs.declared.replies.Written.{Written}
use Rattle.dq_web.specs.Answers.{IsWritten, refusal_reply, misspelled_reply, unreadable_reply, document_reply, preflight_reply, health_reply}
use Rattle.dq_web.specs.Guards.{viewer_of}
use Rattle.dq_web.specs.ParsedRequests.{IsAsked, IsQuestion, IsJudged, IsKindAt, label_of}
use Rattle.dq_web.specs.Requests.{IsCutOff, IsRequest, is_expecting, is_of_head}
use Rattle.dq_http.specs.declared.http_state.Answer.{Answer}
use Rattle.dq_http.specs.declared.http_state.RequestOutcome.{RequestOutcome}
use Rattle.dq_http.specs.declared.http_state.RequestOutcome.TheVariants as outcome
use Rattle.dq_http.specs.declared.http_state.Given.{Given}
use Rattle.dq_http.specs.declared.http_state.Given.TheVariants as given
use Rattle.dq_http.specs.Notes.{words_text}

-- the response to a refusal
abbrev pub IsRefusal : Refusal → Framing → Written → Type 0
IsRefusal refusal framing written = IsWritten (refusal_reply refusal) framing written

-- the response to what asks nothing of the server
abbrev pub IsOwnResponse : ParsedRequest → Framing → Written → Type 0
IsOwnResponse (asked.Refused refusal) framing written = IsRefusal refusal framing written
IsOwnResponse (asked.Misspelled word) framing written = IsWritten (misspelled_reply (string_bytes word)) framing written
IsOwnResponse (asked.Unreadable fault) framing written = IsWritten (unreadable_reply fault) framing written
IsOwnResponse (asked.Document document) framing written = IsWritten (document_reply document) framing written
IsOwnResponse asked.Health framing written = IsWritten health_reply framing written
IsOwnResponse asked.Preflight framing written = IsWritten preflight_reply framing written
IsOwnResponse (asked.Question question) framing written = ⊥

-- A request is given the response to what it asks, or the server is asked what it asks.
abbrev pub IsGiven : Guard → HttpRequest → Framing → Given → Type 0
IsGiven guard request framing (given.Response written) =
    (it : ParsedRequest) × IsAsked guard request it × IsOwnResponse it framing written
IsGiven guard request framing (given.Question question) = (it : Question)
    × IsQuestion guard request it × (question ≡ record it { framing = framing })

-- One that is refused by its head is given that refusal.
abbrev pub IsGivenAs : Judgement → Guard → HttpRequest → Framing → Given → Type 0
IsGivenAs (judgement.Refused why) guard request framing (given.Response written) = IsRefusal why framing written
IsGivenAs (judgement.Refused why) guard request framing (given.Question question) = ⊥
IsGivenAs judgement guard request framing given = IsGiven guard request framing given

-- how a response to a head is framed: pages of the viewer's origin may read it, where one of them sent the head
pub record IsFramed (guard : Guard) (head : Head) (is_last : Bool) (framing : Framing) : Type 0 where
  pub last : framing.is_last ≡ is_last
  pub content : framing.is_head ≡ is_of_head head
  pub viewer : framing.viewer ≡ viewer_of guard head.fields
  pub kind : IsKindAt head framing.kind

-- How a response is framed if no head was read, or if the request is too late: the viewer's pages cannot read it.
abbrev pub unread_framing : Option HttpDate → Framing
unread_framing date =
    record { is_last = true; is_head = false; date = date; viewer = None; kind = kind.Nowhere }

-- an answer is that of the request which stands at the front of the octets (RFC 9112), and its words in the log have the
-- label of the access token that let it in
pub record IsAnswer (guard : Guard) (came : List ℕ) (answer : Answer) : Type 0 where
  pub request : HttpRequest
  pub framing : Framing
  pub stands : IsRequest came request
  pub framed : IsFramed guard request.head request.head.is_last framing
  pub judgement : Judgement
  pub judged : IsJudged guard request.head judgement
  pub words : string_bytes answer.words ≡ words_text (label_of judgement) request.head
  pub given : IsGivenAs judgement guard request framing answer.given
  pub extent : answer.extent ≡ request.extent
  pub ends : answer.is_last ≡ request.head.is_last

abbrev pub IsRefused : Judgement → Type 0
IsRefused (judgement.Refused refusal) = Unit {0}
IsRefused judgement = ⊥

-- a head whose body has not come is let in, and its key opens what it aims at
abbrev pub IsAwaited : Guard → List ℕ → Head → Type 0
IsAwaited guard came head = IsCutOff came (cut.Begun head)
    × ((judgement : Judgement) × IsJudged guard head judgement × (IsRefused judgement → ⊥))

-- The words in the log of a request of which no more has come. Those of a head have the label of the access token that
-- lets it in; of anything else they are those of one that cannot be read.
abbrev pub IsBegunNoted : Guard → Cut → List ℕ → Type 0
IsBegunNoted guard (cut.Begun head) words = (judgement : Judgement) × IsJudged guard head judgement
    × (words ≡ words_text (label_of judgement) head)
IsBegunNoted guard other words = words ≡ codes "- - - -"

-- the response to a request that did not come in the time that it has (RFC 9110 section 15.5.9)
abbrev pub IsTooLate : Option HttpDate → Written → Type 0
IsTooLate date written = IsRefusal refusal.Time (unread_framing date) written

-- Octets are refused for a cause: no head can be read, and the response is framed as if none was; or a head is read that
-- is judged so, and frames it. The connection ends.
abbrev pub IsRefusedSo : Guard → List ℕ → Refusal → Framing → Type 0
IsRefusedSo guard came refusal framing =
    (IsCutOff came (cut.Refused refusal) × ((date : Option HttpDate) × (framing ≡ unread_framing date)))
    ⊎ ((head : Head) × IsCutOff came (cut.Begun head) × IsJudged guard head (judgement.Refused refusal)
    × IsFramed guard head true framing)

-- Nothing is done for what is no whole head, or for a head that is let in, whose body is awaited; only such a
-- sender is told to go on. A refusal ends the connection.
abbrev pub IsOutcome : Guard → List ℕ → RequestOutcome → Type 0
IsOutcome guard came outcome.AwaitHead = IsCutOff came cut.Unfinished
IsOutcome guard came outcome.AwaitBody = (head : Head) × IsAwaited guard came head
IsOutcome guard came outcome.GoOn = (head : Head) × IsAwaited guard came head × IsTrue (is_expecting head)
IsOutcome guard came (outcome.Refuse words written) = (refusal : Refusal) × (framing : Framing)
    × IsRefusedSo guard came refusal framing × IsRefusal refusal framing written
IsOutcome guard came (outcome.Answer answer) = IsAnswer guard came answer
