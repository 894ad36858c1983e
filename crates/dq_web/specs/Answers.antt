-- How what the server answered becomes a response of HTTP.
use Rattle.std.specs.Prelude.{◌≡◌, ℕ, ◌==◌, ◌++◌, ◌||◌, ◌&&◌, nat_le, nat_lt, ◌+◌, ◌-◌, Bool, false, if◌then◌else◌, List, [], ◌∷◌, flat_map, find, length, drop, codes, Option, Some}
use Rattle.std.specs.Fmt.{decimal}
use Rattle.std.specs.Str.{bytes_eq}
use Rattle.json.specs.Print.{print}
use Rattle.dq_config.specs.declared.config.Institution.{Institution}
use Rattle.dq_dataset.specs.Tree.{ElementList}
use Rattle.dq_json.specs.declared.json_fault.JsonFault.{JsonFault}
use Rattle.dq_json.specs.Faults.{fault_text}
use Rattle.dq_json.specs.Json.{json_tokens}
use Rattle.dq_match.specs.declared.shown_page.ShownPage.{ShownPage}
use Rattle.dq_match.specs.ShownPages.{shown_page, is_filled}
use Rattle.dq_request.specs.declared.request.Request.{Request}
use Rattle.dq_request.specs.declared.request.Request.TheVariants as ask
use Rattle.dq_request.specs.declared.response.Cause.{Cause}
use Rattle.dq_request.specs.declared.response.Cause.TheVariants as cause
use Rattle.dq_request.specs.declared.response.Counted.{Counted}
use Rattle.dq_request.specs.declared.response.Counts.{Counts}
use Rattle.dq_request.specs.declared.response.Response.{Response}
use Rattle.dq_request.specs.declared.response.Response.TheVariants as told
use Rattle.dq_request.specs.declared.response.BackupError.{BackupError}
use Rattle.dq_request.specs.declared.response.BackupError.TheVariants as backup_error
use Rattle.dq_request.specs.Responses.{cause_text}
use Rattle.dq_web.specs.declared.parsed_request.Document.{Document}
use Rattle.dq_web.specs.declared.parsed_request.Document.TheVariants as document
use Rattle.dq_web.specs.declared.parsed_request.Question.{Question}
use Rattle.dq_web.specs.declared.parsed_request.Wish.{Wish}
use Rattle.dq_web.specs.declared.responses.TheConstants.{STUDIES, SERIES, IMAGES, ENTRIES, STEPS, LIMIT, CLOSE}
use Rattle.dq_web.specs.declared.page.index.TheConstants.{INDEX}
use Rattle.dq_web.specs.declared.page.script.TheConstants.{SCRIPT}
use Rattle.dq_web.specs.declared.page.style.TheConstants.{STYLE}
use Rattle.dq_web.specs.declared.refusal.Refusal.{Refusal}
use Rattle.dq_web.specs.declared.replies.Framing.{Framing}
use Rattle.dq_web.specs.declared.replies.Kind.{Kind}
use Rattle.dq_web.specs.declared.replies.Kind.TheVariants as kind
use Rattle.dq_web.specs.declared.replies.Reply.{Reply}
use Rattle.dq_web.specs.declared.replies.Written.{Written}
use Rattle.dq_web.specs.declared.status.Status.{Status}
use Rattle.dq_web.specs.declared.status.Status.TheVariants as status
use Rattle.dq_web.specs.Responses.{refusal_status, refusal_word, response_text}

-- a response with a body
abbrev pub plain : Status → Kind → List ℕ → Reply
plain status what body = record { status = status; kind = what; body = body; is_literal = false; has_unknown = false; is_full = false }

-- ---- refusals

-- An octet in a text of JSON (RFC 8259 section 7). What is not printable ASCII becomes a question mark.
abbrev pub escaped_octet : ℕ → List ℕ
escaped_octet octet = (if octet == 34 || octet == 92 then codes "\\" else [])
    ++ (if nat_le 0x20 octet && nat_le octet 0x7E then octet else 63) ∷ []

abbrev pub escaped_text : List ℕ → List ℕ
escaped_text text = flat_map escaped_octet text

-- a refusal says why by a word
abbrev pub refused_reply : Status → List ℕ → Reply
refused_reply status word =
    plain status kind.Json (codes "{\"refused\":\"" ++ escaped_text word ++ codes "\"}")

-- a word that no search takes
abbrev pub misspelled_reply : List ℕ → Reply
misspelled_reply word = refused_reply status.BadRequest (codes "keyword " ++ word)

-- a body that is not DICOM JSON, and where (RFC 9110 section 15.5.1)
abbrev pub unreadable_reply : JsonFault → Reply
unreadable_reply fault = refused_reply status.BadRequest (fault_text fault)

-- what the server answers to no such request
abbrev pub server_reply : Reply
server_reply = refused_reply status.ServerError (codes "server")

-- The status of an order's refusal: it is bad (RFC 9110 section 15.5.1), its row is there (section 15.5.10), there is
-- no room (RFC 4918 section 11.5), or there is no such row or institution (RFC 9110 section 15.5.5).
abbrev pub order_status : ℕ → Status
order_status number = if number == 1 || number == 2 then status.BadRequest
    else if number == 3 then status.Conflict
    else if number == 4 then status.Full
    else if number == 5 || number == 6 then status.NotFound
    else status.ServerError

-- the status of a search that is refused: it finds too much, or its keys are bad (PS3.4 section C.4.1.1.4)
abbrev pub search_status : ℕ → Status
search_status number = if number == 0xA700 then status.TooLarge else status.BadRequest

-- the status of a copy that is refused
abbrev pub copy_status : BackupError → Status
copy_status backup_error.Taken = status.Conflict
copy_status backup_error.NoStore = status.Conflict
copy_status backup_error.Full = status.Full
copy_status backup_error.NoMemory = status.Unavailable
copy_status backup_error.Failed = status.ServerError

abbrev pub cause_status : Cause → Status
cause_status (cause.Order number) = order_status number
cause_status (cause.Search number) = search_status number
cause_status cause.Institution = status.NotFound
cause_status (cause.Copy refusal) = copy_status refusal

abbrev pub cause_reply : Cause → Reply
cause_reply why = refused_reply (cause_status why) (cause_text why)

-- ---- searches

abbrev pub json_text : ElementList → List ℕ
json_text answer = print (json_tokens answer)

abbrev pub behind_comma : ElementList → List ℕ
behind_comma answer = 44 ∷ json_text answer

-- the array of the answers, in their order (PS3.18 section F.2.1)
abbrev pub array_text : List ElementList → List ℕ
array_text [] = codes "[]"
array_text (answer ∷ answers) = codes "[" ++ json_text answer ++ flat_map behind_comma answers ++ codes "]"

-- the most octets of a page's array, unless its first answer alone is longer: 8 MiB
abbrev pub longest_array : ℕ
longest_array = 0x800000

-- The answers that have room, each behind a comma, up to the first that has none.
abbrev pub fitting : ℕ → List ElementList → List ElementList
fitting room [] = []
fitting room (answer ∷ answers) = if nat_le (length (behind_comma answer)) room
    then answer ∷ fitting (room - length (behind_comma answer)) answers else []

-- A page shows the first answer, and those behind it that have room between the brackets of its array.
abbrev pub shown_answers : List ElementList → List ElementList
shown_answers [] = []
shown_answers (answer ∷ answers) = answer ∷ fitting (longest_array - (length (json_text answer) + 2)) answers

-- A response shows a front of the rows behind its offset, and the next offset goes on with the first that it leaves out.
abbrev pub GoesOn : ShownPage → List ElementList → Type 0
GoesOn page rows =
    let shown = shown_answers (shown_page page rows) in
    shown ++ drop (page.offset + length shown) rows ≡ drop page.offset rows

-- A response is full where it shows fewer answers than were found, or these fill the page: there may be more behind it.
abbrev pub is_full : ShownPage → List ElementList → ℕ → Bool
is_full page found shown = nat_lt shown (length found) || is_filled page found

-- a response to a search, which says where matching was to be fuzzy and was not, where a parameter was passed over, and
-- where there may be more answers
abbrev pub search_reply : Wish → Status → List ℕ → Bool → Reply
search_reply wish status body full = record {
  status = status;
  kind = kind.DicomJson;
  body = body;
  is_literal = wish.is_fuzzy;
  has_unknown = wish.has_unknown;
  is_full = full;
}

-- the response to a search that found nothing: it is without content, or an empty array if that is wanted (PS3.18
-- section 10.6.3)
abbrev pub empty_reply : Wish → Reply
empty_reply wish = if wish.wants_array then search_reply wish status.Done (codes "[]") false
    else search_reply wish status.NoContent [] false

-- The response to a search: the array of the answers that the page shows. The next offset goes on behind them.
abbrev pub found_reply : Wish → ShownPage → List ElementList → Reply
found_reply wish page [] = empty_reply wish
found_reply wish page (answer ∷ answers) =
    let shown = shown_answers (answer ∷ answers) in
    search_reply wish status.Done (array_text shown) (is_full page (answer ∷ answers) (length shown))

-- ---- counts

abbrev pub limit_text : ℕ → List ℕ
limit_text limit = LIMIT.now ++ decimal limit

abbrev pub study_counts_text : Counts → Institution → List ℕ
study_counts_text counts institution =
    STUDIES.now ++ decimal counts.studies ++ limit_text institution.studies
    ++ SERIES.now ++ decimal counts.series
    ++ IMAGES.now ++ decimal counts.images ++ limit_text institution.images

abbrev pub step_counts_text : Counts → Institution → List ℕ
step_counts_text counts institution =
    ENTRIES.now ++ decimal counts.entries ++ limit_text institution.entries
    ++ STEPS.now ++ decimal counts.steps ++ limit_text institution.steps ++ CLOSE.now

-- the counts of an institution beside its limits
abbrev pub counts_text : Counts → Institution → List ℕ
counts_text counts institution =
    study_counts_text counts institution ++ step_counts_text counts institution

abbrev pub is_named_so : List ℕ → Institution → Bool
is_named_so name institution = bytes_eq institution.name name

abbrev pub is_counted_of : List ℕ → Counted → Bool
is_counted_of name counted = bytes_eq counted.institution name

abbrev pub counted_reply : Option Counted → Option Institution → Reply
counted_reply (Some counted) (Some institution) =
    plain status.Done kind.Json (counts_text counted.counts institution)
counted_reply counted institution = server_reply

-- The response with what an institution keeps: its own counts beside its own limits.
abbrev pub counts_reply : List ℕ → List Counted → List Institution → Reply
counts_reply name counted institutions =
    counted_reply (find (is_counted_of name) counted) (find (is_named_so name) institutions)

-- ---- responses

-- an order that is done (RFC 9110 sections 15.3.1, 15.3.2 and 15.3.5)
abbrev pub done_reply : Request → Reply
done_reply (ask.Schedule institution octets) = plain status.Created kind.Json []
done_reply (ask.Withdraw institution id) = plain status.NoContent kind.Json []
done_reply (ask.Backup path) = plain status.Done kind.Json []
done_reply request = server_reply

-- the text of the metrics is not said
abbrev pub IsMetricsReply : Reply → Type 0
IsMetricsReply reply =
    (reply.status ≡ status.Done) × (reply.kind ≡ kind.Metrics) × (reply.is_literal ≡ false)
    × (reply.has_unknown ≡ false) × (reply.is_full ≡ false)

-- The response to what is asked, by what was answered. The server answers to no request what is not of its kind.
abbrev pub IsReplyBy : Request → Wish → Response → List Institution → Reply → Type 0
IsReplyBy request wish (told.Refused why) institutions reply = reply ≡ cause_reply why
IsReplyBy request wish told.Done institutions reply = reply ≡ done_reply request
IsReplyBy (ask.Search search) wish (told.Found answers) institutions reply = reply ≡ found_reply wish search.page answers
IsReplyBy (ask.Counts name) wish (told.Counted counted) institutions reply =
    reply ≡ counts_reply name counted institutions
IsReplyBy ask.Report wish (told.Counted counted) institutions reply = IsMetricsReply reply
IsReplyBy request wish response institutions reply = reply ≡ server_reply

abbrev pub IsReplyTo : Question → Response → List Institution → Reply → Type 0
IsReplyTo question response institutions reply =
    IsReplyBy question.asked question.wish response institutions reply

-- a response is written, as it is framed
abbrev pub IsWritten : Reply → Framing → Written → Type 0
IsWritten reply framing written = (written.status ≡ reply.status) × (written.kind ≡ framing.kind)
    × (written.octets.items ≡ response_text reply framing)

-- a response is written of which this holds
abbrev pub IsResponse : (Reply → Type 0) → Framing → Written → Type 0
IsResponse Holds framing written = (reply : Reply) × Holds reply × IsWritten reply framing written

-- the response to a request that the front refuses
abbrev pub refusal_reply : Refusal → Reply
refusal_reply refusal = refused_reply (refusal_status refusal) (refusal_word refusal)

-- a document of the page for people
abbrev pub document_reply : Document → Reply
document_reply document.Page = plain status.Done kind.Page INDEX.now
document_reply document.Style = plain status.Done kind.Style STYLE.now
document_reply document.Script = plain status.Done kind.Script SCRIPT.now

-- leave is given to look
abbrev pub preflight_reply : Reply
preflight_reply = plain status.Preflight kind.Text []

-- the front is there
abbrev pub health_reply : Reply
health_reply = plain status.Done kind.Text (codes "ok\n")
