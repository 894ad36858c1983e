-- Responses, as octets (RFC 9112 section 2.1).
use Rattle.std.specs.Prelude.{ℕ, ◌++◌, Bool, true, false, if◌then◌else◌, List, [], length, codes, Option, Some, None}
use Rattle.std.specs.Fmt.{decimal}
use Rattle.httpdate.specs.Date.{date_text}
use Rattle.httpdate.specs.declared.date.HttpDate.{HttpDate}
use Rattle.dq_web.specs.declared.refusal.Allowed.TheVariants as allowed
use Rattle.dq_web.specs.declared.refusal.Refusal.{Refusal}
use Rattle.dq_web.specs.declared.refusal.Refusal.TheVariants as refusal
use Rattle.dq_web.specs.declared.replies.Framing.{Framing}
use Rattle.dq_web.specs.declared.replies.Kind.{Kind}
use Rattle.dq_web.specs.declared.replies.Kind.TheVariants as kind
use Rattle.dq_web.specs.declared.replies.Reply.{Reply}
use Rattle.dq_web.specs.declared.status.Status.{Status}
use Rattle.dq_web.specs.declared.status.Status.TheVariants.{Done, Created, NoContent, Preflight, BadRequest, Unauthorized, Forbidden, NotFound, MethodNotAllowed, NotAcceptable, RequestTimeout, Conflict, TooLarge, UnsupportedMediaType, Misdirected, HeadTooLarge, ServerError, NotImplemented, Unavailable, Full}

-- the status code and the reason phrase (RFC 9110 section 15; of 507 RFC 4918 section 11.5)
abbrev pub status_line : Status → List ℕ
status_line Done = codes "200 OK"
status_line Created = codes "201 Created"
status_line NoContent = codes "204 No Content"
status_line Preflight = codes "204 No Content"
status_line BadRequest = codes "400 Bad Request"
status_line Unauthorized = codes "401 Unauthorized"
status_line Forbidden = codes "403 Forbidden"
status_line NotFound = codes "404 Not Found"
status_line (MethodNotAllowed methods) = codes "405 Method Not Allowed"
status_line NotAcceptable = codes "406 Not Acceptable"
status_line RequestTimeout = codes "408 Request Timeout"
status_line Conflict = codes "409 Conflict"
status_line TooLarge = codes "413 Content Too Large"
status_line UnsupportedMediaType = codes "415 Unsupported Media Type"
status_line Misdirected = codes "421 Misdirected Request"
status_line HeadTooLarge = codes "431 Request Header Fields Too Large"
status_line ServerError = codes "500 Internal Server Error"
status_line NotImplemented = codes "501 Not Implemented"
status_line Unavailable = codes "503 Service Unavailable"
status_line Full = codes "507 Insufficient Storage"

-- the status of a refusal of the front (RFC 9110 section 15.5)
abbrev pub refusal_status : Refusal → Status
refusal_status refusal.Request = BadRequest
refusal_status refusal.Head = HeadTooLarge
refusal_status refusal.Length = TooLarge
refusal_status refusal.Coding = NotImplemented
refusal_status refusal.Host = Misdirected
refusal_status refusal.Origin = Forbidden
refusal_status refusal.Path = NotFound
refusal_status (refusal.Method methods) = MethodNotAllowed methods
refusal_status refusal.Key = Unauthorized
refusal_status refusal.Right = Forbidden
refusal_status refusal.Accept = NotAcceptable
refusal_status refusal.MediaType = UnsupportedMediaType
refusal_status refusal.Unsupported = NotImplemented
refusal_status refusal.Time = RequestTimeout

-- the word for a refusal of the front
abbrev pub refusal_word : Refusal → List ℕ
refusal_word refusal.Request = codes "request"
refusal_word refusal.Head = codes "head"
refusal_word refusal.Length = codes "length"
refusal_word refusal.Coding = codes "coding"
refusal_word refusal.Host = codes "host"
refusal_word refusal.Origin = codes "origin"
refusal_word refusal.Path = codes "path"
refusal_word (refusal.Method methods) = codes "method"
refusal_word refusal.Key = codes "key"
refusal_word refusal.Right = codes "right"
refusal_word refusal.Accept = codes "accept"
refusal_word refusal.MediaType = codes "media type"
refusal_word refusal.Unsupported = codes "unsupported"
refusal_word refusal.Time = codes "time"

-- the status code alone
abbrev pub status_code : Status → ℕ
status_code Done = 200
status_code Created = 201
status_code NoContent = 204
status_code Preflight = 204
status_code BadRequest = 400
status_code Unauthorized = 401
status_code Forbidden = 403
status_code NotFound = 404
status_code (MethodNotAllowed methods) = 405
status_code NotAcceptable = 406
status_code RequestTimeout = 408
status_code Conflict = 409
status_code TooLarge = 413
status_code UnsupportedMediaType = 415
status_code Misdirected = 421
status_code HeadTooLarge = 431
status_code ServerError = 500
status_code NotImplemented = 501
status_code Unavailable = 503
status_code Full = 507

abbrev pub content_type : Kind → List ℕ
content_type kind.Page = codes "text/html; charset=utf-8"
content_type kind.Style = codes "text/css; charset=utf-8"
content_type kind.Script = codes "text/javascript; charset=utf-8"
content_type kind.Text = codes "text/plain; charset=utf-8"
content_type kind.Json = codes "application/json"
content_type kind.DicomJson = codes "application/dicom+json"
content_type kind.Metrics = codes "text/plain; version=0.0.4; charset=utf-8"

-- the end of a line (RFC 9112 section 2.2)
abbrev pub line_end : List ℕ
line_end = codes "\r\n"

-- Fields of every response: nothing is kept of it (RFC 9111 section 5.2.2.5), nothing is guessed of its body, a page
-- tells no other site where it was, and it loads and calls only what is of its own host.
unfoldable pub guarding_fields : List ℕ
guarding_fields =
    codes "Cache-Control: no-store\r\n" ++ codes "X-Content-Type-Options: nosniff\r\n"
    ++ codes "Referrer-Policy: no-referrer\r\n"
    ++ codes "Content-Security-Policy: default-src 'none'; script-src 'self'; style-src 'self'; "
    ++ codes "connect-src 'self'; base-uri 'none'; form-action 'none'; frame-ancestors 'none'\r\n"

-- the fields that a status asks for (RFC 9110 sections 11.6.1 and 10.2.1, and the CORS-preflight response of the Fetch
-- standard: leave for ten minutes to look, with a key)
abbrev pub extra_fields : Status → List ℕ
extra_fields Preflight = codes "Access-Control-Allow-Methods: GET, HEAD\r\n"
    ++ codes "Access-Control-Allow-Headers: Accept, Authorization\r\n"
    ++ codes "Access-Control-Max-Age: 600\r\n"
extra_fields Unauthorized = codes "WWW-Authenticate: Bearer" ++ line_end
extra_fields (MethodNotAllowed allowed.Get) = codes "Allow: GET, HEAD" ++ line_end
extra_fields (MethodNotAllowed allowed.Post) = codes "Allow: POST" ++ line_end
extra_fields (MethodNotAllowed allowed.Delete) = codes "Allow: DELETE" ++ line_end
extra_fields (MethodNotAllowed allowed.GetAndPost) = codes "Allow: GET, HEAD, POST" ++ line_end
extra_fields status = []

-- a response of 204 has no content (RFC 9110 section 15.3.5)
abbrev pub has_content : Status → Bool
has_content NoContent = false
has_content Preflight = false
has_content status = true

-- what the body is (RFC 9110 section 8.3)
abbrev pub type_field : Kind → List ℕ
type_field what = codes "Content-Type: " ++ content_type what ++ line_end

-- how many octets it has (RFC 9110 section 8.6)
abbrev pub length_field : ℕ → List ℕ
length_field size = codes "Content-Length: " ++ decimal size ++ line_end

-- a response without content says neither
abbrev pub body_fields : Status → Kind → ℕ → List ℕ
body_fields status what size =
    if has_content status then type_field what ++ length_field size else []

-- the status line and the fields that each response has
abbrev pub head_text : Status → List ℕ
head_text status = codes "HTTP/1.1 " ++ status_line status ++ line_end
    ++ guarding_fields ++ extra_fields status

-- no request is read behind a response (RFC 9112 section 9.6)
abbrev pub closing_field : Bool → List ℕ
closing_field true = codes "Connection: close\r\n"
closing_field false = []

-- when the response was made (RFC 9110 section 6.6.1)
abbrev pub date_field : Option HttpDate → List ℕ
date_field None = []
date_field (Some date) = codes "Date: " ++ (date_text date ++ line_end)

-- pages of this origin may read the response, and the warnings in its head (the CORS protocol of the Fetch standard)
abbrev pub origin_field : List ℕ → List ℕ
origin_field origin = codes "Access-Control-Allow-Origin: " ++ (origin ++ line_end)

abbrev pub viewer_fields : Option (List ℕ) → List ℕ
viewer_fields None = []
viewer_fields (Some origin) =
    origin_field origin ++ codes "Access-Control-Expose-Headers: Warning\r\nVary: Origin\r\n"

-- fuzzy matching was asked for, and there is none (PS3.18 section 8.3.4.2)
abbrev pub literal_field : Bool → List ℕ
literal_field true = codes "Warning: 299 newtiron \"The fuzzymatching parameter is not supported. "
    ++ codes "Only literal matching has been performed.\"\r\n"
literal_field false = []

-- a parameter was passed over
abbrev pub unknown_field : Bool → List ℕ
unknown_field true = codes "Warning: 299 newtiron \"An unknown parameter was ignored.\"\r\n"
unknown_field false = []

-- there may be more than the page (PS3.18 section 8.3.4.4)
abbrev pub full_field : Bool → List ℕ
full_field true =
    codes "Warning: 299 newtiron \"The page is full. Additional results can be requested by offset.\"\r\n"
full_field false = []

abbrev pub warning_fields : Reply → List ℕ
warning_fields reply =
    literal_field reply.is_literal ++ unknown_field reply.has_unknown ++ full_field reply.is_full

abbrev pub whole_head_text : Reply → Framing → List ℕ
whole_head_text reply framing = head_text reply.status ++ date_field framing.date
    ++ closing_field framing.is_last ++ viewer_fields framing.viewer ++ warning_fields reply
    ++ body_fields reply.status reply.kind (length reply.body) ++ line_end

-- a response to HEAD is that to GET without its content (RFC 9110 section 9.3.2)
abbrev pub content : Bool → List ℕ → List ℕ
content true body = []
content false body = body

-- the octets of a response, as it is framed
abbrev pub response_text : Reply → Framing → List ℕ
response_text reply framing = whole_head_text reply framing ++ content framing.is_head reply.body
