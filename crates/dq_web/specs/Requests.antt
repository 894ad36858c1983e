-- Requests of HTTP, as they stand in the octets of a connection (RFC 9112).
use Rattle.std.specs.Prelude.{◌≡◌, ◌⊎◌, ℕ, ◌+◌, ◌<◌, ◌≤◌, ◌++◌, ◌==◌, ◌||◌, ◌&&◌, not, if◌then◌else◌, Bool, true, false, IsTrue, IsFalse, List, [], ◌∷◌, length, map, filter, drop, codes, Option, Some, None, option_to_list, option_copied}
use Rattle.std.specs.Char.{is_ascii_digit, to_ascii_lowercase}
use Rattle.std.specs.List.{list_all, list_any, slice_split}
use Rattle.std.specs.Str.{bytes_eq}
use Rattle.std.specs.Str.Parse.{IsNumeral, digits_value}
use Rattle.httparse.specs.Grammar.{RequestHead, ReadsRequest, HasNoRequest, NeverHasRequest, print_request}
use Rattle.httparse.specs.Spans.{RequestExceeds, name_and_value}
use Rattle.dq_web.specs.declared.cutting.BodyForm.{BodyForm}
use Rattle.dq_web.specs.declared.cutting.BodyForm.TheVariants as form
use Rattle.dq_web.specs.declared.cutting.Cut.{Cut}
use Rattle.dq_web.specs.declared.cutting.Cut.TheVariants.{Unfinished, Begun, Whole, Refused}
use Rattle.dq_web.specs.declared.cutting.Fields.{Fields}
use Rattle.dq_web.specs.declared.cutting.Head.{Head}
use Rattle.dq_web.specs.declared.cutting.HttpRequest.{HttpRequest}
use Rattle.dq_web.specs.declared.cutting.Test.{Test}
use Rattle.dq_web.specs.declared.cutting.Test.TheVariants as test
use Rattle.dq_web.specs.declared.refusal.Refusal.{Refusal}
use Rattle.dq_web.specs.declared.refusal.Refusal.TheVariants as refusal

-- letters of either case are one in the name of a field
abbrev pub lower_case : List ℕ → List ℕ
lower_case name = map to_ascii_lowercase name

abbrev pub is_named : List ℕ → List ℕ → Bool
is_named name field = bytes_eq (lower_case field) (lower_case name)

-- the values of the fields with a name
abbrev pub values_named : List ℕ → List (List ℕ × List ℕ) → List (List ℕ)
values_named name fields =
    map (λ (field : List ℕ × List ℕ). field.1) (filter (λ (field : List ℕ × List ℕ). is_named name field.0) fields)

-- the value of the only field with the name, or no field has it
abbrev pub IsSole : List ℕ → List (List ℕ × List ℕ) → Option (List ℕ) → Type 0
IsSole name fields found = values_named name fields ≡ option_to_list found

-- the value of the last field with the name, or no field has it
abbrev pub IsLast : List ℕ → List (List ℕ × List ℕ) → Option (List ℕ) → Type 0
IsLast name fields None = values_named name fields ≡ []
IsLast name fields (Some value) = (others : List (List ℕ)) × (values_named name fields ≡ others ++ value ∷ [])

-- what stands between the words of a list: a comma, a blank beside one, or a semicolon before a parameter
-- (RFC 9110 sections 5.6.1 and 5.6.6)
abbrev pub is_between : ℕ → Bool
is_between octet = octet == 44 || (octet == 32 || (octet == 9 || (octet == 59)))

-- the word says that no request follows (RFC 9112 section 9.6)
abbrev pub is_close : List ℕ → Bool
is_close word = is_named word (codes "close")

-- a range of media types in which DICOM JSON is (RFC 9110 section 12.5.1, PS3.18 section 8.7.3)
abbrev pub is_dicom_json_range : List ℕ → Bool
is_dicom_json_range word = is_named word (codes "application/dicom+json")
    || (is_named word (codes "application/*") || is_named word (codes "*/*"))

-- one in which JSON is, of DICOM or any
abbrev pub is_json_range : List ℕ → Bool
is_json_range word = is_dicom_json_range word || is_named word (codes "application/json")

-- a media type under which a data set is sent: its own (PS3.18 section 8.7.3), that of any octets (RFC 2046 section
-- 4.5.1), or the one that senders give what they know no type of
abbrev pub is_dicom_type : List ℕ → Bool
is_dicom_type word = is_named word (codes "application/dicom")
    || (is_named word (codes "application/octet-stream") || is_named word (codes "application/x-www-form-urlencoded"))

-- a word of a list passes a test
abbrev pub passes_word : Test → List ℕ → Bool
passes_word test.Present word = true
passes_word test.Close word = is_close word
passes_word test.DicomJson word = is_dicom_json_range word
passes_word test.Json word = is_json_range word
passes_word test.JsonBody word = is_named word (codes "application/dicom+json")
passes_word test.DicomBody word = is_dicom_type word

-- one of the words of a list does
abbrev pub passes : Test → List ℕ → Bool
passes wanted list = list_any (passes_word wanted) (slice_split is_between list)

-- one of the values of the fields with a name does
abbrev pub any_passes : Test → List ℕ → List (List ℕ × List ℕ) → Bool
any_passes wanted name pairs = list_any (passes wanted) (values_named name pairs)

-- The form of the body: what a Content-Type says, and a data set where there is none (RFC 9110 section 8.3).
abbrev pub body_form : List (List ℕ × List ℕ) → BodyForm
body_form pairs =
    if any_passes test.JsonBody (codes "content-type") pairs then form.DicomJson
    else (if any_passes test.DicomBody (codes "content-type") pairs then form.Dicom
    else (if any_passes test.Present (codes "content-type") pairs then form.Other else form.Dicom))

-- The values of the fields that count. Connection and Accept are lists, and may stand more than once; so may what
-- proxies say, of which the last counts; each other one stands once at most. Where no Accept says so, JSON is accepted.
pub record AreFields (pairs : List (List ℕ × List ℕ)) (fields : Fields) : Type 0 where
  pub host : IsSole (codes "host") pairs (option_copied fields.host)
  pub origin : IsSole (codes "origin") pairs (option_copied fields.origin)
  pub fetch_site : IsSole (codes "sec-fetch-site") pairs (option_copied fields.fetch_site)
  pub fetch_dest : IsSole (codes "sec-fetch-dest") pairs (option_copied fields.fetch_dest)
  pub request_method : IsSole (codes "access-control-request-method") pairs (option_copied fields.request_method)
  pub authorization : IsSole (codes "authorization") pairs (option_copied fields.authorization)
  pub expect : IsSole (codes "expect") pairs (option_copied fields.expect)
  pub forwarded_for : IsLast (codes "x-forwarded-for") pairs (option_copied fields.forwarded_for)
  pub forwarded : IsLast (codes "forwarded") pairs (option_copied fields.forwarded)
  pub content_length : IsSole (codes "content-length") pairs (option_copied fields.content_length)
  pub transfer_encoding : IsSole (codes "transfer-encoding") pairs (option_copied fields.transfer_encoding)
  pub closes : fields.closes ≡ any_passes test.Close (codes "connection") pairs
  pub accepts_json : fields.accepts_json ≡ (any_passes test.Json (codes "accept") pairs
      || not (any_passes test.Present (codes "accept") pairs))
  pub asks_dicom_json : fields.asks_dicom_json ≡ any_passes test.DicomJson (codes "accept") pairs
  pub form : fields.body_form ≡ body_form pairs

-- a number of octets, at most 1 MiB, in decimal digits
abbrev pub IsContentLength : List ℕ → ℕ → Type 0
IsContentLength text number =
    (number ≤ 0x100000) × IsNumeral 10 text × (digits_value 10 text ≡ number)

-- the length of the body that a Content-Length says: none says 0
abbrev pub IsBodyLength : Option (List ℕ) → ℕ → Type 0
IsBodyLength None number = number ≡ 0
IsBodyLength (Some text) number = IsContentLength text number

-- A head stands at the front of octets: it is one of the grammar, has 16 KiB at most, each field that counts
-- stands once at most, and the body comes in no coding. After a request of HTTP/1.0, or one with `close`,
-- none follows.
pub record IsHead (octets : List ℕ) (head : Head) : Type 0 where
  pub parts : RequestHead
  pub reads : ReadsRequest octets parts (drop head.extent octets)
  pub method : head.method.now ≡ parts.method
  pub target : head.target.now ≡ parts.target
  pub fields : AreFields (map name_and_value parts.fields) head.fields
  pub coding : option_copied head.fields.transfer_encoding ≡ None
  pub body : IsBodyLength (option_copied head.fields.content_length) head.body_length
  pub old : head.is_old ≡ (parts.minor == 0)
  pub last : head.is_last ≡ (parts.minor == 0 || head.fields.closes)
  pub extent : head.extent ≡ length (print_request parts)
  pub bound : head.extent ≤ 16384

-- a request stands at the front of octets: its head, and a body as long as that says, whose octets it takes
pub record IsRequest (octets : List ℕ) (request : HttpRequest) : Type 0 where
  pub head : IsHead octets request.head
  pub rest : List ℕ
  pub body : drop request.head.extent octets ≡ request.body.now ++ rest
  pub whole : length request.body.now ≡ request.head.body_length
  pub extent : request.extent ≡ request.head.extent + length request.body.now

-- ---- refusals

-- the fields that a head has once at most
abbrev pub is_sole : List ℕ → Bool
is_sole name = list_any (bytes_eq name) (codes "host" ∷ codes "origin" ∷ codes "sec-fetch-site" ∷ codes "sec-fetch-dest"
    ∷ codes "access-control-request-method" ∷ codes "authorization" ∷ codes "expect" ∷ codes "content-length"
    ∷ codes "transfer-encoding" ∷ [])

-- it has one of them more often
abbrev pub HasRepeated : List (List ℕ × List ℕ) → Type 0
HasRepeated pairs = (name : List ℕ) × IsTrue (is_sole name) × (1 < length (values_named name pairs))

-- a decimal number (RFC 9110 section 8.6)
abbrev pub is_numeral : List ℕ → Bool
is_numeral text = not (length text == 0) && list_all is_ascii_digit text

-- why a Content-Length is refused: it is not a number, or one of more than 1 MiB
abbrev pub IsBadLength : List ℕ → Refusal → Type 0
IsBadLength text refusal.Request = IsFalse (is_numeral text)
IsBadLength text refusal.Length = IsTrue (is_numeral text) × (0x100000 < digits_value 10 text)
IsBadLength text why = ⊥

-- Why the fields of a head are refused: one is repeated that may not be, the body comes in a coding, or its length is bad.
abbrev pub AreBadFields : List (List ℕ × List ℕ) → Refusal → Type 0
AreBadFields pairs why = ((why ≡ refusal.Request) × HasRepeated pairs)
    ⊎ (((why ≡ refusal.Coding)
    × ((coding : List ℕ) × IsSole (codes "transfer-encoding") pairs (Some coding)))
    ⊎ ((text : List ℕ) × IsSole (codes "content-length") pairs (Some text) × IsBadLength text why))

-- Why octets are refused that do not begin with a whole head of at most 64 fields. More than 16 KiB came without a whole
-- head, or more than 64 fields; or they never begin with a head, whatever follows. Which octet is wrong is not said.
abbrev pub IsBadFront : List ℕ → Refusal → Type 0
IsBadFront octets refusal.Head = ((16384 < length octets) × HasNoRequest octets) ⊎ RequestExceeds 64 octets
IsBadFront octets refusal.Request = NeverHasRequest octets
IsBadFront octets why = ⊥

-- octets begin with a head of the grammar, and it has more than 16 KiB or bad fields
abbrev pub HasBadHead : List ℕ → Refusal → Type 0
HasBadHead octets why = (parts : RequestHead) × (rest : List ℕ) × ReadsRequest octets parts rest
    × (((why ≡ refusal.Head) × (16384 < length (print_request parts)))
    ⊎ AreBadFields (map name_and_value parts.fields) why)

-- The cut of octets. No whole head is there, in at most 16 KiB; or a head whose body is not whole; or a request.
abbrev pub IsCutOff : List ℕ → Cut → Type 0
IsCutOff octets Unfinished = (length octets ≤ 16384) × HasNoRequest octets
IsCutOff octets (Begun head) = IsHead octets head × (length octets < head.extent + head.body_length)
IsCutOff octets (Whole request) = IsRequest octets request
IsCutOff octets (Refused why) = IsBadFront octets why ⊎ HasBadHead octets why

-- the sender of a head waits for leave to send the body (RFC 9110 section 10.1.1)
abbrev pub is_expected : Option (List ℕ) → Bool
is_expected None = false
is_expected (Some value) = is_named value (codes "100-continue")

abbrev pub is_expecting : Head → Bool
is_expecting head = not head.is_old && is_expected (option_copied head.fields.expect)

-- a response to the head has no content (RFC 9110 section 9.3.2)
abbrev pub is_of_head : Head → Bool
is_of_head head = bytes_eq head.method.now (codes "HEAD")
