-- The questions that HTTP requests ask of the server.
use Rattle.std.specs.Prelude.{◌≡◌, ◌⊎◌, ◌==◌, ◌<◌, ℕ, ◌++◌, ◌&&◌, ◌||◌, not, nat_le, Bool, false, IsTrue, IsFalse, List, [], ◌∷◌, length, filter, codes, string_bytes, is_some, None, option_copied}
use Rattle.std.specs.List.{list_all, list_any, slice_split, starts_with}
use Rattle.std.specs.Option.{option_and_then}
use Rattle.std.specs.Str.{bytes_eq, is_utf8}
use Rattle.percent_encoding.specs.Percent.{percent_decode}
use Rattle.dq_vr.specs.declared.Tag.{Tag}
use Rattle.dq_vr.specs.declared.tags.TheConstants.{STUDY_INSTANCE_UID, SERIES_INSTANCE_UID}
use Rattle.dq_vr.specs.Dictionary.{known_vr}
use Rattle.dq_dataset.specs.declared.header.Syntax.TheVariants.{Explicit}
use Rattle.dq_dataset.specs.Canonical.{canonical}
use Rattle.dq_dataset.specs.Tree.{ElementList}
use Rattle.dq_json.specs.declared.json_fault.JsonFault.{JsonFault}
use Rattle.dq_json.specs.JsonReader.{Spells, HasFault}
use Rattle.dq_json.specs.Keywords.{tag_named}
use Rattle.dq_request.specs.declared.request.Request.{Request}
use Rattle.dq_request.specs.declared.request.Request.TheVariants as ask
use Rattle.dq_request.specs.declared.search.Key.{Key}
use Rattle.dq_request.specs.declared.search.Search.{Search}
use Rattle.dq_request.specs.declared.search.Subject.{Subject}
use Rattle.dq_request.specs.declared.search.Subject.TheVariants as subject
use Rattle.dq_request.specs.Searches.{pages_by_key, TakesWords, StopsAt, name_in, value_most}
use Rattle.dq_web.specs.declared.cutting.BodyForm.{BodyForm}
use Rattle.dq_web.specs.declared.cutting.BodyForm.TheVariants.{Dicom, DicomJson}
use Rattle.dq_web.specs.declared.cutting.BodyForm.TheVariants as form
use Rattle.dq_web.specs.declared.cutting.Fields.{Fields}
use Rattle.dq_web.specs.declared.cutting.Head.{Head}
use Rattle.dq_web.specs.declared.cutting.HttpRequest.{HttpRequest}
use Rattle.dq_web.specs.declared.guard.Guard.{Guard}
use Rattle.dq_web.specs.declared.keys.Right.{Right}
use Rattle.dq_web.specs.declared.keys.Right.TheVariants as right
use Rattle.dq_web.specs.declared.resource.Resource.{Resource}
use Rattle.dq_web.specs.declared.resource.ResourceKind.{ResourceKind}
use Rattle.dq_web.specs.declared.resource.ResourceKind.TheVariants as kind
use Rattle.dq_web.specs.declared.resource.Resource.TheVariants.{Page, Style, Script, Health, Metrics, Backup, Counts, Studies, Series, Images, StudyImages, Unsearched, Worklist, Entry, Steps}
use Rattle.dq_web.specs.declared.aim.Aim.{Aim}
use Rattle.dq_web.specs.declared.aim.Method.{Method}
use Rattle.dq_web.specs.declared.aim.Method.TheVariants.{Get, Post, Delete, Preflight, Other}
use Rattle.dq_web.specs.declared.aim.Method.TheVariants as method
use Rattle.dq_web.specs.declared.parsed_request.Judgement.{Judgement}
use Rattle.dq_web.specs.declared.parsed_request.Judgement.TheVariants as judgement
use Rattle.dq_web.specs.declared.parsed_request.ParsedRequest.{ParsedRequest}
use Rattle.dq_web.specs.declared.parsed_request.ParsedRequest.TheVariants as asked
use Rattle.dq_web.specs.declared.parsed_request.Document.{Document}
use Rattle.dq_web.specs.declared.parsed_request.Document.TheVariants as document
use Rattle.dq_web.specs.declared.parsed_request.PartTest.{PartTest}
use Rattle.dq_web.specs.declared.parsed_request.PartTest.TheVariants as test
use Rattle.dq_web.specs.declared.parsed_request.Question.{Question}
use Rattle.dq_web.specs.declared.parsed_request.Wanted.{Wanted}
use Rattle.dq_web.specs.declared.parsed_request.Wanted.TheVariants as wanted
use Rattle.dq_web.specs.declared.parsed_request.Wish.{Wish}
use Rattle.dq_web.specs.declared.refusal.Refusal.{Refusal}
use Rattle.dq_web.specs.declared.refusal.Refusal.TheVariants as refusal
use Rattle.dq_web.specs.Aims.{IsPathAndQuery, IsTarget, IsAt, is_leave_asked, owner_of, right_of, is_free, IsLetIn, IsKeptOut}
use Rattle.dq_web.specs.Guards.{is_same_origin, IsOpenedBy, IsOpened, IsShut}
use Rattle.dq_web.specs.Resources.{kind_of, IsPath, beneath}

-- no control character
abbrev pub is_printable : ℕ → Bool
is_printable octet = nat_le 0x20 octet && not (octet == 0x7F)

-- ---- searches

-- a part of a query that asks for no search (PS3.18 section 8.3.4): all attributes are answered, and no matching
-- is fuzzy
abbrev pub is_silent : List ℕ → Bool
is_silent part = (length part == 0) || starts_with ◌==◌ part (codes "includefield=")
    || starts_with ◌==◌ part (codes "fuzzymatching=")

-- it names an attribute of the dictionary
abbrev pub is_attribute : List ℕ → Bool
is_attribute name = is_some (option_and_then known_vr (tag_named name))

-- it says what a page shows; pages that begin after a key are those of some subjects
abbrev pub is_of_page : Subject → List ℕ → Bool
is_of_page subject name = bytes_eq name (codes "limit") || bytes_eq name (codes "offset")
    || pages_by_key subject && bytes_eq name (codes "after")

-- it names neither an attribute nor the page
abbrev pub is_unknown : Subject → List ℕ → Bool
is_unknown subject part = not (is_silent part) && not (is_of_page subject (name_in part))
    && not (is_attribute (name_in part))

-- a part that no search comes of; one that is unknown is passed over, and the response says so
abbrev pub is_left_out : Subject → List ℕ → Bool
is_left_out subject part = is_silent part || is_unknown subject part

-- the parts of a query
abbrev pub parts_of : List ℕ → List (List ℕ)
parts_of query = slice_split (λ octet. octet == 38) query

abbrev pub is_said : Subject → List ℕ → Bool
is_said subject part = not (is_left_out subject part)

-- those of some parts that are words of a search of this subject
abbrev pub words_among : Subject → List (List ℕ) → List (List ℕ)
words_among subject parts = filter (is_said subject) parts

abbrev pub words_in : Subject → List ℕ → List (List ℕ)
words_in subject query = words_among subject (parts_of query)

-- a UID that stands in a path (PS3.18 section 10.6.1.1), as a key
abbrev pub uid_key : Tag → List ℕ → Key
uid_key tag text = record { tag = tag; value = percent_decode text }

-- a search of what an institution keeps, a hundred at a time
abbrev pub hundred_of : Subject → List ℕ → List Key → Search
hundred_of subject name keys = record {
  subject = subject;
  institution = name;
  keys = keys;
  after = None;
  page = record { offset = 0; limit = 100 };
}

-- the search of the series of a study
abbrev pub series_of : List ℕ → List ℕ → Search
series_of name study = hundred_of subject.Series name (uid_key STUDY_INSTANCE_UID study ∷ [])

-- the search of the images of a series
abbrev pub images_of : List ℕ → List ℕ → List ℕ → Search
images_of name study series = hundred_of subject.Images name
    (uid_key STUDY_INSTANCE_UID study ∷ (uid_key SERIES_INSTANCE_UID series ∷ []))

-- the search of the images of a study
abbrev pub study_images_of : List ℕ → List ℕ → Search
study_images_of name study = hundred_of subject.StudyImages name (uid_key STUDY_INSTANCE_UID study ∷ [])

-- The search at a path, before its query says more (PS3.18 section 10.6.1). The UIDs of the path are its first keys,
-- and of an attribute's keys the first counts.
abbrev pub IsSearchAt : Resource → Search → Type 0
IsSearchAt (Studies name) search = search ≡ hundred_of subject.Studies name.now []
IsSearchAt (Series name study) search = search ≡ series_of name.now study.now
IsSearchAt (Images name study series) search = search ≡ images_of name.now study.now series.now
IsSearchAt (StudyImages name study) search = search ≡ study_images_of name.now study.now
IsSearchAt (Worklist name) search = search ≡ hundred_of subject.Worklist name.now []
IsSearchAt (Steps name) search = search ≡ hundred_of subject.Steps name.now []
IsSearchAt resource search = ⊥

-- ---- requests

-- GET asks for the search of the path and the query
abbrev pub Searching : Resource → List ℕ → Request → Type 0
Searching resource query (ask.Search search) =
    (start : Search) × IsSearchAt resource start × TakesWords (words_in start.subject query) start search
Searching resource query request = ⊥

-- what GET asks of a resource
abbrev pub Looking : Resource → List ℕ → Request → Type 0
Looking (Counts name) query request = request ≡ ask.Counts name.now
Looking Metrics query request = request ≡ ask.Report
Looking resource query request = Searching resource query request

-- a path of a file: text without control characters
abbrev pub is_file_path : List ℕ → Bool
is_file_path body = not (length body == 0) && list_all is_printable body && is_utf8 body

abbrev pub IsBackup : List ℕ → Request → Type 0
IsBackup body (ask.Backup path) = (string_bytes path ≡ body) × IsTrue (list_all is_printable body)
IsBackup body request = ⊥

-- the octets of an entry's data set, by a body of this form: its own, or those of the data set that it spells as DICOM
-- JSON (PS3.18 annex F)
abbrev pub AreEntryOctets : BodyForm → List ℕ → List ℕ → Type 0
AreEntryOctets Dicom body octets = octets ≡ body
AreEntryOctets DicomJson body octets = (d : ElementList) × Spells body d × (octets ≡ canonical Explicit d)
AreEntryOctets form.Other body octets = ⊥

-- an entry is to be kept
abbrev pub Scheduling : List ℕ → BodyForm → List ℕ → Request → Type 0
Scheduling name by body request =
    (octets : List ℕ) × AreEntryOctets by body octets × (request ≡ ask.Schedule name octets)

-- what POST asks of a resource
abbrev pub Posting : Resource → BodyForm → List ℕ → Request → Type 0
Posting (Worklist name) by body request = Scheduling name.now by body request
Posting Backup by body request = IsBackup body request
Posting resource by body request = ⊥

-- what DELETE asks of a resource
abbrev pub Deleting : Resource → Request → Type 0
Deleting (Entry name id) request = request ≡ ask.Withdraw name.now (percent_decode id.now)
Deleting resource request = ⊥

abbrev pub Asks : Method → Resource → List ℕ → BodyForm → List ℕ → Request → Type 0
Asks Get resource query by body request = Looking resource query request
Asks method.Head resource query by body request = Looking resource query request
Asks Post resource query by body request = Posting resource by body request
Asks Delete resource query by body request = Deleting resource request
Asks Preflight resource query by body request = ⊥
Asks Other resource query by body request = ⊥

-- what a search found is answered as JSON, which is accepted (RFC 9110 section 12.5.1)
abbrev pub IsAccepted : Request → Fields → Type 0
IsAccepted (ask.Search search) fields = IsTrue fields.accepts_json
IsAccepted request fields = Unit {0}

-- this part of a query is the first that is no word of the search which the path and the parts before it say
abbrev pub IsMisspelledAt : Resource → List ℕ → List ℕ → Type 0
IsMisspelledAt resource query part =
    (start : Search) × IsSearchAt resource start × StopsAt part (words_in start.subject query) start

-- what GET comes to where something is searched
abbrev pub IsSought : Resource → Fields → List ℕ → Wanted → Type 0
IsSought resource fields query (wanted.Request request) = Searching resource query request × IsAccepted request fields
IsSought resource fields query (wanted.Misspelled part) = IsMisspelledAt resource query (string_bytes part)
IsSought resource fields query (wanted.Unreadable fault) = ⊥

-- what GET comes to
abbrev pub IsLooked : Resource → Fields → List ℕ → Wanted → Type 0
IsLooked resource fields query (wanted.Request request) = Looking resource query request × IsAccepted request fields
IsLooked resource fields query (wanted.Misspelled part) = IsMisspelledAt resource query (string_bytes part)
IsLooked resource fields query (wanted.Unreadable fault) = ⊥

-- a body that is to be DICOM JSON, and is none for this reason
abbrev pub IsUnreadableEntry : BodyForm → List ℕ → JsonFault → Type 0
IsUnreadableEntry DicomJson body fault = HasFault body fault
IsUnreadableEntry by body fault = ⊥

-- only one for the worklist is
abbrev pub IsUnreadableAt : Resource → BodyForm → List ℕ → JsonFault → Type 0
IsUnreadableAt (Worklist name) by body fault = IsUnreadableEntry by body fault
IsUnreadableAt resource by body fault = ⊥

-- what POST comes to
abbrev pub IsPosted : Resource → BodyForm → List ℕ → Wanted → Type 0
IsPosted resource by body (wanted.Request request) = Posting resource by body request
IsPosted resource by body (wanted.Misspelled part) = ⊥
IsPosted resource by body (wanted.Unreadable fault) = IsUnreadableAt resource by body fault

-- what it comes to at the worklist
abbrev pub IsEntryPosted : List ℕ → BodyForm → List ℕ → Wanted → Type 0
IsEntryPosted name by body (wanted.Request request) = Scheduling name by body request
IsEntryPosted name by body (wanted.Misspelled part) = ⊥
IsEntryPosted name by body (wanted.Unreadable fault) = IsUnreadableEntry by body fault

abbrev pub IsGet : Method → Type 0
IsGet Get = Unit {0}
IsGet method.Head = Unit {0}
IsGet by = ⊥

-- what a head and a body come to
abbrev pub IsWanted : Aim → Fields → List ℕ → Wanted → Type 0
IsWanted aim fields body (wanted.Request request) =
    Asks aim.method aim.resource aim.query.now fields.body_form body request × IsAccepted request fields
IsWanted aim fields body (wanted.Misspelled part) =
    IsGet aim.method × IsMisspelledAt aim.resource aim.query.now (string_bytes part)
IsWanted aim fields body (wanted.Unreadable fault) =
    (aim.method ≡ Post) × IsUnreadableAt aim.resource fields.body_form body fault

-- a UID of the path has more octets than a value may have
abbrev pub HasLongUid : Resource → Type 0
HasLongUid (Series name study) = value_most < length (percent_decode study.now)
HasLongUid (Images name study series) =
    (value_most < length (percent_decode study.now)) ⊎ (value_most < length (percent_decode series.now))
HasLongUid (StudyImages name study) = value_most < length (percent_decode study.now)
HasLongUid resource = ⊥

abbrev pub IsUnsearched : Resource → Type 0
IsUnsearched (Unsearched name) = Unit {0}
IsUnsearched resource = ⊥

-- Why a resource is not searched: a UID of its path is too long, the search is not supported, or there is none.
abbrev pub HasNoSearch : Resource → Refusal → Type 0
HasNoSearch resource refusal.Request = HasLongUid resource
HasNoSearch resource refusal.Unsupported = IsUnsearched resource
HasNoSearch resource refusal.Path = (search : Search) → IsSearchAt resource search → ⊥
HasNoSearch resource why = ⊥

-- why no search is asked of it: there is none, or its answer is in no form that is accepted (RFC 9110 section 15.5.7)
abbrev pub IsUnsought : Resource → Fields → Refusal → Type 0
IsUnsought resource fields refusal.Accept =
    ((search : Search) × IsSearchAt resource search) × IsFalse fields.accepts_json
IsUnsought resource fields why = HasNoSearch resource why

-- why GET asks nothing: no search is asked, or GET never asks anything there
abbrev pub HasNoLook : Resource → Fields → Refusal → Type 0
HasNoLook resource fields refusal.Path = (query : List ℕ) (request : Request) → Looking resource query request → ⊥
HasNoLook resource fields why = IsUnsought resource fields why

abbrev pub IsWorklist : Resource → Type 0
IsWorklist (Worklist name) = Unit {0}
IsWorklist resource = ⊥

-- Why POST asks nothing: an entry comes in a form that is not read (RFC 9110 section 15.5.16), the path of a backup is
-- not one of a file, or POST never asks anything there.
abbrev pub HasNoPost : Resource → BodyForm → List ℕ → Refusal → Type 0
HasNoPost resource by body refusal.MediaType = IsWorklist resource × (by ≡ form.Other)
HasNoPost resource by body refusal.Request = (resource ≡ Backup) × IsFalse (is_file_path body)
HasNoPost resource by body refusal.Path =
    (form : BodyForm) (octets : List ℕ) (request : Request) → Posting resource form octets request → ⊥
HasNoPost resource by body why = ⊥

-- why DELETE asks nothing
abbrev pub HasNoDelete : Resource → Refusal → Type 0
HasNoDelete resource refusal.Path = (request : Request) → Deleting resource request → ⊥
HasNoDelete resource why = ⊥

-- why a method and a body ask nothing; the other methods never do
abbrev pub HasNoWish : Method → Resource → Fields → List ℕ → Refusal → Type 0
HasNoWish Get resource fields body why = HasNoLook resource fields why
HasNoWish method.Head resource fields body why = HasNoLook resource fields why
HasNoWish Post resource fields body why = HasNoPost resource fields.body_form body why
HasNoWish Delete resource fields body why = HasNoDelete resource why
HasNoWish Preflight resource fields body why = why ≡ refusal.Path
HasNoWish Other resource fields body why = why ≡ refusal.Path

-- whose key opens a request: that of the institution which it names, or the operator's
abbrev pub owner_of_request : Request → List ℕ
owner_of_request (ask.Search search) = search.institution
owner_of_request (ask.Counts name) = name
owner_of_request ask.Report = codes "*"
owner_of_request (ask.Schedule institution octets) = institution
owner_of_request (ask.Withdraw institution id) = institution
owner_of_request (ask.Backup path) = codes "*"

-- the right that it needs
abbrev pub right_of_request : Request → Right
right_of_request (ask.Search search) = right.Read
right_of_request (ask.Counts name) = right.Read
right_of_request ask.Report = right.Metrics
right_of_request (ask.Schedule institution octets) = right.Order
right_of_request (ask.Withdraw institution id) = right.Order
right_of_request (ask.Backup path) = right.Backup

-- ---- who may ask

-- its key opens what it aims at
abbrev pub IsAimOpened : Guard → Head → Aim → Type 0
IsAimOpened guard head aim = IsOpened guard.keys (owner_of aim.resource) (right_of aim.resource aim.method)
    (option_copied head.fields.authorization)

-- why no key opens it
abbrev pub IsAimShut : Guard → Head → Aim → Refusal → Type 0
IsAimShut guard head aim why = IsShut guard.keys (owner_of aim.resource) (right_of aim.resource aim.method)
    (option_copied head.fields.authorization) why

-- Why a head is refused: it is not let in, or no key opens what it aims at.
abbrev pub IsRefusedFor : Guard → Head → Refusal → Type 0
IsRefusedFor guard head why = IsKeptOut guard head why
    ⊎ ((aim : Aim) × IsLetIn guard head aim × IsFalse (is_free aim) × IsAimShut guard head aim why)

-- The judgement of a head. Unless it is refused it is let in, and everybody may do what it aims at, or this entry's key
-- opens that.
abbrev pub IsJudged : Guard → Head → Judgement → Type 0
IsJudged guard head (judgement.Refused why) = IsRefusedFor guard head why
IsJudged guard head (judgement.Open aim) = IsLetIn guard head aim × IsTrue (is_free aim)
IsJudged guard head (judgement.Opened aim entry) = IsLetIn guard head aim × IsFalse (is_free aim)
    × IsOpenedBy guard.keys (owner_of aim.resource) (right_of aim.resource aim.method)
    (option_copied head.fields.authorization) entry.now

-- the label of the key that let a head in, if it has one
abbrev pub label_of : Judgement → List ℕ
label_of (judgement.Opened aim entry) = entry.now.label
label_of judgement = []

-- a part of a query asks for fuzzy matching (PS3.18 section 8.3.4.2)
abbrev pub is_fuzzy : List ℕ → Bool
is_fuzzy part = bytes_eq part (codes "fuzzymatching=true")

-- a part of a query passes a test
abbrev pub passes_part : PartTest → List ℕ → Bool
passes_part test.Fuzzy part = is_fuzzy part
passes_part (test.Unknown subject) part = is_unknown subject part

-- a parameter of a search is unknown
abbrev pub has_unknown : Request → List ℕ → Bool
has_unknown (ask.Search search) query = list_any (passes_part (test.Unknown search.subject)) (parts_of query)
has_unknown request query = false

-- how the answers to a search are wanted: where none is found an empty array, in place of no content, where an
-- Accept allows DICOM JSON; whether matching is to be fuzzy; and whether a parameter is unknown
abbrev pub wish_of : Fields → List ℕ → Request → Wish
wish_of fields query request = record {
  wants_array = fields.asks_dicom_json;
  is_fuzzy = list_any (passes_part test.Fuzzy) (parts_of query);
  has_unknown = has_unknown request query;
}

-- A request of HTTP asks a question: it is let in, its key opens the resource with the right that this needs, its path,
-- method, query and body say what is asked, and JSON is accepted where a search is.
pub record IsQuestion (guard : Guard) (request : HttpRequest) (question : Question) : Type 0 where
  pub aim : Aim
  pub let_in : IsLetIn guard request.head aim
  pub opened : IsAimOpened guard request.head aim
  pub asks : Asks aim.method aim.resource aim.query.now request.head.fields.body_form request.body.now question.asked
  pub wish : question.wish ≡ wish_of request.head.fields aim.query.now question.asked
  pub accepted : IsAccepted question.asked request.head.fields

-- A part of the query is no word of the search that the path and the parts before say.
pub record IsMisspelled (guard : Guard) (request : HttpRequest) (word : List ℕ) : Type 0 where
  pub aim : Aim
  pub let_in : IsLetIn guard request.head aim
  pub opened : IsAimOpened guard request.head aim
  pub by_get : IsGet aim.method
  pub at : IsMisspelledAt aim.resource aim.query.now word

-- The body of POST is to be DICOM JSON, and is none for this reason.
pub record IsUnreadable (guard : Guard) (request : HttpRequest) (fault : JsonFault) : Type 0 where
  pub aim : Aim
  pub let_in : IsLetIn guard request.head aim
  pub opened : IsAimOpened guard request.head aim
  pub by_post : aim.method ≡ Post
  pub at : IsUnreadableAt aim.resource request.head.fields.body_form request.body.now fault

-- It is let in, a key opens what not everybody may do, and it asks nothing.
pub record AsksNothing (guard : Guard) (request : HttpRequest) (why : Refusal) : Type 0 where
  pub aim : Aim
  pub let_in : IsLetIn guard request.head aim
  pub closed : IsFalse (is_free aim)
  pub opened : IsAimOpened guard request.head aim
  pub by : HasNoWish aim.method aim.resource request.head.fields request.body.now why

-- where a document of the page stands
abbrev pub document_resource : Document → Resource
document_resource document.Page = Page
document_resource document.Style = Style
document_resource document.Script = Script

-- what answers a request that aims at what everybody may do
abbrev pub IsFreeAnswer : Aim → ParsedRequest → Type 0
IsFreeAnswer aim (asked.Document document) = aim.resource ≡ document_resource document
IsFreeAnswer aim asked.Health = aim.resource ≡ Health
IsFreeAnswer aim asked.Preflight = IsTrue (is_leave_asked aim.method)
IsFreeAnswer aim other = ⊥

-- why a request is refused: its head is, or it asks nothing
abbrev pub IsUnanswered : Guard → HttpRequest → Refusal → Type 0
IsUnanswered guard request why = IsRefusedFor guard request.head why ⊎ AsksNothing guard request why

-- what is done for a request of HTTP
abbrev pub IsAsked : Guard → HttpRequest → ParsedRequest → Type 0
IsAsked guard request (asked.Question question) = IsQuestion guard request question
IsAsked guard request (asked.Refused why) = IsUnanswered guard request why
IsAsked guard request (asked.Misspelled word) = IsMisspelled guard request (string_bytes word)
IsAsked guard request (asked.Unreadable fault) = IsUnreadable guard request fault
IsAsked guard request (asked.Document document) =
    (aim : Aim) × IsLetIn guard request.head aim × (aim.resource ≡ document_resource document)
IsAsked guard request asked.Health = (aim : Aim) × IsLetIn guard request.head aim × (aim.resource ≡ Health)
IsAsked guard request asked.Preflight = (aim : Aim) × IsLetIn guard request.head aim × IsTrue (is_leave_asked aim.method)

-- a resource is at the path of a head
abbrev pub IsResourceAt : Head → Resource → Type 0
IsResourceAt head resource = (host : List ℕ) × (text : List ℕ) × (path : List ℕ) × (query : List ℕ)
    × IsTarget head.target.now (option_copied head.fields.host) host text × IsPathAndQuery text path query
    × IsPath path resource

-- the kind of one that is
abbrev pub IsKindAt : Head → ResourceKind → Type 0
IsKindAt head what = (what ≡ kind.Nowhere)
    ⊎ ((resource : Resource) × IsResourceAt head resource × (what ≡ kind_of resource))

-- ---- laws

-- it changes nothing
abbrev pub IsLook : Request → Type 0
IsLook (ask.Search search) = Unit {0}
IsLook (ask.Counts name) = Unit {0}
IsLook ask.Report = Unit {0}
IsLook request = ⊥

-- a page of another site sent a head: its Origin is not that of the host to which it came
abbrev pub IsForeign : Head → Type 0
IsForeign head = (host text : List ℕ) → IsTarget head.target.now (option_copied head.fields.host) host text
    → IsFalse (is_same_origin host (option_copied head.fields.origin))

-- a request of HTTP has this path
abbrev pub IsAtPath : HttpRequest → List ℕ → Type 0
IsAtPath request path = (host : List ℕ) × (query : List ℕ) × IsAt request.head host path query

-- a request of HTTP of this method at this path
abbrev pub IsCall : HttpRequest → List ℕ → List ℕ → Type 0
IsCall request word path = IsAtPath request path × (request.head.method.now ≡ word)

-- POST of an entry at the worklist of an institution, which is to be scheduled there
abbrev pub IsScheduling : HttpRequest → List ℕ → List ℕ → Type 0
IsScheduling request institution octets =
    IsCall request (codes "POST") (codes "/" ++ beneath institution (codes "worklist"))
    × AreEntryOctets request.head.fields.body_form request.body.now octets

-- DELETE of an entry of that worklist, which is to be taken away there
abbrev pub IsWithdrawing : HttpRequest → List ℕ → List ℕ → Type 0
IsWithdrawing request institution id = (text : List ℕ)
    × IsCall request (codes "DELETE") (codes "/" ++ beneath institution (codes "worklist/" ++ text))
    × (id ≡ percent_decode text)

-- POST of a path, to which all rows are to be copied
abbrev pub IsBackingUp : HttpRequest → List ℕ → Type 0
IsBackingUp request path = IsCall request (codes "POST") (codes "/backup") × (path ≡ request.body.now)

-- a path below an institution's name
abbrev pub IsBelow : HttpRequest → List ℕ → Type 0
IsBelow request institution =
    (rest : List ℕ) × IsAtPath request (codes "/" ++ beneath institution rest)
