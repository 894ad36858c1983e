-- How the console spells what is asked and what is answered.
use Rattle.std.specs.Prelude.{◌≡◌, ◌==◌, ◌+◌, ℕ, Bool, not, nat_eq, List, [], ◌∷◌, ◌++◌, length, take, drop, filter, codes, string_bytes, None, Result, Ok, Err}
use Rattle.std.specs.Fmt.{decimal}
use Rattle.std.specs.List.{flat_map, slice_split, position_or_len}
use Rattle.std.specs.Str.{IsUtf8}
use Rattle.json.specs.Print.{print}
use Rattle.dq_dataset.specs.Tree.{ElementList}
use Rattle.dq_json.specs.Json.{json_tokens}
use Rattle.dq_core.specs.declared.event.Event.{Event}
use Rattle.dq_core.specs.declared.event.Event.TheVariants as event
use Rattle.dq_wires.specs.Turners.{IsOrder}
use Rattle.dq_captures.specs.Captures.{line_feed, SpellsEvent}
use Rattle.dq_captures.specs.Reports.{kind_word, every_kind}
use Rattle.dq_tables.specs.declared.row.Kind.{Kind}
use Rattle.dq_tables.specs.declared.row.Kind.TheVariants as kind
use Rattle.dq_request.specs.declared.request.Request.{Request}
use Rattle.dq_request.specs.declared.request.Request.TheVariants as request
use Rattle.dq_request.specs.declared.response.Counted.{Counted}
use Rattle.dq_request.specs.declared.response.Counts.{Counts}
use Rattle.dq_request.specs.declared.response.Response.{Response}
use Rattle.dq_request.specs.declared.response.Response.TheVariants as response
use Rattle.dq_request.specs.declared.search.Search.{Search}
use Rattle.dq_request.specs.declared.search.Subject.{Subject}
use Rattle.dq_request.specs.declared.search.Subject.TheVariants.{Studies, Series, Images, StudyImages, Worklist, Steps}
use Rattle.dq_request.specs.Responses.{cause_text}
use Rattle.dq_request.specs.Searches.{TakesWords, StopsAt}
use Rattle.dq_console.specs.declared.asks.KeysError.{KeysError}
use Rattle.dq_console.specs.declared.asks.KeysError.TheVariants as keys_error
use Rattle.dq_console.specs.declared.console_line.ConsoleLine.{ConsoleLine}
use Rattle.dq_console.specs.declared.console_line.ConsoleLine.TheVariants.{Asked, Keys, Misspelled, Bad}

-- ---- lines that are read

-- the word that a search begins with, and the space behind it
abbrev pub subject_word : Subject → List ℕ
subject_word Studies = codes "studies "
subject_word Series = codes "series "
subject_word Images = codes "images "
subject_word StudyImages = codes "study-images "
subject_word Worklist = codes "worklist "
subject_word Steps = codes "steps "

abbrev pub is_space : ℕ → Bool
is_space octet = octet == 32

-- the name of the institution: what stands behind the word, before the first space
abbrev pub name_in : List ℕ → List ℕ
name_in rest = take (position_or_len is_space rest) rest

-- the words of a text, between spaces
abbrev pub is_word : List ℕ → Bool
is_word part = not (nat_eq (length part) 0)

abbrev pub words_of : List ℕ → List (List ℕ)
words_of text = filter is_word (slice_split is_space text)

-- those behind the name
abbrev pub words_in : List ℕ → List (List ℕ)
words_in rest = words_of (drop (position_or_len is_space rest + 1) rest)

-- the most that the console shows of a search at a time, where no limit is given
abbrev pub page_most : ℕ
page_most = 1000

-- a search before its words are taken
abbrev pub new_search : Subject → List ℕ → Search
new_search subject rest = record {
  subject = subject;
  institution = name_in rest;
  keys = [];
  after = None;
  page = record { offset = 0; limit = page_most };
}

-- A line asks for this: a search of whose words each is taken; a report; an order, spelled as in a capture; or a
-- copy of all rows at a path.
abbrev pub SpellsRequest : List ℕ → Request → Type 0
SpellsRequest line (request.Search search) = (subject : Subject) × (rest : List ℕ)
    × (line ≡ subject_word subject ++ rest) × TakesWords (words_in rest) (new_search subject rest) search
SpellsRequest line (request.Counts name) = ⊥
SpellsRequest line request.Report = line ≡ codes "report"
SpellsRequest line (request.Schedule institution octets) =
    SpellsEvent line (event.Schedule institution octets)
SpellsRequest line (request.Withdraw institution id) =
    SpellsEvent line (event.Withdraw institution id)
SpellsRequest line (request.Backup path) = line ≡ codes "backup " ++ string_bytes path

-- This word of a search is the first that is none.
abbrev pub IsMisspelled : List ℕ → List ℕ → Type 0
IsMisspelled line word = (subject : Subject) × (rest : List ℕ) × (line ≡ subject_word subject ++ rest)
    × StopsAt word (words_in rest) (new_search subject rest)

-- what a search tells, by what stands behind its word
abbrev pub SpellsSearch : Subject → List ℕ → ConsoleLine → Type 0
SpellsSearch subject rest (Asked (request.Search search)) =
    TakesWords (words_in rest) (new_search subject rest) search
SpellsSearch subject rest (Misspelled word) =
    StopsAt (string_bytes word) (words_in rest) (new_search subject rest)
SpellsSearch subject rest other = ⊥

-- what an order asks
abbrev pub IsAskedBy : Event → ConsoleLine → Type 0
IsAskedBy (event.Schedule institution octets) line = line ≡ Asked (request.Schedule institution octets)
IsAskedBy (event.Withdraw institution id) line = line ≡ Asked (request.Withdraw institution id)
IsAskedBy other line = ⊥

-- what an order tells, spelled as in a capture
abbrev pub SpellsOrder : List ℕ → ConsoleLine → Type 0
SpellsOrder line (Asked (request.Schedule institution octets)) =
    SpellsEvent line (event.Schedule institution octets)
SpellsOrder line (Asked (request.Withdraw institution id)) =
    SpellsEvent line (event.Withdraw institution id)
SpellsOrder line (Asked other) = ⊥
SpellsOrder line Keys = ⊥
SpellsOrder line (Misspelled word) = ⊥
SpellsOrder line Bad = (order : Event) → SpellsEvent line order → IsOrder order → ⊥

-- a line by which the web front's keys are to be read anew
abbrev pub keys_line : List ℕ
keys_line = codes "keys"

-- The meaning of a line: what is asked; that keys are to be read anew; a search with a word that is none; or none of these.
abbrev pub TellsLine : List ℕ → ConsoleLine → Type 0
TellsLine line (Asked asked) = SpellsRequest line asked
TellsLine line Keys = line ≡ keys_line
TellsLine line (Misspelled word) = IsMisspelled line (string_bytes word)
TellsLine line Bad = IsUtf8 line → ((asked : Request) → SpellsRequest line asked → ⊥) × (line ≡ keys_line → ⊥)

-- ---- lines that are written

-- a line of DICOM JSON (PS3.18 annex F) for each data set
abbrev pub json_line : ElementList → List ℕ
json_line d = print (json_tokens d) ++ line_feed ∷ []

abbrev pub json_lines : List ElementList → List ℕ
json_lines answers = flat_map json_line answers

-- and how many they are
abbrev pub answers_text : List ElementList → List ℕ
answers_text answers =
    json_lines answers ++ (codes "end " ++ (decimal (length answers) ++ line_feed ∷ []))

abbrev pub count_in : Counts → Kind → ℕ
count_in counts kind.Study = counts.studies
count_in counts kind.Series = counts.series
count_in counts kind.Image = counts.images
count_in counts kind.Entry = counts.entries
count_in counts kind.Step = counts.steps

-- a count, after the word for it
abbrev pub count_text : Counts → Kind → List ℕ
count_text counts kind = codes " " ++ kind_word kind ++ codes " " ++ decimal (count_in counts kind)

-- `NAME studies A series B images C entries D steps E`
abbrev pub counted_line : Counted → List ℕ
counted_line it = it.institution ++ flat_map (count_text it.counts) every_kind ++ line_feed ∷ []

abbrev pub counted_text : List Counted → List ℕ
counted_text all = flat_map counted_line all

abbrev pub refused_text : List ℕ → List ℕ
refused_text why = codes "refused " ++ (why ++ line_feed ∷ [])

-- a word that is none of a search
abbrev pub misspelled_text : List ℕ → List ℕ
misspelled_text word = refused_text (codes "keyword " ++ word)

-- a line that tells nothing
abbrev pub bad_line : List ℕ
bad_line = codes "bad line" ++ line_feed ∷ []

-- why keys were not read anew
abbrev pub keys_error_word : KeysError → List ℕ
keys_error_word keys_error.NoFront = codes "no web front"
keys_error_word keys_error.Failed = codes "failed"
keys_error_word (keys_error.Line number) = codes "line " ++ decimal number
keys_error_word keys_error.NoMemory = codes "memory"

abbrev pub keys_text : Result (Unit {0}) KeysError → List ℕ
keys_text (Ok read) = codes "done" ++ line_feed ∷ []
keys_text (Err why) = refused_text (keys_error_word why)

-- an answer
abbrev pub response_text : Response → List ℕ
response_text (response.Found answers) = answers_text answers
response_text (response.Counted all) = counted_text all
response_text response.Done = codes "done" ++ line_feed ∷ []
response_text (response.Refused cause) = refused_text (cause_text cause)
