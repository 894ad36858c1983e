-- The log's notes of what the console and the web front were asked.
use Rattle.std.specs.Prelude.{◌≡◌, ℕ, Bool, true, false, List, [], ◌++◌, codes, Option, Some, None}
use Rattle.std.specs.Str.{IsUtf8}
use Rattle.dq_request.specs.declared.request.Request.{Request}
use Rattle.dq_request.specs.declared.request.Request.TheVariants.{Schedule, Withdraw, Backup}
use Rattle.dq_console.specs.declared.console_line.ConsoleLine.{ConsoleLine}
use Rattle.dq_console.specs.declared.console_line.ConsoleLine.TheVariants.{Asked, Keys, Misspelled, Bad}

-- whether a line tells nothing
abbrev pub is_bad : ConsoleLine → Bool
is_bad Bad = true
is_bad line = false

-- the name of an institution in a note, and `-` if it is no text
abbrev pub IsNameNoted : List ℕ → List ℕ → Type 0
IsNameNoted octets name =
    (IsUtf8 octets → name ≡ octets) × ((IsUtf8 octets → ⊥) → name ≡ codes "-")

-- A note has a word and a name.
abbrev pub NotesName : List ℕ → List ℕ → Option (List ℕ) → Type 0
NotesName word octets note = (name : List ℕ) × IsNameNoted octets name
    × (note ≡ Some (word ++ name ++ codes " "))

-- The note of a request before its answer: of an order its word and its institution, and of a copy that it is one. Of
-- others there is none.
abbrev pub NotesRequest : Request → Option (List ℕ) → Type 0
NotesRequest (Schedule institution octets) note = NotesName (codes "schedule ") institution note
NotesRequest (Withdraw institution id) note = NotesName (codes "withdraw ") institution note
NotesRequest (Backup path) note = note ≡ Some (codes "backup ")
NotesRequest other note = note ≡ None

-- of a line; of one that tells nothing only the answer
abbrev pub NotesLine : ConsoleLine → Option (List ℕ) → Type 0
NotesLine (Asked request) note = NotesRequest request note
NotesLine Keys note = note ≡ Some (codes "keys ")
NotesLine (Misspelled word) note = note ≡ None
NotesLine Bad note = note ≡ Some []
