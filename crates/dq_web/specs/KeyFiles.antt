-- The file of keys: a line each, with a name, a right if the key has not all of the name's, the SHA-256 of the key in
-- hexadecimal (FIPS 180-4), and a label if it has one. A space parts them.
use Rattle.std.specs.Prelude.{◌≡◌, ℕ, ◌++◌, ◌==◌, ◌&&◌, ◌||◌, not, nat_le, Bool, true, false, IsTrue, List, [], ◌∷◌, length, filter, find, codes, Option, Some, None, Result, Ok, Err, if◌then◌else◌}
use Rattle.std.specs.Borrow.{Bor}
use Rattle.std.specs.Char.{is_ascii_alphanumeric}
use Rattle.std.specs.List.{list_all, list_any, starts_with}
use Rattle.std.specs.Str.Lines.{lines}
use Rattle.std.specs.Str.{bytes_eq}
use Rattle.hex.specs.Hex.{decode_of}
use Rattle.dq_config.specs.Conditions.{is_institution_name}
use Rattle.dq_web.specs.declared.keys.KeyEntry.{KeyEntry}
use Rattle.dq_web.specs.declared.keys.Right.{Right}
use Rattle.dq_web.specs.declared.keys.Right.TheVariants.{Read, Order, Metrics, Backup}
use Rattle.dq_web.specs.declared.refusal.Refusal.{Refusal}
use Rattle.dq_web.specs.declared.refusal.Refusal.TheVariants as refusal

-- ---- lines

-- the name of an institution, or the operator's asterisk
abbrev pub is_owner : List ℕ → Bool
is_owner name = is_institution_name name || bytes_eq name (codes "*")

abbrev pub right_word : Right → List ℕ
right_word Read = codes "read"
right_word Order = codes "order"
right_word Metrics = codes "metrics"
right_word Backup = codes "backup"

-- a text behind a right and a space, where a right is given
abbrev pub with_right : Option Right → List ℕ → List ℕ
with_right None text = text
with_right (Some right) text = right_word right ++ codes " " ++ text

-- keys of an institution may read and order there, and those of the operator see metrics and have a backup made
abbrev pub may_have : List ℕ → Option Right → Bool
may_have name None = is_owner name
may_have name (Some Read) = is_institution_name name
may_have name (Some Order) = is_institution_name name
may_have name (Some Metrics) = bytes_eq name (codes "*")
may_have name (Some Backup) = bytes_eq name (codes "*")

-- a letter or a digit of ASCII, a hyphen, an underscore or a full stop
abbrev pub is_label_octet : ℕ → Bool
is_label_octet octet = is_ascii_alphanumeric octet || octet == 45 || octet == 95 || octet == 46

abbrev pub is_label : List ℕ → Bool
is_label octets = not (length octets == 0) && nat_le (length octets) 32 && list_all is_label_octet octets

-- a text before a space and a label, where there is a label
abbrev pub with_label : List ℕ → List ℕ → List ℕ
with_label text [] = text
with_label text (octet ∷ octets) = text ++ codes " " ++ octet ∷ octets

abbrev pub may_be_label : List ℕ → Bool
may_be_label [] = true
may_be_label (octet ∷ octets) = is_label (octet ∷ octets)

-- a line of the file spells the entry
pub record SpellsKey (line : List ℕ) (entry : KeyEntry) : Type 0 where
  pub digest_text : List ℕ
  pub spelled : line ≡ entry.name ++ codes " " ++ with_right entry.right (with_label digest_text entry.label)
  pub owned : IsTrue (may_have entry.name entry.right)
  pub digest : decode_of digest_text ≡ Ok entry.digest
  pub labelled : IsTrue (may_be_label entry.label)

-- ---- files

-- An empty line and a comment are skipped.
abbrev pub is_key_line : List ℕ → Bool
is_key_line line = not (length line == 0) && not (starts_with ◌==◌ line (codes "#"))

-- the lines of keys in a text
abbrev pub key_lines : List ℕ → List (List ℕ)
key_lines text = filter is_key_line (lines text)

-- each line spells one entry, in their order, and there are no others
abbrev pub AreSpelled : List (List ℕ) → List KeyEntry → Type 0
AreSpelled [] [] = Unit {0}
AreSpelled (line ∷ lines) (entry ∷ entries) = SpellsKey line entry × AreSpelled lines entries
AreSpelled lines entries = ⊥

-- ---- what a key may do

abbrev pub is_right : Right → Right → Bool
is_right Read Read = true
is_right Order Order = true
is_right Metrics Metrics = true
is_right Backup Backup = true
is_right one other = false

-- a key without a right of its own may do all that its name may
abbrev pub may_do : Right → Option Right → Bool
may_do needed None = true
may_do needed (Some own) = is_right own needed

-- the entry is of this name and digest
abbrev pub opens : List ℕ → List ℕ → KeyEntry → Bool
opens name digest entry = bytes_eq entry.digest digest && bytes_eq entry.name name

-- the entry is of this name and digest, and has this right
abbrev pub permits : List ℕ → Right → List ℕ → KeyEntry → Bool
permits name right digest entry = opens name digest entry && may_do right entry.right

-- the first entry that permits it
abbrev pub entry_for : List KeyEntry → List ℕ → Right → List ℕ → Option KeyEntry
entry_for entries name right digest = find (permits name right digest) entries

-- The entry that permits it; or why none does: none of this name has the digest, or those that have it have other rights.
abbrev pub IsEntryFor : List KeyEntry → List ℕ → Right → List ℕ → Result (Bor KeyEntry) Refusal → Type 0
IsEntryFor entries name right digest (Ok entry) = entry_for entries name right digest ≡ Some entry.now
IsEntryFor entries name right digest (Err why) = (entry_for entries name right digest ≡ None)
    × (why ≡ (if list_any (opens name digest) entries then refusal.Right else refusal.Key))
