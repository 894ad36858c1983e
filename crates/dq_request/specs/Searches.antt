-- How words give a search its keys and its page, and the identifier that asks for them.
use Rattle.std.specs.Prelude.{◌≡◌, ◌≢◌, ◌⊎◌, ◌==◌, ◌<◌, ◌≤◌, ◌^◌, ◌&&◌, not, ℕ, Bool, true, false, IsTrue, if◌then◌else◌, List, [], ◌∷◌, ◌++◌, length, map, flat_map, filter, find, option_map, option_to_list, unwrap_or, codes, Option, Some, None}
use Rattle.std.specs.List.{position_or_len, before_first, after_first, slice_split, join_with_byte}
use Rattle.std.specs.Str.{is_utf8}
use Rattle.std.specs.Int.{w16, to_le_bytes}
use Rattle.std.specs.Str.Parse.{IsNumeral, digits_value, without_leading_plus}
use Rattle.percent_encoding.specs.Percent.{percent_decode}
use Rattle.dq_vr.specs.declared.Tag.{Tag}
use Rattle.dq_vr.specs.declared.Vr.{Vr}
use Rattle.dq_vr.specs.declared.Vr.TheVariants.{LO, PN, SH, UC, UI, US}
use Rattle.dq_vr.specs.declared.tags.TheConstants.{SPECIFIC_CHARACTER_SET, QUERY_RETRIEVE_LEVEL, SCHEDULED_PROCEDURE_STEP_SEQUENCE}
use Rattle.dq_vr.specs.Vr.{is_text}
use Rattle.dq_vr.specs.Dictionary.{Entry, dictionary, known_vr}
use Rattle.dq_json.specs.Keywords.{tag_named}
use Rattle.dq_json.specs.Spellings.{spellings}
use Rattle.dq_dataset.specs.Tree.{ElementList}
use Rattle.dq_dataset.specs.Facts.{AreElements}
use Rattle.dq_dataset.specs.Rules.{is_sequence, padded_value}
use Rattle.dq_dataset.specs.View.{as_elements}
use Rattle.dq_dataset.specs.declared.data_set.Element.{Element}
use Rattle.dq_dataset.specs.declared.data_set.Value.{Value}
use Rattle.dq_dataset.specs.declared.data_set.Value.TheVariants.{Octets, Items}
use Rattle.dq_request.specs.declared.search.Key.{Key}
use Rattle.dq_request.specs.declared.search.Search.{Search}
use Rattle.dq_request.specs.declared.search.Subject.{Subject}
use Rattle.dq_request.specs.declared.search.Subject.TheVariants.{Studies, Series, Images, StudyImages, Worklist, Steps}

-- ---- words

-- the most octets of a value (PS3.5 section 7.1.2)
abbrev pub value_most : ℕ
value_most = 65534

-- a decimal number below a bound, where a plus may stand first
abbrev pub IsNumber : ℕ → List ℕ → ℕ → Type 0
IsNumber bound text number = IsNumeral 10 (without_leading_plus text)
    × (digits_value 10 (without_leading_plus text) ≡ number) × (number < bound)

-- A text gives an attribute of a VR a value: of an unsigned short its number; of UIDs their octets, with a comma or a
-- backslash between two (PS3.18 section 8.3.4.1); of text the octets, with %XX for one of them (RFC 3986 section 2.1),
-- in each of their spellings where records may be in several character sets. An empty text gives any attribute the
-- empty value.
abbrev pub SpellsShort : List ℕ → List ℕ → Type 0
SpellsShort text value = (number : ℕ) × IsNumber (2 ^ 16) text number × (value ≡ to_le_bytes w16 number)

abbrev pub SpellsOctets : List ℕ → List ℕ → Type 0
SpellsOctets text value = (value ≡ percent_decode text) × (length (percent_decode text) ≤ value_most)

abbrev pub uid_octet : ℕ → ℕ
uid_octet octet = if octet == 44 then 92 else octet

abbrev pub SpellsUids : List ℕ → List ℕ → Type 0
SpellsUids text value = (value ≡ map uid_octet (percent_decode text)) × (length (percent_decode text) ≤ value_most)

-- text of these VRs is in the set that Specific Character Set names, and may have several values (PS3.5 section 6.1.2.2
-- and table 6.2-1)
abbrev pub has_spellings : Vr → Bool
has_spellings LO = true
has_spellings PN = true
has_spellings SH = true
has_spellings UC = true
has_spellings vr = false

abbrev pub backslash : ℕ
backslash = 92

abbrev pub is_backslash : ℕ → Bool
is_backslash octet = octet == backslash

-- the values of text, each in each of its spellings, with a backslash between two (PS3.5 section 6.4)
abbrev pub all_spellings : List ℕ → List (List ℕ)
all_spellings text = flat_map spellings (slice_split is_backslash text)

-- Octets that are not UTF-8 are as they were given.
unfoldable pub in_spellings : List ℕ → List ℕ
in_spellings octets = if is_utf8 octets then join_with_byte backslash (all_spellings octets) else octets

abbrev pub SpellsText : List ℕ → List ℕ → Type 0
SpellsText text value = (value ≡ in_spellings (percent_decode text)) × (length (percent_decode text) ≤ value_most)

abbrev pub GivesValue : Vr → List ℕ → List ℕ → Type 0
GivesValue vr text value = ((vr ≡ US) × (text ≢ []) × SpellsShort text value)
    ⊎ (((vr ≡ UI) × SpellsUids text value)
    ⊎ (((has_spellings vr ≡ true) × SpellsText text value)
    ⊎ ((vr ≢ UI) × (has_spellings vr ≡ false) × ((is_text vr ≡ true) ⊎ (text ≡ [])) × SpellsOctets text value)))

-- a name of PS3.6 chapter 6, or eight digits of a tag, and a text give this key
abbrev pub GivesKey : List ℕ → List ℕ → Key → Type 0
GivesKey name text key = (vr : Vr) × (tag_named name ≡ Some key.tag) × (known_vr key.tag ≡ Some vr)
    × GivesValue vr text key.value

-- a word is a name, the first equals sign and a text
abbrev pub is_equals : ℕ → Bool
is_equals octet = octet == 61

abbrev pub HasEquals : List ℕ → Type 0
HasEquals word = position_or_len is_equals word < length word

abbrev pub name_in : List ℕ → List ℕ
name_in word = before_first is_equals word

abbrev pub text_in : List ℕ → List ℕ
text_in word = after_first is_equals word

-- a text says how many are shown
abbrev pub TakesLimit : List ℕ → Search → Search → Type 0
TakesLimit text old new = (number : ℕ) × IsNumber (2 ^ 64) text number
    × (new ≡ record old { page = record { offset = old.page.offset; limit = number } })

-- a text says how many are passed over
abbrev pub TakesOffset : List ℕ → Search → Search → Type 0
TakesOffset text old new = (number : ℕ) × IsNumber (2 ^ 64) text number
    × (new ≡ record old { page = record { offset = number; limit = old.page.limit } })

-- a page of a search may begin after a unique key (PS3.4 section C.6.2.1): one of studies, series or images of a series
abbrev pub pages_by_key : Subject → Bool
pages_by_key Studies = true
pages_by_key Series = true
pages_by_key Images = true
pages_by_key subject = false

-- A text says, in octets, the unique key after which the page begins. A later one takes the place of an earlier.
abbrev pub TakesAfter : List ℕ → Search → Search → Type 0
TakesAfter text old new = IsTrue (pages_by_key old.subject) × (length (percent_decode text) ≤ value_most)
    × (new ≡ record old { after = Some (percent_decode text) })

-- there is a key more, behind the others
abbrev pub with_key : Key → Search → Search
with_key key search = record search { keys = search.keys ++ key ∷ [] }

-- A name and a text give a key more. Steps are not searched by keys.
abbrev pub TakesKey : List ℕ → List ℕ → Search → Search → Type 0
TakesKey name text old new = (old.subject ≢ Steps)
    × ((key : Key) × GivesKey name text key × (new ≡ with_key key old))

-- a name and a text are taken: what the page shows, or a key
abbrev pub TakesNamed : List ℕ → List ℕ → Search → Search → Type 0
TakesNamed name text old new = ((name ≡ codes "limit") × TakesLimit text old new)
    ⊎ (((name ≡ codes "offset") × TakesOffset text old new)
    ⊎ (((name ≡ codes "after") × TakesAfter text old new)
    ⊎ ((name ≢ codes "limit") × (name ≢ codes "offset") × (name ≢ codes "after") × TakesKey name text old new)))

-- a word NAME=TEXT is taken
abbrev pub TakesWord : List ℕ → Search → Search → Type 0
TakesWord word old new = HasEquals word × TakesNamed (name_in word) (text_in word) old new

-- no search comes of a word
abbrev pub RefusesWord : List ℕ → Search → Type 0
RefusesWord word old = (new : Search) → TakesWord word old new → ⊥

-- each of these words is taken, one after the other
abbrev pub TakesWords : List (List ℕ) → Search → Search → Type 0
TakesWords [] old new = new ≡ old
TakesWords (word ∷ words) old new = (next : Search) × TakesWord word old next × TakesWords words next new

-- of these words this is the first that is not taken
abbrev pub StopsAt : List ℕ → List (List ℕ) → Search → Type 0
StopsAt word [] old = ⊥
StopsAt word (first ∷ words) old = ((first ≡ word) × RefusesWord word old)
    ⊎ ((next : Search) × TakesWord first old next × StopsAt word words next)

-- a text in a path gives the value of an attribute (RFC 3986 section 3.3)
abbrev pub GivesOctets : List ℕ → Tag → Search → Search → Type 0
GivesOctets text tag old new = (length (percent_decode text) ≤ value_most)
    × (new ≡ with_key (record { tag = tag; value = percent_decode text }) old)

-- ---- the identifier

abbrev pub is_tag : Tag → Tag → Bool
is_tag tag other = (other.group == tag.group) && (other.element == tag.element)

abbrev pub is_of_tag : Tag → Key → Bool
is_of_tag tag key = is_tag tag key.tag

abbrev pub value_of : Key → List ℕ
value_of key = key.value

-- the value of the first key of a tag; an attribute without a key is asked for, and matched by anything
-- (PS3.4 section C.2.2.2.3)
abbrev pub value_in : List Key → Tag → List ℕ
value_in keys tag = unwrap_or (option_map value_of (find (is_of_tag tag) keys)) []

-- the Query/Retrieve Level of a search (PS3.4 section C.6.2.1), where it has one
abbrev pub level_of : Subject → List ℕ
level_of Studies = codes "STUDY"
level_of Series = codes "SERIES"
level_of Images = codes "IMAGE"
level_of StudyImages = codes "IMAGE"
level_of Worklist = []
level_of Steps = []

-- the octets of an attribute in an identifier, before they are padded: the level, or those of its key
abbrev pub asked_octets : List ℕ → List Key → Tag → List ℕ
asked_octets level keys tag = if is_tag QUERY_RETRIEVE_LEVEL tag then level else value_in keys tag

-- the items of a sequence in an identifier
abbrev pub asked_items : Option ElementList → Tag → List ElementList
asked_items step tag = if is_tag SCHEDULED_PROCEDURE_STEP_SEQUENCE tag then option_to_list step else []

abbrev pub asked_value : List ℕ → Option ElementList → List Key → Entry → Value
asked_value level step keys entry = if is_sequence (Some entry.1) then Items (asked_items step entry.0)
    else Octets (padded_value entry.1 (asked_octets level keys entry.0))

-- an attribute of the dictionary, as it is asked for
abbrev pub asked_element : List ℕ → Option ElementList → List Key → Entry → Element
asked_element level step keys entry =
    record { tag = entry.0; vr = entry.1; value = asked_value level step keys entry }

-- what is asked for: each attribute of the dictionary but the character set, in which nothing is spelled
abbrev pub is_asked : Entry → Bool
is_asked entry = not (is_tag SPECIFIC_CHARACTER_SET entry.0)

-- an attribute that keys match: it is no sequence, and neither the character set nor the level
abbrev pub IsMatched : Entry → Type 0
IsMatched entry = (is_asked entry ≡ true) × (is_sequence (Some entry.1) ≡ false)
    × (is_tag QUERY_RETRIEVE_LEVEL entry.0 ≡ false)

-- with the value of its key
abbrev pub matched_element : List Key → Entry → Element
matched_element keys entry = record {
  tag = entry.0;
  vr = entry.1;
  value = Octets (padded_value entry.1 (value_in keys entry.0));
}

abbrev pub asked_elements : List ℕ → Option ElementList → List Key → List Entry → List Element
asked_elements level step keys entries = map (asked_element level step keys) (filter is_asked entries)

abbrev pub asked_identifier : List ℕ → Option ElementList → List Key → ElementList
asked_identifier level step keys = as_elements (asked_elements level step keys dictionary)

-- a data set that may be an item of another, since sequences nest at most 16 deep
abbrev pub IsItem : ElementList → Type 0
IsItem step = AreElements 15 None step

-- The identifier of a search: of the Study Root model at its level (PS3.4 section C.6.2.1), or of the
-- worklist, where the item of a sequence has the keys of the scheduled procedure step (PS3.4 section
-- K.6.1.2).
abbrev pub identifier_of : Subject → List Key → ElementList
identifier_of Worklist keys = asked_identifier [] (Some (asked_identifier [] None keys)) keys
identifier_of subject keys = asked_identifier (level_of subject) None keys
