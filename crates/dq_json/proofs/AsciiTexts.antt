-- ASCII has one spelling.
use Rattle.std.proofs.Common.{◌≡◌, ℕ, zero, suc, ◌<◌, ◌||◌, Bool, true, false, arith, List, [], ◌∷◌, ◌++◌, Option, Some, refl, ap, ◌∙◌, if◌then◌else◌}
use Rattle.std.specs.List.{AllByRecursion, list_any, fold}
use Rattle.std.specs.Str.{IsAscii, bytes_eq}
use Rattle.std.proofs.lemmas.Slice.Eq.{bytes_eq-Decides}
use Rattle.std.proofs.lemmas.Str.{chars-IsAscii}
use Rattle.dq_json.specs.declared.code_tables.CodeTable.{CodeTable}
use Rattle.dq_json.specs.declared.code_tables.TheConstants.{CODE_TABLES}
use Rattle.dq_json.specs.Spellings.{onto, octets_in, with_new, with_spelling, spellings}
use Rattle.dq_json.proofs.Characters.{low_octet}

abbrev pub AreLow : List ℕ → Type 0
AreLow octets = AllByRecursion (λ octet. octet < 128) octets

low_octets : (table : CodeTable) (octets : List ℕ) → AreLow octets → octets_in table octets ≡ Some octets
low_octets table [] low = refl
low_octets table (octet ∷ octets) low =
    ap (λ (o : Option ℕ). onto o (octets_in table octets)) (low_octet table octet low.0)
    ∙ ap (λ (others : Option (List ℕ)). onto (Some octet) others) (low_octets table octets low.1)

same_by : (b : Bool) (text : List ℕ) → b ≡ true → (if b then text ∷ [] else (text ∷ []) ++ text ∷ []) ≡ text ∷ []
same_by b text is = rw is refl

or_true : (b other : Bool) → b ≡ true → (b || other) ≡ true
or_true b other is = rw is refl

same_again : (text : List ℕ) → with_new (text ∷ []) (Some text) ≡ text ∷ []
same_again text =
    same_by (list_any (λ it. bytes_eq it text) (text ∷ [])) text (or_true (bytes_eq text text) false ((bytes_eq-Decides text text).1 refl))

same_in_all : (text : List ℕ) (tables : List CodeTable) → AreLow text → fold (with_spelling text) (text ∷ []) tables ≡ text ∷ []
same_in_all text [] low = refl
same_in_all text (table ∷ tables) low =
    ap (λ (found : List (List ℕ)). fold (with_spelling text) found tables)
    (ap (with_new (text ∷ [])) (low_octets table text low) ∙ same_again text)
    ∙ same_in_all text tables low

low_ascii : (text : List ℕ) → AreLow text → IsAscii text
low_ascii [] low i = omega arith
low_ascii (octet ∷ octets) low zero = low.0
low_ascii (octet ∷ octets) low (suc i) = low_ascii octets low.1 i

pub ascii_spelled : (text : List ℕ) → AreLow text → spellings text ≡ text ∷ []
unfolding spellings
ascii_spelled text low =
    ap (λ (characters : List ℕ). fold (with_spelling characters) (text ∷ []) CODE_TABLES) (chars-IsAscii text (low_ascii text low))
    ∙ same_in_all text CODE_TABLES low
