-- The spellings of a text are the octets that are shown as it.
use Rattle.std.proofs.Common.{◌≡◌, ℕ, Bool, true, false, ◌||◌, List, [], ◌∷◌, ◌++◌, map, flat_map, Option, Some, None, refl, sym, ap, subst, ◌∙◌, ◌⊎◌, inl, inr, encode_utf8, if◌then◌else◌}
use Rattle.std.specs.List.{list_any, fold}
use Rattle.std.specs.Str.{IsUtf8, bytes_eq, chars, encode_utf8_all, all_scalars}
use Rattle.std.proofs.lemmas.Option.{none-some}
use Rattle.std.proofs.lemmas.Slice.Eq.{bytes_eq-Decides}
use Rattle.std.proofs.lemmas.Str.{encodes-chars, chars-encodes}
use Rattle.dq_list.specs.Among.{IsAmong}
use Rattle.dq_json.specs.declared.code_tables.CodeTable.{CodeTable}
use Rattle.dq_json.specs.declared.code_tables.CodeTable.TheVariants.{Latin1, Latin2, Latin3, Latin4, Latin5, Cyrillic, Arabic, Greek, Hebrew, Thai}
use Rattle.dq_json.specs.declared.code_tables.TheConstants.{CODE_TABLES}
use Rattle.dq_json.specs.declared.text.Repertoire.TheVariants.{OneOctet}
use Rattle.dq_json.specs.Text.{character_in, text_in}
use Rattle.dq_json.specs.Spellings.{octet_in, onto, octets_in, with_new, with_spelling, spellings, HaveCharacters}
use Rattle.dq_json.proofs.Characters.{octet_stands, own_octet, octet_scalar}

-- ---- a text in one set

abbrev shown : CodeTable → List ℕ → List ℕ
shown table octets = flat_map (λ octet. encode_utf8 (character_in table octet)) octets

onto_some : (octet : Option ℕ) (others : Option (List ℕ)) (all : List ℕ) → onto octet others ≡ Some all
    → (o : ℕ) × (os : List ℕ) × (octet ≡ Some o) × (others ≡ Some os) × (all ≡ o ∷ os)
onto_some None others all is = absurd (none-some all is)
onto_some (Some o) None all is = absurd (none-some all is)
onto_some (Some o) (Some os) all is = (o, os, refl, refl, cc)

spelled_back : (table : CodeTable) (characters octets : List ℕ) → octets_in table characters ≡ Some octets
    → shown table octets ≡ encode_utf8_all characters
spelled_back table [] octets is = let none : octets ≡ [] = cc in ap (shown table) none
spelled_back table (c ∷ cs) octets is =
    let parts = onto_some (octet_in table c) (octets_in table cs) octets is in
    ap (shown table) parts.4
    ∙ (ap (λ (x : ℕ). encode_utf8 x ++ shown table parts.1) (octet_stands table c parts.0 parts.2).1
    ∙ ap (λ (rest : List ℕ). encode_utf8 c ++ rest) (spelled_back table cs parts.1 parts.3))

-- what a set spells of a text is shown as the text
text_back : (table : CodeTable) (text octets : List ℕ) → IsUtf8 text → octets_in table (chars text) ≡ Some octets
    → text_in (OneOctet table) octets ≡ text
unfolding text_in
text_back table text octets utf8 is = spelled_back table (chars text) octets is ∙ encodes-chars text utf8

shown_encodes : (table : CodeTable) (octets : List ℕ) → shown table octets ≡ encode_utf8_all (map (character_in table) octets)
shown_encodes table [] = refl
shown_encodes table (octet ∷ octets) =
    ap (λ (rest : List ℕ). encode_utf8 (character_in table octet) ++ rest) (shown_encodes table octets)

shown_scalars : (table : CodeTable) (octets : List ℕ) → HaveCharacters table octets → all_scalars (map (character_in table) octets) ≡ true
shown_scalars table [] have = refl
shown_scalars table (octet ∷ octets) have = rw (octet_scalar table octet have.0.0) (shown_scalars table octets have.1)

spelled_again : (table : CodeTable) (octets : List ℕ) → HaveCharacters table octets
    → octets_in table (map (character_in table) octets) ≡ Some octets
spelled_again table [] have = refl
spelled_again table (octet ∷ octets) have =
    ap (λ (o : Option ℕ). onto o (octets_in table (map (character_in table) octets))) (own_octet table octet have.0.0 have.0.1)
    ∙ ap (λ (others : Option (List ℕ)). onto (Some octet) others) (spelled_again table octets have.1)

-- ---- the spellings, one after the other

or_cases : (a b : Bool) → (a || b) ≡ true → (a ≡ true) ⊎ (b ≡ true)
or_cases true b is = inl refl
or_cases false b is = inr is

among_any : (octets : List ℕ) (found : List (List ℕ)) → list_any (λ it. bytes_eq it octets) found ≡ true → IsAmong octets found
among_any octets [] is = cc
among_any octets (it ∷ others) is = elim (or_cases (bytes_eq it octets) (list_any (λ other. bytes_eq other octets) others) is) [
  | inl same ↦ inl ((bytes_eq-Decides it octets).0 same)
  | inr later ↦ inr (among_any octets others later)
]

among_left : (x : List ℕ) (xs ys : List (List ℕ)) → IsAmong x xs → IsAmong x (xs ++ ys)
among_left x [] ys among = absurd among
among_left x (y ∷ xs) ys (inl here) = inl here
among_left x (y ∷ xs) ys (inr later) = inr (among_left x xs ys later)

among_last : (x : List ℕ) (xs : List (List ℕ)) → IsAmong x (xs ++ x ∷ [])
among_last x [] = inl refl
among_last x (y ∷ xs) = inr (among_last x xs)

last_cases : (x y : List ℕ) (xs : List (List ℕ)) → IsAmong x (xs ++ y ∷ []) → IsAmong x xs ⊎ (y ≡ x)
last_cases x y [] (inl here) = inr here
last_cases x y [] (inr none) = absurd none
last_cases x y (z ∷ xs) (inl here) = inl (inl here)
last_cases x y (z ∷ xs) (inr later) = elim (last_cases x y xs later) [ inl before ↦ inl (inr before) | inr here ↦ inr here ]

kept_by : (b : Bool) (octets x : List ℕ) (found : List (List ℕ)) → IsAmong x found
    → IsAmong x (if b then found else found ++ octets ∷ [])
kept_by true octets x found among = among
kept_by false octets x found among = among_left x found (octets ∷ []) among

kept : (x : List ℕ) (found : List (List ℕ)) (more : Option (List ℕ)) → IsAmong x found → IsAmong x (with_new found more)
kept x found None among = among
kept x found (Some octets) among = kept_by (list_any (λ it. bytes_eq it octets) found) octets x found among

new_by : (b : Bool) (octets : List ℕ) (found : List (List ℕ)) → list_any (λ it. bytes_eq it octets) found ≡ b
    → IsAmong octets (if b then found else found ++ octets ∷ [])
new_by true octets found is = among_any octets found is
new_by false octets found is = among_last octets found

only_by : (b : Bool) (octets x : List ℕ) (found : List (List ℕ)) → IsAmong x (if b then found else found ++ octets ∷ [])
    → IsAmong x found ⊎ (octets ≡ x)
only_by true octets x found among = inl among
only_by false octets x found among = last_cases x octets found among

module _ (characters : List ℕ) where
  all_kept : (x : List ℕ) (found : List (List ℕ)) (tables : List CodeTable) → IsAmong x found
      → IsAmong x (fold (with_spelling characters) found tables)
  all_kept x found [] among = among
  all_kept x found (table ∷ tables) among =
      all_kept x (with_spelling characters found table) tables (kept x found (octets_in table characters) among)

  added : (table : CodeTable) (octets : List ℕ) (found : List (List ℕ)) → octets_in table characters ≡ Some octets
      → IsAmong octets (with_spelling characters found table)
  added table octets found is =
      subst (λ (more : Option (List ℕ)). IsAmong octets (with_new found more)) (sym is)
      (new_by (list_any (λ it. bytes_eq it octets) found) octets found refl)

  spelled : (table : CodeTable) (octets : List ℕ) (found : List (List ℕ)) (tables : List CodeTable) → IsAmong table tables
      → octets_in table characters ≡ Some octets → IsAmong octets (fold (with_spelling characters) found tables)
  spelled table octets found [] among is = absurd among
  spelled table octets found (next ∷ tables) (inl here) is =
      all_kept octets (with_spelling characters found next) tables
      (added next octets found (ap (λ (it : CodeTable). octets_in it characters) here ∙ is))
  spelled table octets found (next ∷ tables) (inr later) is =
      spelled table octets (with_spelling characters found next) tables later is

  one_by : (table : CodeTable) (x : List ℕ) (found : List (List ℕ)) (more : Option (List ℕ)) → octets_in table characters ≡ more
      → IsAmong x (with_new found more) → IsAmong x found ⊎ ((it : CodeTable) × (octets_in it characters ≡ Some x))
  one_by table x found None is among = inl among
  one_by table x found (Some octets) is among =
      elim (only_by (list_any (λ it. bytes_eq it octets) found) octets x found among) [
        | inl before ↦ inl before
        | inr same ↦ inr (table, is ∙ ap (λ (it : List ℕ). Some it) same)
      ]

  only : (x : List ℕ) (found : List (List ℕ)) (tables : List CodeTable) → IsAmong x (fold (with_spelling characters) found tables)
      → IsAmong x found ⊎ ((it : CodeTable) × (octets_in it characters ≡ Some x))
  only x found [] among = inl among
  only x found (table ∷ tables) among = elim (only x (with_spelling characters found table) tables among) [
    | inl before ↦ one_by table x found (octets_in table characters) refl before
    | inr later ↦ inr later
  ]

each_table : (table : CodeTable) → IsAmong table CODE_TABLES
each_table Latin1 = inl refl
each_table Latin2 = inr (inl refl)
each_table Latin3 = inr (inr (inl refl))
each_table Latin4 = inr (inr (inr (inl refl)))
each_table Latin5 = inr (inr (inr (inr (inl refl))))
each_table Cyrillic = inr (inr (inr (inr (inr (inl refl)))))
each_table Arabic = inr (inr (inr (inr (inr (inr (inl refl))))))
each_table Greek = inr (inr (inr (inr (inr (inr (inr (inl refl)))))))
each_table Hebrew = inr (inr (inr (inr (inr (inr (inr (inr (inl refl))))))))
each_table Thai = inr (inr (inr (inr (inr (inr (inr (inr (inr (inl refl)))))))))

-- ---- what is shown as a text

pub itself_spelled : (text : List ℕ) → IsAmong text (spellings text)
unfolding spellings
itself_spelled text = all_kept (chars text) text (text ∷ []) CODE_TABLES (inl refl)

pub set_spelled : (table : CodeTable) (octets : List ℕ) → HaveCharacters table octets
    → IsAmong octets (spellings (text_in (OneOctet table) octets))
unfolding spellings text_in
set_spelled table octets have =
    let characters : chars (shown table octets) ≡ map (character_in table) octets =
    ap chars (shown_encodes table octets) ∙ chars-encodes (map (character_in table) octets) (shown_scalars table octets have) in
    spelled (chars (shown table octets)) table octets (shown table octets ∷ []) CODE_TABLES (each_table table)
    (ap (octets_in table) characters ∙ spelled_again table octets have)

first_or_set : (text octets : List ℕ) → IsUtf8 text
    → IsAmong octets (text ∷ []) ⊎ ((table : CodeTable) × (octets_in table (chars text) ≡ Some octets))
    → (octets ≡ text) ⊎ ((table : CodeTable) × (text_in (OneOctet table) octets ≡ text))
first_or_set text octets utf8 (inl (inl here)) = inl (sym here)
first_or_set text octets utf8 (inl (inr none)) = absurd none
first_or_set text octets utf8 (inr (table, is)) = inr (table, text_back table text octets utf8 is)

pub spelled_shown : (text octets : List ℕ) → IsUtf8 text → IsAmong octets (spellings text)
    → (octets ≡ text) ⊎ ((table : CodeTable) × (text_in (OneOctet table) octets ≡ text))
unfolding spellings
spelled_shown text octets utf8 among = first_or_set text octets utf8 (only (chars text) octets (text ∷ []) CODE_TABLES among)
