-- The values of a key in each of their spellings, behind backslashes and between them.
use Rattle.std.proofs.Common.{◌≡◌, ℕ, suc, ◌<◌, Bool, true, false, cond, List, [], ◌∷◌, ◌++◌, length, drop, flat_map, refl, sym, ap, ◌∙◌, if◌then◌else◌}
use Rattle.std.specs.List.{AllByRecursion, join_with_byte, onto_first, slice_split}
use Rattle.std.specs.Str.{IsAscii, IsUtf8, is_utf8}
use Rattle.std.proofs.lemmas.List.{append-nil, nil_from_length}
use Rattle.std.proofs.lemmas.List.Concat.{flat_map-append}
use Rattle.std.proofs.lemmas.List.Splits.{join_with_byte-slice_split}
use Rattle.std.proofs.lemmas.Str.{IsUtf8-from_ascii, IsUtf8-from_is_utf8, is_utf8-from_IsUtf8}
use borrow.Author.Tests.{clash}
use Rattle.dq_json.specs.Spellings.{spellings}
use Rattle.dq_request.specs.Searches.{backslash, is_backslash, all_spellings, in_spellings}
use Rattle.dq_json.proofs.AsciiTexts.{AreLow, ascii_spelled}

-- each behind a backslash
abbrev pub parted : List (List ℕ) → List ℕ
parted values = flat_map (λ value. backslash ∷ value) values

pub one_more : (values : List (List ℕ)) (value : List ℕ)
    → parted (flat_map spellings (values ++ value ∷ [])) ≡ parted (flat_map spellings values) ++ parted (spellings value)
one_more values value =
    ap parted (flat_map-append spellings values (value ∷ []) ∙ ap (λ (more : List (List ℕ)). flat_map spellings values ++ more) (append-nil (spellings value)))
    ∙ flat_map-append (λ (one : List ℕ). backslash ∷ one) (flat_map spellings values) (spellings value)

pub parted_joined : (values : List (List ℕ)) → drop 1 (parted values) ≡ join_with_byte backslash values
parted_joined [] = refl
parted_joined (first ∷ []) = append-nil first
parted_joined (first ∷ second ∷ others) = ap (λ (rest : List ℕ). first ++ backslash ∷ rest) (parted_joined (second ∷ others))

-- behind the first backslash
pub others_joined : (octets others : List ℕ) (first : ℕ) (values : List (List ℕ)) → octets ≡ parted values → octets ≡ first ∷ others
    → others ≡ join_with_byte backslash values
others_joined octets others first values are is = ap (drop 1) (sym is ∙ are) ∙ parted_joined values

pub none_joined : (octets : List ℕ) (values : List (List ℕ)) → octets ≡ parted values → length octets ≡ 0
    → [] ≡ join_with_byte backslash values
none_joined octets values are none = ap (drop 1) (sym (nil_from_length octets none) ∙ are) ∙ parted_joined values

-- octets that are UTF-8, and others
text_by : (b : Bool) (octets : List ℕ) → is_utf8 octets ≡ b → IsUtf8 octets
    → (if b then join_with_byte backslash (all_spellings octets) else octets) ≡ join_with_byte backslash (all_spellings octets)
text_by true octets is utf8 = refl
text_by false octets is utf8 = absurd (clash (sym is ∙ is_utf8-from_IsUtf8 octets utf8))

other_by : (b : Bool) (octets : List ℕ) → is_utf8 octets ≡ b → (IsUtf8 octets → ⊥)
    → (if b then join_with_byte backslash (all_spellings octets) else octets) ≡ octets
other_by true octets is other = absurd (other (IsUtf8-from_is_utf8 octets is))
other_by false octets is other = refl

pub of_text : (octets : List ℕ) → IsUtf8 octets → in_spellings octets ≡ join_with_byte backslash (all_spellings octets)
unfolding in_spellings
of_text octets utf8 = text_by (is_utf8 octets) octets refl utf8

pub of_others : (octets : List ℕ) → (IsUtf8 octets → ⊥) → in_spellings octets ≡ octets
unfolding in_spellings
of_others octets other = other_by (is_utf8 octets) octets refl other

-- ---- a key of ASCII

low_from : (octets : List ℕ) → IsAscii octets → AreLow octets
low_from [] ascii = tt
low_from (octet ∷ octets) ascii = (ascii 0, low_from octets (λ i. ascii (suc i)))

onto_low : (octet : ℕ) (pieces : List (List ℕ)) → octet < 128 → AllByRecursion AreLow pieces → AllByRecursion AreLow (onto_first octet pieces)
onto_low octet [] low all = ((low, tt), tt)
onto_low octet (piece ∷ pieces) low all = ((low, all.0), all.1)

split_by : (b : Bool) (octet : ℕ) (pieces : List (List ℕ)) → octet < 128 → AllByRecursion AreLow pieces
    → AllByRecursion AreLow (cond b ([] ∷ pieces) (onto_first octet pieces))
split_by true octet pieces low all = (tt, all)
split_by false octet pieces low all = onto_low octet pieces low all

split_low : (octets : List ℕ) → AreLow octets → AllByRecursion AreLow (slice_split is_backslash octets)
split_low [] low = (tt, tt)
split_low (octet ∷ octets) low = split_by (is_backslash octet) octet (slice_split is_backslash octets) low.0 (split_low octets low.1)

each_once : (values : List (List ℕ)) → AllByRecursion AreLow values → flat_map spellings values ≡ values
each_once [] all = refl
each_once (value ∷ values) all =
    ap (λ (found : List (List ℕ)). found ++ flat_map spellings values) (ascii_spelled value all.0)
    ∙ ap (λ (others : List (List ℕ)). value ∷ others) (each_once values all.1)

pub as_given : (octets : List ℕ) → IsAscii octets → in_spellings octets ≡ octets
as_given octets ascii =
    of_text octets (IsUtf8-from_ascii octets ascii)
    ∙ (ap (join_with_byte backslash) (each_once (slice_split is_backslash octets) (split_low octets (low_from octets ascii)))
    ∙ join_with_byte-slice_split backslash octets)
