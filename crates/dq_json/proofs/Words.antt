-- The first entry with a word.
use Rattle.std.proofs.Common.{◌≡◌, ℕ, ◌+◌, ◌<◌, ◌≤◌, List, [], ◌∷◌, true, false, length, get_or, drop, map, Some, None, nat_eq, refl, ap, ◌∙◌, drop-cons, add-one, if◌then◌else◌}
use Rattle.std.specs.Cmp.Lexicographic.{pointwise}
use Rattle.std.proofs.lemmas.List.{drop_all}
use denote.Bor.{Bor}
use Rattle.dq_vr.specs.declared.Tag.{Tag}
use Rattle.dq_json.specs.Keywords.{tag_among}

abbrev pub Entry : Type 0
Entry = Bor (List ℕ) × Tag

abbrev pub told : Entry → List ℕ × Tag
told entry = (entry.0.now, entry.1)

first_told : (e : Entry) (es : List Entry) (word : List ℕ)
    → tag_among (map told (e ∷ es)) word ≡ (if pointwise nat_eq e.0.now word then Some e.1 else tag_among (map told es) word)
unfolding tag_among
first_told e es word = refl

module _ (entries : List Entry) (word : List ℕ) (i : ℕ) (d : Entry) (lt : i < length entries) where
  parts : drop i entries ≡ get_or entries i d ∷ drop (i + 1) entries
  parts = rw add-one (drop-cons entries i d lt)

  here : tag_among (map told (drop i entries)) word
      ≡ (if pointwise nat_eq (get_or entries i d).0.now word then Some (get_or entries i d).1 else tag_among (map told (drop (i + 1) entries)) word)
  here = ap (λ (es : List Entry). tag_among (map told es) word) parts ∙ first_told (get_or entries i d) (drop (i + 1) entries) word

  pub entry_found : pointwise nat_eq (get_or entries i d).0.now word ≡ true → tag_among (map told (drop i entries)) word ≡ Some (get_or entries i d).1
  entry_found is = here ∙ rw is refl

  pub entry_passed : pointwise nat_eq (get_or entries i d).0.now word ≡ false
      → tag_among (map told (drop i entries)) word ≡ tag_among (map told (drop (i + 1) entries)) word
  entry_passed is = here ∙ rw is refl

no_entries : (word : List ℕ) → tag_among [] word ≡ None
unfolding tag_among
no_entries word = refl

pub entries_ended : (entries : List Entry) (word : List ℕ) (i : ℕ) → length entries ≤ i → tag_among (map told (drop i entries)) word ≡ None
entries_ended entries word i le = rw (drop_all i entries le) (no_entries word)
