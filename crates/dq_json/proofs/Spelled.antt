-- The octets of characters in a set, one after the other, and the sets, one after the other.
use Rattle.std.proofs.Common.{◌≡◌, ℕ, Bool, true, false, List, [], ◌∷◌, ◌++◌, Option, Some, None, sym, ap, ◌∙◌, if◌then◌else◌}
use Rattle.std.specs.List.{list_any}
use Rattle.std.specs.Str.{bytes_eq}
use Rattle.dq_json.specs.Spellings.{with_new}

-- the octets so far, and those of the other characters
abbrev pub behind : List ℕ → Option (List ℕ) → Option (List ℕ)
behind octets None = None
behind octets (Some others) = Some (octets ++ others)

-- ---- one set more

module _ (b : Bool) (found seen : List (List ℕ)) (octets lent : List ℕ) (more : Option (List ℕ)) (is : more ≡ Some octets)
    (has : b ≡ list_any (λ it. bytes_eq it lent) seen) (same_list : seen ≡ found) (same : lent ≡ octets) where
  of_found : list_any (λ it. bytes_eq it octets) found ≡ b
  of_found =
      ap (λ (x : List ℕ). list_any (λ it. bytes_eq it x) found) (sym same)
      ∙ (ap (list_any (λ it. bytes_eq it lent)) (sym same_list) ∙ sym has)

  with_more : with_new found more ≡ (if b then found else found ++ octets ∷ [])
  with_more = ap (with_new found) is ∙ ap (λ (t : Bool). if t then found else found ++ octets ∷ []) of_found

  -- its octets are there
  pub spelled_there : b ≡ true → found ≡ with_new found more
  spelled_there there = sym (with_more ∙ ap (λ (t : Bool). if t then found else found ++ octets ∷ []) there)

  -- they are new
  pub spelled_new : (new : List (List ℕ)) → b ≡ false → new ≡ found ++ octets ∷ [] → new ≡ with_new found more
  spelled_new new none adds = adds ∙ sym (with_more ∙ ap (λ (t : Bool). if t then found else found ++ octets ∷ []) none)
