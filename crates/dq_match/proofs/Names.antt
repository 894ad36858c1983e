-- Names are met whatever their case, and whatever pads are at their end.
use Rattle.std.proofs.Common.{◌≡◌, ℕ, Bool, true, cond, nat_eq, ◌||◌, ◌&&◌, List, [], ◌∷◌, ◌++◌, map, refl, ap, ◌∙◌}
use Rattle.std.specs.Char.{to_ascii_lowercase}
use Rattle.dq_match.specs.declared.wildcards.Casing.TheVariants.{Folded}
use Rattle.dq_match.specs.declared.values.Matching.TheVariants.{Name}
use Rattle.dq_match.specs.Wildcards.{wild, after_run, after_one, stands_for, any_run, any_one}
use Rattle.dq_match.specs.Values.{is_name_pad, compared_name, value_meets}
use Rattle.dq_match.proofs.NamePads.{without_trailing-push}

abbrev lowered : List ℕ → List ℕ
lowered octets = map to_ascii_lowercase octets

first_same : (x y : ℕ) (xs ys : List ℕ) → lowered (x ∷ xs) ≡ lowered (y ∷ ys) → to_ascii_lowercase x ≡ to_ascii_lowercase y
first_same x y xs ys h = cc

rest_same : (x y : ℕ) (xs ys : List ℕ) → lowered (x ∷ xs) ≡ lowered (y ∷ ys) → lowered xs ≡ lowered ys
rest_same x y xs ys h = cc

abbrev Alike : (List ℕ → Bool) → Type 0
Alike test = (a b : List ℕ) → lowered a ≡ lowered b → test a ≡ test b

run_alike : (test : List ℕ → Bool) → Alike test → (a b : List ℕ) → lowered a ≡ lowered b → after_run test a ≡ after_run test b
run_alike test alike [] [] h = refl
run_alike test alike [] (y ∷ ys) h = absurd cc
run_alike test alike (x ∷ xs) [] h = absurd cc
run_alike test alike (x ∷ xs) (y ∷ ys) h = λ i. alike (x ∷ xs) (y ∷ ys) h i || run_alike test alike xs ys (rest_same x y xs ys h) i

one_alike : (wanted : ℕ) (test : List ℕ → Bool) → Alike test → (a b : List ℕ) → lowered a ≡ lowered b
    → after_one (stands_for Folded wanted) test a ≡ after_one (stands_for Folded wanted) test b
one_alike wanted test alike [] [] h = refl
one_alike wanted test alike [] (y ∷ ys) h = absurd cc
one_alike wanted test alike (x ∷ xs) [] h = absurd cc
one_alike wanted test alike (x ∷ xs) (y ∷ ys) h =
    λ i. (nat_eq wanted any_one || nat_eq (to_ascii_lowercase wanted) (first_same x y xs ys h i)) && alike xs ys (rest_same x y xs ys h) i

wild_alike : (pattern : List ℕ) → Alike (wild Folded pattern)
wild_alike [] [] [] h = refl
wild_alike [] [] (y ∷ ys) h = absurd cc
wild_alike [] (x ∷ xs) [] h = absurd cc
wild_alike [] (x ∷ xs) (y ∷ ys) h = refl
wild_alike (wanted ∷ pattern) a b h =
    λ i. cond (nat_eq wanted any_run) (run_alike (wild Folded pattern) (wild_alike pattern) a b h i)
    (one_alike wanted (wild Folded pattern) (wild_alike pattern) a b h i)

pub name_case : (key value other : List ℕ) → map to_ascii_lowercase (compared_name value) ≡ map to_ascii_lowercase (compared_name other)
    → value_meets Name key value ≡ value_meets Name key other
name_case key value other h = wild_alike (compared_name key) (compared_name value) (compared_name other) h

pub name_pad : (key value : List ℕ) (pad : ℕ) → is_name_pad pad ≡ true → value_meets Name key (value ++ pad ∷ []) ≡ value_meets Name key value
name_pad key value pad h =
    ap (wild Folded (compared_name key)) (without_trailing-push is_name_pad pad value ∙ ap (λ (b : Bool). cond b (compared_name value) (value ++ pad ∷ [])) h)
