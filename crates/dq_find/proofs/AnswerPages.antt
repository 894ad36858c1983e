-- Answers that are given one after another, and in pages.
use Rattle.std.proofs.Common.{◌≡◌, ℕ, zero, suc, ◌<◌, ◌≤◌, ◌+◌, ◌*◌, List, [], ◌∷◌, ◌++◌, length, take, drop, refl, sym, ◌∙◌, ap, append_assoc, inl, inr, mul-suc, arith}
use Rattle.std.specs.List.{flat_map}
use Rattle.std.proofs.lemmas.Bool.{cases_lt}
use Rattle.std.proofs.lemmas.List.{nil_from_length, append-nil, length-append}
use Rattle.dq_dataset.specs.Tree.{ElementList}
use Rattle.dq_match.specs.declared.responses.Found.{Found}
use Rattle.dq_find.specs.Pages.{HasGiven, GivesInTurn, IsPage, ArePages}

none_given : (before left : Found) → left ≡ before → HasGiven before [] left
none_given before left e = grind arith

-- some answers and then others are both together
pub given_then : (before between left : Found) (some others : List ElementList) → HasGiven before some between → HasGiven between others left
    → HasGiven before (some ++ others) left
given_then before between left some others one two = grind (arith, append_assoc)

pub given_in_turn : (before left : Found) (given : List ElementList) → GivesInTurn before given left → HasGiven before given left
given_in_turn before left [] e = none_given before left e
given_in_turn before left (answer ∷ others) (between, one, rest) =
    given_then before between left (answer ∷ []) others one (given_in_turn between left others rest)

pub given_in_pages : (most : ℕ) (before left : Found) (pages : List (List ElementList)) → ArePages most before pages left
    → HasGiven before (flat_map (λ page. page) pages) left
given_in_pages most before left [] e = none_given before left e
given_in_pages most before left (page ∷ others) (between, one, rest) =
    given_then before between left page (flat_map (λ page. page) others) one.given (given_in_pages most between left others rest)

pub given_whole : (before left : Found) (given : List ElementList) → HasGiven before given left → left.answers ≡ [] → given ≡ before.answers
given_whole before left given h none = sym (h.answers ∙ ap (λ l. given ++ l) none ∙ append-nil given)

-- a list that is cut behind so many items, or behind all
cut : {A : Type 0} (most : ℕ) (page rest : List A) → length page ≤ most → (length page < most → rest ≡ [])
    → (page ≡ take most (page ++ rest)) × (rest ≡ drop most (page ++ rest))
cut zero [] rest few full = (refl, refl)
cut (suc most) [] rest few full = rw (full (omega arith)) (refl, refl)
cut zero (x ∷ page) rest few full = absurd (omega arith)
cut (suc most) (x ∷ page) rest few full =
    let both = cut most page rest (omega arith) (λ short. full (omega arith)) in
    (ap (λ l. x ∷ l) both.0, both.1)

pub page_is : (most : ℕ) (before left : Found) (page : List ElementList) → IsPage most before page left
    → (page ≡ take most before.answers) × (left.answers ≡ drop most before.answers)
page_is most before left page is = rw is.given.answers (cut most page left.answers is.few is.full)

-- after as many pages as it takes
pub pages_end : (most : ℕ) (before left : Found) (pages : List (List ElementList)) → ArePages most before pages left
    → length before.answers ≤ most * length pages → left.answers ≡ []
pages_end most before left [] e few = ap (λ (f : Found). f.answers) e ∙ nil_from_length before.answers (omega arith)
pages_end most before left (page ∷ others) (between, one, rest) few =
    let both : length before.answers ≡ length page + length between.answers = ap length one.given.answers ∙ length-append page between.answers in
    let more : most * suc (length others) ≡ most * length others + most = mul-suc most (length others) in
    elim (cases_lt (length page) most) [
      | inl short ↦ pages_end most between left others rest (let none : length between.answers ≡ 0 = ap length (one.full short) in omega arith)
      | inr whole ↦ pages_end most between left others rest (omega arith)
    ]
