-- The answers that a page shows.
use Rattle.std.proofs.Common.{◌≡◌, ◌+◌, ◌-◌, ◌<◌, ◌≤◌, ◌∙◌, ◌++◌, ℕ, nat_lt, false, List, [], ◌∷◌, length, drop, get_or, flat_map, ap, sym, refl, inl, inr, arith, length-append, append_assoc, append-nil}
use Rattle.std.proofs.lemmas.Bool.{cases_lt, ltb-false, or_parts}
use Rattle.std.proofs.lemmas.Bool.Decides.{nat_tests}
use Rattle.std.proofs.lemmas.Grind.{common_steps}
use Rattle.std.proofs.lemmas.List.{drop_more, drop-drop, drop_at, drop_all}
use Rattle.dq_dataset.specs.Tree.{ElementList}
use Rattle.dq_match.specs.declared.shown_page.ShownPage.{ShownPage}
use Rattle.dq_match.specs.ShownPages.{shown_page, is_filled}
use Rattle.dq_web.specs.Answers.{json_text, behind_comma, array_text, longest_array, fitting, shown_answers, found_reply, GoesOn}
use Rattle.dq_web.specs.declared.parsed_request.Wish.{Wish}

-- ---- the answers that have room

has-room : (room : ℕ) (answer : ElementList) (answers : List ElementList) → length (json_text answer) < room
    → fitting room (answer ∷ answers) ≡ answer ∷ fitting (room - (length (json_text answer) + 1)) answers
has-room room answer answers less = grind (arith, nat_tests)

has-none : (room : ℕ) (answer : ElementList) (answers : List ElementList) → room ≤ length (json_text answer)
    → fitting room (answer ∷ answers) ≡ []
has-none room answer answers more = grind (arith, nat_tests)

from : (answers : List ElementList) (i : ℕ) (answer : ElementList) → i < length answers → answer ≡ get_or answers i answer
    → drop i answers ≡ answer ∷ drop (i + 1) answers
from answers i answer less is = drop_more answers i answer less ∙ ap (λ x. x ∷ drop (i + 1) answers) (sym is)

-- the next answer has room
pub fits-next : (room size i : ℕ) (answers : List ElementList) (answer : ElementList) → i < length answers → answer ≡ get_or answers i answer
    → size ≡ length (json_text answer) → size < room
    → fitting room (drop i answers) ≡ answer ∷ fitting (room - (size + 1)) (drop (i + 1) answers)
fits-next room size i answers answer less is text fits =
    rw (from answers i answer less is, text) (has-room room answer (drop (i + 1) answers) (rw text at fits))

-- the next answer has none
pub ends-here : (room size i : ℕ) (answers : List ElementList) (answer : ElementList) → i < length answers → answer ≡ get_or answers i answer
    → size ≡ length (json_text answer) → room ≤ size → fitting room (drop i answers) ≡ []
ends-here room size i answers answer less is text over =
    ap (fitting room) (from answers i answer less is) ∙ has-none room answer (drop (i + 1) answers) (rw text at over)

-- what has room and what has none are together the answers
fitting-front : (room : ℕ) (answers : List ElementList) → fitting room answers ++ drop (length (fitting room answers)) answers ≡ answers
fitting-front room [] = refl
fitting-front room (answer ∷ answers) =
    let ih = fitting-front (room - (length (json_text answer) + 1)) answers in
    elim (cases_lt (length (json_text answer)) room) [
      | inl less ↦ rw (has-room room answer answers less) (ap (λ x. answer ∷ x) ih)
      | inr more ↦ rw (has-none room answer answers more) refl
    ]

-- what has room is no longer than that
fitting-room : (room : ℕ) (answers : List ElementList) → length (flat_map behind_comma (fitting room answers)) ≤ room
fitting-room room [] = omega arith
fitting-room room (answer ∷ answers) =
    let left = room - (length (json_text answer) + 1) in
    let ih = fitting-room left answers in
    elim (cases_lt (length (json_text answer)) room) [
      | inl less ↦ rw (has-room room answer answers less)
          (omega (arith, ih, less, length-append (json_text answer) (flat_map behind_comma (fitting left answers))))
      | inr more ↦ rw (has-none room answer answers more) (omega arith)
    ]

-- where some has room there is room
fitting-some : (room : ℕ) (answers : List ElementList) → 0 < length (fitting room answers) → 0 < room
fitting-some room [] some = omega (arith, some)
fitting-some room (answer ∷ answers) some = elim (cases_lt (length (json_text answer)) room) [
  | inl less ↦ omega (arith, less)
  | inr more ↦ let none = rw (has-none room answer answers more) at some in omega (arith, none)
]

-- the next answer would not have had it
fitting-over : (room : ℕ) (answers rest : List ElementList) (next : ElementList) → answers ≡ fitting room answers ++ next ∷ rest
    → room < length (flat_map behind_comma (fitting room answers ++ next ∷ []))
fitting-over room [] rest next is = grind (arith, nat_tests)
fitting-over room (answer ∷ answers) rest next is =
    let left = room - (length (json_text answer) + 1) in
    elim (cases_lt (length (json_text answer)) room) [
      | inl less ↦
          let ih = fitting-over left answers rest next (ap (drop 1) (rw (has-room room answer answers less) at is)) in
          rw (has-room room answer answers less)
          (omega (arith, ih, less, length-append (json_text answer) (flat_map behind_comma (fitting left answers ++ next ∷ []))))
      | inr more ↦
          let cut = rw (has-none room answer answers more) at is in
          let same : answer ≡ next = cc in
          rw (has-none room answer answers more, ← same) (omega (arith, more, length-append (json_text answer) []))
    ]

-- ---- the array

array-size : (answer : ElementList) (answers : List ElementList)
    → length (array_text (answer ∷ answers)) ≡ length (json_text answer) + 2 + length (flat_map behind_comma answers)
array-size answer answers = grind (arith, common_steps)

pub shown-front : (answers : List ElementList) → shown_answers answers ++ drop (length (shown_answers answers)) answers ≡ answers
shown-front [] = refl
shown-front (answer ∷ answers) = ap (λ x. answer ∷ x) (fitting-front (longest_array - (length (json_text answer) + 2)) answers)

pub shown-fits : (answers : List ElementList) → 1 < length (shown_answers answers)
    → length (array_text (shown_answers answers)) ≤ longest_array
shown-fits [] more = grind (arith, nat_tests)
shown-fits (answer ∷ answers) more =
    let room = longest_array - (length (json_text answer) + 2) in
    let most = fitting-room room answers in
    let some = fitting-some room answers (omega (arith, more)) in
    rw (array-size answer (fitting room answers)) (omega (arith, most, some))

pub shown-longest : (answers rest : List ElementList) (next : ElementList) → answers ≡ shown_answers answers ++ next ∷ rest
    → longest_array < length (array_text (shown_answers answers ++ next ∷ []))
shown-longest [] rest next is = grind (arith, nat_tests)
shown-longest (answer ∷ answers) rest next is =
    let room = longest_array - (length (json_text answer) + 2) in
    let over = fitting-over room answers rest next (ap (drop 1) is) in
    rw (array-size answer (fitting room answers ++ next ∷ [])) (omega (arith, over))

-- ---- the pages of some rows

-- the next offset goes on behind what is shown of a front of the rows behind an offset
front-goes-on : (rows found : List ElementList) (offset : ℕ) → found ++ drop (offset + length found) rows ≡ drop offset rows
    → shown_answers found ++ drop (offset + length (shown_answers found)) rows ≡ drop offset rows
front-goes-on rows found offset front =
    let shown = shown_answers found in
    let count = length shown in
    let rest = drop (offset + length found) rows in
    let left = drop count found ++ rest in
    let whole : drop offset rows ≡ shown ++ left =
    sym front ∙ ap (λ (answers : List ElementList). answers ++ rest) (sym (shown-front found))
    ∙ append_assoc shown (drop count found) rest in
    ap (λ (answers : List ElementList). shown ++ answers)
    (sym (drop-drop count offset rows) ∙ ap (drop count) whole ∙ drop_at shown left count refl)
    ∙ sym whole

pub next-offset : (page : ShownPage) (rows : List ElementList)
    → shown_page page rows ++ drop (page.offset + length (shown_page page rows)) rows ≡ drop page.offset rows
    → GoesOn page rows
next-offset page rows front = front-goes-on rows (shown_page page rows) page.offset front

pub some-shown : (answers : List ElementList) → 0 < length answers → 0 < length (shown_answers answers)
some-shown [] there = absurd (omega (arith, there))
some-shown (answer ∷ answers) there = omega arith

-- where all that are found are shown, and do not fill the page, they are all
pub all-shown : (wish : Wish) (page : ShownPage) (found rest : List ElementList)
    → (is_filled page found ≡ false → found ≡ rest) → (0 < length rest → 0 < length found)
    → (found_reply wish page found).is_full ≡ false → shown_answers found ≡ rest
all-shown wish page [] [] all some said = refl
all-shown wish page [] (next ∷ rest) all some said = absurd (omega (arith, some (omega arith)))
all-shown wish page (answer ∷ answers) rest all some said =
    let found = answer ∷ answers in
    let count = length (shown_answers found) in
    let both = or_parts (nat_lt count (length found)) (is_filled page found) said in
    let most : length found ≤ count = ltb-false count (length found) both.0 in
    sym (append-nil (shown_answers found))
    ∙ ap (λ (answers : List ElementList). shown_answers found ++ answers) (sym (drop_all count found most))
    ∙ shown-front found ∙ all both.1
