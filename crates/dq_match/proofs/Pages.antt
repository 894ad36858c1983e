-- What a page shows of its answers.
use Rattle.std.proofs.Common.{◌≡◌, ℕ, ◌<◌, ◌≤◌, ◌-◌, List, [], ◌∷◌, ◌++◌, length, drop, refl, arith}
use Rattle.std.proofs.lemmas.Bool.Decides.{nat_tests}
use Rattle.dq_dataset.specs.Tree.{ElementList}
use Rattle.dq_match.specs.ShownPages.{answer_octets, first_within, octets_of_answers}

pub within_front : (most octets : ℕ) (answers : List ElementList)
    → first_within most octets answers ++ drop (length (first_within most octets answers)) answers ≡ answers
within_front most octets [] = grind arith
within_front most octets (answer ∷ others) =
    grind (arith, nat_tests, within_front (most - 1) (octets - answer_octets answer) others)

pub within_most : (most octets : ℕ) (answers : List ElementList) → length (first_within most octets answers) ≤ most
within_most most octets [] = omega arith
within_most most octets (answer ∷ others) =
    grind (arith, nat_tests, within_most (most - 1) (octets - answer_octets answer) others)

pub within_octets : (most octets : ℕ) (answers before : List ElementList) (last : ElementList)
    → first_within most octets answers ≡ before ++ last ∷ [] → octets_of_answers before < octets
within_octets most octets [] [] last is = absurd cc
within_octets most octets [] (first ∷ before) last is = absurd cc
within_octets most octets (answer ∷ others) [] last is = grind (arith, nat_tests)
within_octets most octets (answer ∷ others) (first ∷ before) last is =
    grind (arith, nat_tests, within_octets (most - 1) (octets - answer_octets answer) others before last)

pub within_all : (most octets : ℕ) (answers : List ElementList)
    → length (first_within most octets answers) < most → octets_of_answers (first_within most octets answers) < octets
    → first_within most octets answers ≡ answers
within_all most octets [] few short = refl
within_all most octets (answer ∷ others) few short =
    grind (arith, nat_tests, within_all (most - 1) (octets - answer_octets answer) others)

pub within_one : (most octets : ℕ) (answers : List ElementList)
    → 0 < most → 0 < octets → 0 < length answers → 0 < length (first_within most octets answers)
within_one most octets [] many large there = absurd (omega arith)
within_one most octets (answer ∷ others) many large there = grind (arith, nat_tests)
