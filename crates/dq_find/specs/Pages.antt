-- A query's answers that are given one after the other, and in pages (PS3.4 sections C.4.1.3 and
-- K.4.1.3).
use Rattle.std.specs.Prelude.{◌≡◌, ℕ, ◌<◌, ◌≤◌, List, [], ◌∷◌, ◌++◌, length}
use Rattle.dq_dataset.specs.Tree.{ElementList}
use Rattle.dq_match.specs.declared.responses.Found.{Found}

-- The answers that were given stood first among those that were left before, in this order. The
-- others are left now, and the final status and whether keys were left out are as they were.
pub record HasGiven (before : Found) (given : List ElementList) (left : Found) : Type 0 where
  pub answers : before.answers ≡ given ++ left.answers
  pub status : left.status ≡ before.status
  pub optional : left.optional ≡ before.optional

-- answers were given one after the other
abbrev pub GivesInTurn : Found → List ElementList → Found → Type 0
GivesInTurn before [] left = left ≡ before
GivesInTurn before (answer ∷ others) left =
    (between : Found) × HasGiven before (answer ∷ []) between × GivesInTurn between others left

-- A page of at most so many answers was given: fewer than that only where none is left after it.
pub record IsPage (most : ℕ) (before : Found) (page : List ElementList)
    (left : Found) : Type 0 where
  pub given : HasGiven before page left
  pub few : length page ≤ most
  pub full : length page < most → left.answers ≡ []

-- pages were given one after the other
abbrev pub ArePages : ℕ → Found → List (List ElementList) → Found → Type 0
ArePages most before [] left = left ≡ before
ArePages most before (page ∷ others) left =
    (between : Found) × IsPage most before page between × ArePages most between others left
