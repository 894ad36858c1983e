-- A page of a list of answers, and of what was found.
use Rattle.std.specs.Prelude.{ℕ, ◌+◌, ◌-◌, nat_lt, nat_le, min, Bool, ◌&&◌, ◌||◌, if◌then◌else◌, List, [], ◌∷◌, drop, length}
use Rattle.dq_dataset.specs.declared.header.Syntax.TheVariants.{Explicit}
use Rattle.dq_dataset.specs.Canonical.{canonical}
use Rattle.dq_dataset.specs.Tree.{ElementList}
use Rattle.dq_match.specs.declared.responses.Found.{Found}
use Rattle.dq_match.specs.declared.shown_page.ShownPage.{ShownPage}

-- the most answers of a page
abbrev pub page_most : ℕ
page_most = 1000

-- so many octets of answers fill a page: 8 MiB
abbrev pub page_octets : ℕ
page_octets = 0x800000

-- the octets of an answer in Explicit VR Little Endian
abbrev pub answer_octets : ElementList → ℕ
answer_octets answer = length (canonical Explicit answer)

-- The first of some answers: at most so many, up to the one with which they have so many octets.
abbrev pub first_within : ℕ → ℕ → List ElementList → List ElementList
first_within most octets [] = []
first_within most octets (answer ∷ others) = if nat_lt 0 most && nat_lt 0 octets
    then answer ∷ first_within (most - 1) (octets - answer_octets answer) others else []

-- what comes after so many answers, and of that at most so many, up to the one that fills the page
abbrev pub shown_page : ShownPage → List ElementList → List ElementList
shown_page page all = first_within (min page.limit page_most) page_octets (drop page.offset all)

-- the octets of some answers
abbrev pub octets_of_answers : List ElementList → ℕ
octets_of_answers [] = 0
octets_of_answers (answer ∷ others) = answer_octets answer + octets_of_answers others

-- Some answers fill a page: others would not be shown behind them.
abbrev pub is_filled : ShownPage → List ElementList → Bool
is_filled page answers =
    nat_le (min page.limit page_most) (length answers) || nat_le page_octets (octets_of_answers answers)

-- a page of what was found; a refusal has no answers
abbrev pub found_page : ShownPage → Found → Found
found_page page found = record {
  status = found.status;
  optional = found.optional;
  answers = shown_page page found.answers;
}
