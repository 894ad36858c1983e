-- How a query is answered (PS3.4 sections C.4.1 and K.4.1).
use Rattle.std.specs.Prelude.{ℕ, false, [], Option, Some, None, if◌then◌else◌}
use Rattle.dq_dataset.specs.Tree.{ElementList}
use Rattle.dq_match.specs.declared.responses.Found.{Found}
use Rattle.dq_match.specs.Matching.{fits}
use Rattle.dq_match.specs.Responses.{shown_data_set}

-- A refusal has no answers.
abbrev pub refused_with : ℕ → Found
refused_with status = record { status = status; optional = false; answers = [] }

-- what the keys are shown of a record, where it fits them
abbrev pub answer_to_keys : ElementList → ElementList → Option ElementList
answer_to_keys keys held = if fits keys held then Some (shown_data_set keys held) else None
