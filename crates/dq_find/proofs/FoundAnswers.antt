-- Answers that are found as they are asked for, look after look.
use Rattle.std.proofs.Common.{◌≡◌, ◌++◌, None, Ok, List, inl, inr, sym, ap, ◌∙◌, append-nil}
use Rattle.dq_tables.specs.TableStates.{State, Reads}
use Rattle.dq_archive.specs.declared.past.Past.{Past}
use Rattle.dq_archive.specs.PastArchives.{IsSame, state_in, records_in}
use Rattle.dq_dataset.specs.Tree.{ElementList}
use Rattle.dq_tables.specs.Rows.{Record}
use Rattle.dq_find.specs.PartialAnswers.{PartialAnswers}
use Rattle.dq_find.specs.LazyAnswers.{answers_then, HasFound}

-- what was looked at so far
pub record FoundSoFar {T : Type 0} (state : T → State) (old now : Past T) (before after : PartialAnswers) : Type 0 where
  pub same : IsSame old now
  pub reads : Reads (state_in state old) (state_in state now) (Ok (tt {0}))
  pub asked : after.search.query ≡ before.search.query
  pub stays : (state_in state now).honest → answers_then after (records_in state old) ≡ answers_then before (records_in state old)

-- once all were found, no other answer is left
pub all_found : (lazy : PartialAnswers) (records : List Record) → HasFound None lazy → lazy.found ≡ answers_then lazy records
all_found lazy records (inl some) = absurd some
all_found lazy records (inr none) = sym (append-nil lazy.found) ∙ ap (λ (left : List ElementList). lazy.found ++ left) (sym (none records))
