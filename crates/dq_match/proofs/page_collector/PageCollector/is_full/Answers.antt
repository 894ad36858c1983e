use Rattle.std.proofs.Common.{sym, ◌∙◌}
use Rattle.std.proofs.lemmas.Bool.{not-true}
use Rattle.dq_match.proofs.Parts.{part_without_room}
use Rattle.dq_match.proofs.page_collector.PageCollector.is_full.Goals as goal

pub returns-in-Some : goal.returns-in-Some
returns-in-Some c = λ full. part_without_room _ _ c.in-Some.is (not-true _ (sym c.is_used_up.ensures ∙ full))
