use Rattle.std.proofs.Common.{◌≡◌, false, append_assoc, sym, ◌∙◌, arith}
use Rattle.std.proofs.lemmas.Bool.{not-true}
use Rattle.std.specs.List.{cons_option}
use Rattle.dq_match.specs.Parts.{has_room}
use Rattle.dq_match.proofs.Parts.{part_without_room, part_with_room}
use Rattle.dq_match.proofs.page_collector.PageCollector.take.Goals as goal
use Rattle.dq_match.proofs.page_collector.PageCollector.take.Goals.{in-Some-2, in-None}

pub returns-in-Some-left : goal.returns-in-Some-left
returns-in-Some-left c = λ others.
    let full : has_room c.in-Some-left.room ≡ false =
    not-true _ (sym c.is_used_up.ensures ∙ c.if-is_used_up.true) in
    part_without_room _ _ c.in-Some-left.is full others
    ∙ sym (part_without_room _ _ c.in-Some-left.is full (cons_option c.args.answer others))

pub returns : goal.returns
returns c = λ others. elim c.match-self-sub1.branch [
  | in-Some-2 w ↦ grind (arith, part_with_room)
  | in-None w ↦ grind (arith, append_assoc)
]
