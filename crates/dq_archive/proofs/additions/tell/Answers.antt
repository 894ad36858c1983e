use Rattle.std.proofs.Common.{◌++◌, ◌∷◌, [], List, map, ap, ◌∙◌}
use Rattle.std.specs.Option.{option_to_list}
use Rattle.dq_archive.specs.declared.additions.Addition.{Addition}
use Rattle.dq_archive.specs.Additions.{kept_under}
use Rattle.dq_archive.proofs.AddedRecords.{told_in_turn}
use Rattle.dq_archive.proofs.additions.tell.Goals as goal

pub returns : goal.returns
returns c =
    let change = c.in-Stored in
    rw change.is (c.in_ok-push.ensures.ok ∙ ap (λ (a : Addition). c.tell_row-2.new.added ++ (a ∷ [])) c.in_ok-of.ensures
    ∙ ap (λ (l : List Addition). l ++ (kept_under change.image ∷ [])) (c.in_ok-tell_row-2.ensures
    ∙ ap (λ (l : List Addition). l ++ map kept_under (option_to_list change.series)) c.in_ok-tell_row.ensures)
    ∙ told_in_turn c.args.added.now change.study change.series change.image)
