use Rattle.std.proofs.Common.{◌≡◌, Bool, true, false, cond, not, List, [], ◌∷◌, None, refl, ap, sym, ◌∙◌, rules}
use Rattle.std.proofs.lemmas.Fn.{filter_same}
use Rattle.dq_wires.specs.declared.watched.Watched.{Watched}
use Rattle.dq_wires.specs.Watching.{without_associations, without_shut}
use Rattle.dq_wires.proofs.log.association_log.AssociationLog.tell.Goals as goal

first-of : (is_shut : Bool) (first : Watched) (rest : List Watched) → without_associations (without_shut rest) ≡ without_shut (without_associations rest)
    → without_associations (cond (not is_shut) (first ∷ without_shut rest) (without_shut rest))
    ≡ cond (not is_shut) (record first { opened = None } ∷ without_shut (without_associations rest)) (without_shut (without_associations rest))
first-of true first rest same = same
first-of false first rest same = ap (λ (later : List Watched). record first { opened = None } ∷ later) same

-- An association does not tell whether its connection is shut.
shut-apart : (watched : List Watched) → without_associations (without_shut watched) ≡ without_shut (without_associations watched)
shut-apart [] = refl
shut-apart (first ∷ rest) = first-of first.is_shut first rest (shut-apart rest)

pub returns : goal.returns
returns g c =
    let kept = filter_same _ (λ (w : Watched). not w.is_shut) _ (λ x b q k. search rules) _ _ c.retain.ensures.filtered in
    let told : without_associations c.lose.new.self.watched.items ≡ without_associations c.args.self.now.watched.items = rw c.lose.ensures c.loop-note.invariant in
    ap without_associations kept ∙ shut-apart c.lose.new.self.watched.items ∙ ap without_shut told ∙ sym (shut-apart c.args.self.now.watched.items)
