use Rattle.std.proofs.Common.{inl, inr, sym, ◌∙◌}
use Rattle.std.proofs.lemmas.Bool.{false≢true}
use Rattle.dq_web.specs.Aims.{openness_of}
use Rattle.dq_web.proofs.Viewers.{opened-look, sender}
use Rattle.dq_web.proofs.laws.another_site_only_looks.Goals as goal

pub returns : goal.returns
returns c guard request question asked foreign =
    let at = asked.let_in in
    let aim = asked.aim in
    let place = at.aimed.at_path in
    elim (sender guard at.host (openness_of aim.resource aim.method) request.head.fields at.admitted.sender) [
      | inl opens ↦ (opens.1, opened-look aim.method aim.resource _ _ _ question.asked opens.0 asked.asks)
      | inr own ↦ absurd (false≢true (sym (foreign at.host place.text place.target) ∙ own))
    ]
