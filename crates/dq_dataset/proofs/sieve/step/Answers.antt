use Rattle.std.proofs.Common.{◌++◌, List, ℕ, take, sym, ap, subst, ◌∙◌}
use Rattle.dq_dataset.specs.declared.sieve.Stage.{Stage}
use Rattle.dq_dataset.specs.Sieving.{SieveGoesOn}
use Rattle.dq_dataset.proofs.SieveValues.{steps_past, steps_into}
use Rattle.dq_dataset.proofs.sieve.step.Goals as goal

pub returns-in_ok-walked-in-Past-clause-goes : goal.returns-in_ok-walked-in-Past-clause-goes
returns-in_ok-walked-in-Past-clause-goes c =
    let w = c.in_ok-walked-in-Past in
    let taken = take w.taken c.args.octets.now in
    subst (λ (s : Stage). SieveGoesOn c.args.tags.now c.args.outer s taken c.args.outer c.past-stage.result) (sym c.in-Past.is)
    (steps_past c.args.tags.now c.args.outer c.in-Past.walk taken w.walked w.ensures.leads c.past-stage.result (c.past-stage.ensures.sound c.args.outer)
    c.past-stage.ensures.sifts)

pub returns-in_ok-into-in-Into-clause-goes : goal.returns-in_ok-into-in-Into-clause-goes
returns-in_ok-into-in-Into-clause-goes c =
    let w = c.in_ok-walked-in-Into in
    let then = c.in_ok-into-in-Into.field-0 in
    let taken = take w.taken c.args.octets.now in
    let now = c.in_ok-extend_from_slice-in-Into.ensures.items ∙ ap (λ (x : List ℕ). c.in-Into.came.items ++ x) c.split_at.ensures.front in
    subst (λ (s : Stage). SieveGoesOn c.args.tags.now c.args.outer s taken then.0 then.1) (sym c.in-Into.is)
    (steps_into c.args.tags.now c.args.outer c.in-Into.walk taken w.walked w.ensures.leads c.in-Into.came c.extend_from_slice.new.self.items now then.0
    then.1 c.in_ok-into-in-Into.ensures)
