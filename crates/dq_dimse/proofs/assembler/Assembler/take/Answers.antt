use Rattle.std.proofs.Common.{Ok, Err, ap, ◌∙◌}
use Rattle.dq_dimse.specs.Holding.{Holding}
use Rattle.dq_dimse.proofs.Holdings.{one_adds, one_fails, one_next, step_made, more_adds, more_stands}
use Rattle.dq_dimse.proofs.assembler.Assembler.take.Goals as goal

pub returns-in-Ok-clause-exact : goal.returns-in-Ok-clause-exact
returns-in-Ok-clause-exact c = λ assembly h.
    let accepted_is = c.as_slice.ensures ∙ ap (λ (s : Holding). s.accepted) c.self.view_is in
    let before_is = c.replace-before.ensures.value ∙ ap (λ (s : Holding). s.gathered) c.self.view_is in
    one_adds c.args.self.now.accepted assembly c.args.pdv.now c.in-Ok.message c.in-Ok.gathered c.in-Ok.ensures.unspent
    (step_made c.args.self.now _ _ assembly c.args.pdv.now (Ok (c.in-Ok.message, c.in-Ok.gathered)) accepted_is before_is h c.in-Ok.ensures.made)

pub returns-in-Ok-clause-next : goal.returns-in-Ok-clause-next
returns-in-Ok-clause-next c = λ assembly h.
    let accepted_is = c.as_slice.ensures ∙ ap (λ (s : Holding). s.accepted) c.self.view_is in
    let before_is = c.replace-before.ensures.value ∙ ap (λ (s : Holding). s.gathered) c.self.view_is in
    let made = step_made c.args.self.now _ _ assembly c.args.pdv.now (Ok (c.in-Ok.message, c.in-Ok.gathered)) accepted_is before_is h c.in-Ok.ensures.made in
    one_next c.args.self.now _ assembly c.args.pdv.now h (ap (λ (s : Holding). s.accepted) c.self.view_is) made.1

pub returns-in-Ok-clause-unspent : goal.returns-in-Ok-clause-unspent
returns-in-Ok-clause-unspent c = c.in-Ok.ensures.unspent

pub returns-in-Err-clause-exact : goal.returns-in-Err-clause-exact
returns-in-Err-clause-exact c = λ assembly h.
    let accepted_is = c.as_slice.ensures ∙ ap (λ (s : Holding). s.accepted) c.self.view_is in
    let before_is = c.replace-before.ensures.value ∙ ap (λ (s : Holding). s.gathered) c.self.view_is in
    one_fails c.args.self.now.accepted assembly c.args.pdv.now c.in-Err.fault
    (step_made c.args.self.now _ _ assembly c.args.pdv.now (Err c.in-Err.fault) accepted_is before_is h c.in-Err.ensures.made)

pub returns-in-Ok-clause-adds : goal.returns-in-Ok-clause-adds
returns-in-Ok-clause-adds c = λ accepted pdvs h.
    more_adds accepted pdvs c.args.pdv.now c.args.self.now (Ok c.in-Ok.message) h (returns-in-Ok-clause-exact c)

pub returns-in-Ok-clause-stands : goal.returns-in-Ok-clause-stands
returns-in-Ok-clause-stands c = λ accepted pdvs h.
    more_stands accepted pdvs c.args.pdv.now c.args.self.now _ (Ok c.in-Ok.message) h
    (ap (λ (s : Holding). s.accepted) c.self.view_is) (returns-in-Ok-clause-next c)

pub returns-in-Err-clause-adds : goal.returns-in-Err-clause-adds
returns-in-Err-clause-adds c = λ accepted pdvs h.
    more_adds accepted pdvs c.args.pdv.now c.args.self.now (Err c.in-Err.fault) h (returns-in-Err-clause-exact c)
