use Rattle.std.proofs.Common.{◌≡◌, ℕ, Some, sym, subst, ◌∙◌, inr}
use Rattle.dq_dimse.specs.Holding.{accepted_with}
use Rattle.dq_dimse.proofs.Holdings.{id_is, none_found, nothing_unknown, nothing_known, nothing_kept}
use Rattle.dq_dimse.proofs.assembler.gather.Goals as goal

pub returns-in_default-clause-made : goal.returns-in_default-clause-made
returns-in_default-clause-made c = λ before h.
    inr (nothing_unknown c.args.accepted.now c.args.gathered before c.args.pdv.now c.in-Nothing.is h
    (sym c.accepted_with.ensures ∙ none_found c.accepted_with.result c.in_default.not-Some))

pub returns-in-Some-clause-made : goal.returns-in-Some-clause-made
returns-in-Some-clause-made c = λ before h.
    let found = sym c.accepted_with.ensures ∙ c.in-Some.is in
    nothing_known c.args.accepted.now c.args.gathered before c.args.pdv.now c.in-Some.context c.after_command.result c.new.result.items c.in-Nothing.is h
    found c.new.ensures.items (c.after_command.ensures.made c.args.accepted.now
    (subst (λ (id : ℕ). accepted_with id c.args.accepted.now ≡ Some c.in-Some.context) (sym (id_is _ _ _ found)) found))

pub returns-in-Some-clause-memory : goal.returns-in-Some-clause-memory
returns-in-Some-clause-memory c = λ before h e.
    let found = sym c.accepted_with.ensures ∙ c.in-Some.is in
    nothing_kept c.args.accepted.now c.args.gathered before c.args.pdv.now c.in-Some.context c.new.result.items c.in-Nothing.is h found c.new.ensures.items
    (c.after_command.ensures.memory e)
