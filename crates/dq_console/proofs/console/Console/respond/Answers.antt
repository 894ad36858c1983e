use Rattle.std.proofs.Common.{refl, sym, ap, ◌∙◌}
use Rattle.std.specs.Option.{option_copied}
use Rattle.dq_console.proofs.ServiceProgress.{none-responded, one-responded, none-answered}
use Rattle.dq_console.proofs.console.Console.respond.Goals as goal

pub returns-in_default-clause-went : goal.returns-in_default-clause-went
returns-in_default-clause-went g c =
    none-responded g.T.Tables.state _ _ (sym c.next.ensures ∙ ap option_copied c.in_default.is, refl)

pub returns-in-Ok-clause-went : goal.returns-in-Ok-clause-went
returns-in-Ok-clause-went g c =
    one-responded g.T.Tables.state _ _ c.respond.new.turner _ _ c.in-Ok.ensures.answers
    (λ acts. (sym c.next.ensures ∙ ap option_copied c.in-Some.is, c.answer.ensures))

pub returns-in-Err-NoMemory-clause-went : goal.returns-in-Err-NoMemory-clause-went
returns-in-Err-NoMemory-clause-went g c =
    none-answered g.T.Tables.state _ _ c.respond.new.turner _ (rw c.in-Err-NoMemory.field-0-is at c.in-Err-NoMemory.ensures.cut)
    (λ order. (sym c.next.ensures ∙ ap option_copied c.in-Some.is, c.let_go.ensures))
