use Rattle.std.proofs.Common.{refl, sym, ◌∙◌}
use Rattle.dq_core.specs.Shared.{world_after}
use Rattle.dq_core.proofs.Refinement.{stands-next, still-working}
use Rattle.dq_core.proofs.server.Server.step.Goals as goal

pub returns-in-Ok-clause-stands : goal.returns-in-Ok-clause-stands
returns-in-Ok-clause-stands g c = λ rows events s h.
    stands-next c.args.event c.in-Ok.reply s c.turn.ensures.keeps.0 c.turn.ensures.keeps.1
    c.in-Ok.ensures.newest (c.in-Ok.ensures.turned (world_after c.args.self.now.institutions rows events) s.holds s.keeps h) c.in-Ok.ensures.goes

pub returns-in-Ok-clause-working : goal.returns-in-Ok-clause-working
returns-in-Ok-clause-working g c = λ works unspent. still-working c.in-Ok.ensures.goes (works (sym c.turn.ensures.keeps.1 ∙ unspent)) _ refl
