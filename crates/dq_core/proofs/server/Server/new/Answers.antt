use Rattle.std.proofs.Common.{List, [], sym, subst}
use Rattle.dq_config.specs.declared.config.Institution.{Institution}
use Rattle.dq_core.specs.Slots.{AreHeld}
use Rattle.dq_core.proofs.server.Server.new.Goals as goal

pub over-requires-clause-none : goal.over-requires-clause-none
over-requires-clause-none g c = λ rows.
    subst (λ (institutions : List Institution). AreHeld institutions rows c.in_ok-connections.connections []) (sym c.in_ok-connections.ensures.config)
    (c.in_ok-connections.ensures.none rows)
