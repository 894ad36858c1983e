use Rattle.dq_app.proofs.Replaying.{replayed}
use Rattle.dq_app.proofs.laws.replays_of_stores_are_exact.Goals as goal

pub returns-in-Ok-run : goal.returns-in-Ok-run
returns-in-Ok-run g c = λ honest.
    let was = c.in-Ok-run.ensures.was_honest honest in
    replayed c.associations_are_answered_in_full.ensures.exact (g.Rt.Stores.stored c.args.rt.now c.args.path.now) _ _ _ _ _ _ (c.in-Ok-store.ensures.rows was)
    c.in-Ok.ensures.events (c.in-Ok-store.ensures.sound was) c.in-Ok.ensures.octets (c.in-Ok-run.ensures.ran honest)
