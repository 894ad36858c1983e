use Rattle.std.proofs.Common.{ℕ, List, ap}
use Rattle.dq_core.specs.declared.event.Reply.TheVariants as reply
use Rattle.dq_core.proofs.connections.octets_reply.Goals as goal

pub returns : goal.returns
returns c = ap (λ (octets : List ℕ). reply.Octets c.args.number octets c.args.close) c.from_inner.ensures
