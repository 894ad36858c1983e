use Rattle.std.proofs.Common.{◌∙◌}
use Rattle.dq_core.proofs.connections.Connections.place_of.Goals as goal

pub returns : goal.returns
returns c = c.copied.ensures ∙ c.get.ensures.value
