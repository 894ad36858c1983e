use Rattle.std.proofs.Common.{◌∙◌}
use Rattle.std.proofs.lemmas.List.{take_min}
use Rattle.dq_http.proofs.request_log.front_of.Goals as goal

pub returns : goal.returns
returns c = c.split_at.ensures.front ∙ rw c.min.ensures (take_min _ _)
