use Rattle.std.proofs.Common.{◌∙◌, ap}
use Rattle.dq_archive.proofs.PastLookups.{looks_as}
use Rattle.dq_find.specs.ComputedKeys.{series_values, computed_keys}
use Rattle.dq_find.proofs.computed_keys.series_computed.Goals as goal

pub returns : goal.returns
unfolding computed_keys
returns g c =
    looks_as g.T.Tables.state c.args.archive.now c.count_above.new.self _ c.in_ok-images.images c.in_ok-images.ensures _ c.in_ok-series_values.field-0
    (λ h. c.in_ok-series_values.ensures ∙ ap series_values (c.in_ok-images.ensures.answered h))
