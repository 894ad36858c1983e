use Rattle.std.proofs.Common.{◌≡◌, ◌++◌, drop, option_map}
use Rattle.toml.specs.View.{items_view, array_view}
use Rattle.dq_config.specs.Document.{each_item, route_in}
use Rattle.dq_config.proofs.document_reader.routes.Given as goal

abbrev pub invariant-loop-value : goal.invariant-loop-value
invariant-loop-value l = each_item route_in (array_view l.values)
    ≡ option_map (λ others. l.routes ++ others) (each_item route_in (items_view (drop l.value-index l.values.items)))
