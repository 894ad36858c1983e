use Rattle.std.proofs.Common.{◌∙◌, sym, ap}
use Rattle.dq_archive.specs.PastArchives.{records_in}
use Rattle.dq_archive.proofs.PastLookups.{looks_nothing}
use Rattle.dq_find.specs.declared.level.Level.{Level}
use Rattle.dq_find.specs.ComputedKeys.{computed_keys}
use Rattle.dq_find.proofs.search.Search.computed.Goals as goal

pub returns-in-Image : goal.returns-in-Image
unfolding computed_keys
returns-in-Image g c =
    looks_nothing g.T.Tables.state c.args.archive.now _ c.new.result
    (c.new.ensures ∙ ap (λ (level : Level). computed_keys (records_in g.T.Tables.state c.args.archive.now) level c.args.key.now) (sym c.in-Image.is))
