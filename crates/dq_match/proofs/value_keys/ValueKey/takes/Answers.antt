use Rattle.std.proofs.Common.{◌∙◌}
use Rattle.dq_match.proofs.SeveralValues.{found_in}
use Rattle.dq_match.proofs.Takes.{takes_by}
use Rattle.dq_match.proofs.value_keys.ValueKey.takes.Goals as goal

pub returns-in-Equal : goal.returns-in-Equal
returns-in-Equal c =
    takes_by c.self.inside.vr c.self.inside.octets c.args.self.now c.self.inside.values _ c.args.value.now c.contains.result c.self.view_is c.in-Equal.is
    c.self.invariant.1 (c.contains.ensures ∙ found_in c.args.value.now c.in-Equal.set.keys)
