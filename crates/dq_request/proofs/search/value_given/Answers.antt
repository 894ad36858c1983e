use Rattle.std.proofs.Common.{rules}
use Rattle.dq_request.proofs.Words.{short_given}
use Rattle.dq_request.proofs.search.value_given.Goals as goal

pub returns-then-not-is_empty : goal.returns-then-not-is_empty
returns-then-not-is_empty c =
    short_given c.args.vr c.args.text.now c.short_of.result (search rules) (search rules) c.short_of.ensures
