use Rattle.std.proofs.Common.{inr, arith}
use Rattle.dq_app.proofs.Inputs.{read_whole, read_long}
use Rattle.dq_app.proofs.replay_input.read_octets.Goals as goal

pub returns-then-len-gt-CAPTURE_LIMIT-clause-refused :
    goal.returns-then-len-gt-CAPTURE_LIMIT-clause-refused
returns-then-len-gt-CAPTURE_LIMIT-clause-refused g c =
    inr (read_long (g.R.Source.octets c.args.input) c.in-Ok.octets.items c.in-Ok.ensures.read (omega arith))

pub returns-clause-read : goal.returns-clause-read
returns-clause-read g c =
    read_whole (g.R.Source.octets c.args.input) c.in-Ok.octets.items c.in-Ok.ensures.read (omega arith)
