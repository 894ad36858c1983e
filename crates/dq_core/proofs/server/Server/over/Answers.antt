use Rattle.std.proofs.Common.{refl}
use Rattle.dq_core.proofs.server.Server.over.Goals as goal

pub returns-clause-stands : goal.returns-clause-stands
returns-clause-stands g c = record {
  unspent = refl;
  newest = c.requires.first;
  holds = c.requires.none (g.T.Tables.state c.args.tables).rows;
  keeps = refl;
  working = c.requires.working;
}
