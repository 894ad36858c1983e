use Rattle.dq_sql.proofs.RowOrder.{none_good}
use Rattle.dq_sql.proofs.judgement.Judgement.new.Goals as goal

pub returns : goal.returns
returns c = record {
  ids = (tt, c.roomy.ensures);
  rows = (rw c.roomy-2.ensures none_good, rw c.roomy-2.ensures tt);
}
