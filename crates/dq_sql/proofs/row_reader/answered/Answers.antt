use Rattle.dq_sql.proofs.ReadOnlyQueries.{shown_stays, failed_stays, shown_unchanged, shows_same}
use Rattle.dq_sql.proofs.row_reader.answered.Goals as goal

pub returns-in-Ok-clause-stays : goal.returns-in-Ok-clause-stays
returns-in-Ok-clause-stays g c silent = shown_stays _ _ _ _ silent _ c.in-Ok.ensures.survives c.in-Ok.ensures.mode c.in-Ok.ensures.ok

pub returns-in-Ok-clause-same : goal.returns-in-Ok-clause-same
returns-in-Ok-clause-same g c silent clean = shows_same _ _ (shown_unchanged _ _ _ _ silent _ (c.in-Ok.ensures.ok clean))

pub returns-in-Err-clause-stays : goal.returns-in-Err-clause-stays
returns-in-Err-clause-stays g c silent = failed_stays _ _ _ _ silent _ c.in-Err.ensures.survives c.in-Err.ensures.mode c.in-Err.ensures.err
