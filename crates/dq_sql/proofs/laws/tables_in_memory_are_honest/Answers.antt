use Rattle.std.proofs.Common.{refl}
use Rattle.dq_sql.proofs.InMemory.{clean_over}
use Rattle.dq_sql.proofs.laws.tables_in_memory_are_honest.Goals as goal

pub returns : goal.returns
returns c = clean_over c.args._tables.now.conn (λ _. refl)
