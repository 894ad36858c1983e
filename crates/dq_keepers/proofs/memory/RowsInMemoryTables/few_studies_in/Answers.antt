use Rattle.dq_keepers.proofs.InMemory.{reads}
use Rattle.dq_keepers.proofs.memory.RowsInMemoryTables.few_studies_in.Goals as goal

pub returns-clause-reads : goal.returns-clause-reads
returns-clause-reads c = rw c.without_failure.ensures (reads _ _ _ c.few_studies_in.ensures.reads)
