use Rattle.dq_keepers.proofs.InMemory.{reads}
use Rattle.dq_keepers.proofs.memory.RowsInMemoryTables.waiting_after.Goals as goal

pub returns-clause-reads : goal.returns-clause-reads
returns-clause-reads c = rw c.without_failure.ensures (reads _ _ _ c.waiting_after.ensures.reads)
