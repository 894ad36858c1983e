-- Rows in memory are honest: nothing but the program writes memory.
use Rattle.std.proofs.Common.{refl}
use Rattle.sqlite.specs.Files.{file_state}
use Rattle.sqlite.specs.State.{HasCleanDisk}
use Rattle.dq_sql.proofs.InMemory.{clean_over}
use Rattle.dq_keepers.specs.declared.memory.RowsInMemory.{RowsInMemory}

pub rows_in_memory_are_honest : (t : RowsInMemory) → HasCleanDisk (file_state t.tables.tables.conn)
rows_in_memory_are_honest t = clean_over t.tables.tables.conn (λ _. refl)
