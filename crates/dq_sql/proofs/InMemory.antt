-- A connection over files that tell no lie is honest.
use Rattle.std.proofs.Common.{◌≡◌, true, rules}
use Rattle.sqlite_disk.specs.declared.Disk.{Ghosts}
use Rattle.sqlite_pool.specs.Pool.{state}
use Rattle.sqlite_store.specs.declared.store.FileStore.{FileStore}
use Rattle.sqlite_trees.specs.View.{doubt}
use Rattle.sqlite.specs.Held.{Held}
use Rattle.sqlite.specs.Files.{file_state}
use Rattle.sqlite.specs.State.{HasCleanDisk}

pub clean_over : {D : Type 0} {g : Ghosts D} (h : Held (FileStore D g)) → ((file : D) → g.is_clean file ≡ true) → HasCleanDisk (file_state h)
unfolding state doubt
clean_over {D} {g} h clean = search (rules, clean)
