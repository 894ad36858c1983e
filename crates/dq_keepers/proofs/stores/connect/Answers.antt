use Rattle.sqlite.specs.Files.{file_state}
use Rattle.dq_keepers.proofs.Found.{both, shows}
use Rattle.dq_keepers.proofs.stores.connect.Goals as goal

pub returns : goal.returns
returns g c = λ version rows is held.
    both _ _ _ (λ conn opened found clean.
    shows version g.D.HostDisk.contents (file_state conn) rows (opened clean).0 (opened clean).1 (found clean) held)
    c.open.result c.open.ensures.opened (c.open.ensures.found is)
