use Rattle.dq_keepers.proofs.stores.close_store.Goals as goal

pub returns : goal.returns
returns g c = (c.in_ok-_files._files, rw c.into_inner.ensures at c.in_ok-_files.ensures.copied)
