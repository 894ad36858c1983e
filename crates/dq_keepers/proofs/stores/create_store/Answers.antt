use Rattle.dq_keepers.proofs.stores.create_store.Goals as goal

pub returns-clause-settled : goal.returns-clause-settled
returns-clause-settled g c = rw c.new.ensures c.in_ok-tables.ensures.settled
