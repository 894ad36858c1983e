use Rattle.dq_server.proofs.file_stores.ProgramStoresFileStores.open.Goals as goal

pub returns-in-Ok-clause-rows : goal.returns-in-Ok-clause-rows
returns-in-Ok-clause-rows c = λ honest held is. c.in-Ok.ensures.rows honest held is.0 is.1
