use Rattle.dq_keepers.proofs.stores.back_up.Goals as goal

pub returns-clause-copied : goal.returns-clause-copied
returns-clause-copied g c = λ honest. (c.in_ok-_files._files, c.in_ok-_files.ensures.copied honest)
