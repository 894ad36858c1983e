use Rattle.dq_dimse.proofs.sending.append_command.Goals as goal

pub returns : goal.returns
returns c = rw (c.deref.ensures.value, c.in_ok-set.ensures) at c.put_cut.ensures
