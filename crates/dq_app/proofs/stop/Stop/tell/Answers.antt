use Rattle.dq_app.proofs.stop.Stop.tell.Goals as goal

pub returns-in-Capture-clause-part : goal.returns-in-Capture-clause-part
returns-in-Capture-clause-part g c = rw c.in-Capture.is c.put_numbered-in-Capture.ensures.part
