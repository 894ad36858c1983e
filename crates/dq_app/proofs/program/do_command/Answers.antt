use Rattle.dq_app.proofs.Ends.{both-ok}
use Rattle.dq_app.proofs.program.do_command.Goals as goal

pub returns-in-Play-clause-done : goal.returns-in-Play-clause-done
returns-in-Play-clause-done g c = rw c.in-Play.is c.play.ensures.done

pub returns-in-Play-clause-stops : goal.returns-in-Play-clause-stops
returns-in-Play-clause-stops g c = rw c.in-Play.is c.play.ensures.stops

pub returns-in-Serve-clause-done : goal.returns-in-Serve-clause-done
returns-in-Serve-clause-done g c = rw c.in-Serve.is c.serve.ensures.done

pub returns-in-Serve-clause-stops : goal.returns-in-Serve-clause-stops
returns-in-Serve-clause-stops g c = rw c.in-Serve.is c.serve.ensures.stops

pub returns-in-Loop-clause-done : goal.returns-in-Loop-clause-done
returns-in-Loop-clause-done g c = rw c.in-Loop.is c.loop_over.ensures.done

pub returns-in-Loop-clause-stops : goal.returns-in-Loop-clause-stops
returns-in-Loop-clause-stops g c = rw c.in-Loop.is c.loop_over.ensures.ends

pub returns-in-Migrate-clause-done : goal.returns-in-Migrate-clause-done
returns-in-Migrate-clause-done g c = rw c.in-Migrate.is (both-ok _ _ c.migrate.result c.migrate.ensures.done c.migrate.ensures.made)

pub returns-in-Migrate-clause-stops : goal.returns-in-Migrate-clause-stops
returns-in-Migrate-clause-stops g c = rw c.in-Migrate.is c.migrate.ensures.ends

pub returns-in-Check-clause-done : goal.returns-in-Check-clause-done
returns-in-Check-clause-done g c = rw c.in-Check.is c.check.ensures.done

pub returns-in-Check-clause-stops : goal.returns-in-Check-clause-stops
returns-in-Check-clause-stops g c = rw c.in-Check.is c.check.ensures.stops

pub returns-in-Copy-clause-done : goal.returns-in-Copy-clause-done
returns-in-Copy-clause-done g c = rw c.in-Copy.is c.copy.ensures.done

pub returns-in-Copy-clause-stops : goal.returns-in-Copy-clause-stops
returns-in-Copy-clause-stops g c = rw c.in-Copy.is c.copy.ensures.ends

pub returns-in-Export-clause-done : goal.returns-in-Export-clause-done
returns-in-Export-clause-done g c = rw c.in-Export.is c.export_rows.ensures.done

pub returns-in-Export-clause-stops : goal.returns-in-Export-clause-stops
returns-in-Export-clause-stops g c = rw c.in-Export.is c.export_rows.ensures.stops
