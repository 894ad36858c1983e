use Rattle.std.proofs.Common.{subst}
use Rattle.std.proofs.lemmas.Result.{err_from_is_err_and}
use Rattle.dq_archive.specs.Decisions.{IsOwn}
use Rattle.dq_archive.proofs.Decisions.{change_made, change_refused}
use Rattle.dq_archive.proofs.archive.Archive.carry_out.Goals as goal

pub returns-in_err-make_change-clause-serves : goal.returns-in_err-make_change-clause-serves
returns-in_err-make_change-clause-serves g c =
    let name = c.args.self.now.institution.now.name in
    let left = err_from_is_err_and c.from_residual.result c.from_residual.ensures.1 in
    rw (c.in-Some.is, left.1, left.2) (change_refused c.args.decision.answer c.in-Some.change name (g.T.Tables.state c.args.self.now.tables.now)
    (g.T.Tables.state c.make_change.new.tables) (subst (IsOwn name) c.in-Some.is c.requires.own) c.in_err-make_change.field-0.0 c.in_err-make_change.ensures)

pub returns-clause-serves : goal.returns-clause-serves
returns-clause-serves g c =
    let name = c.args.self.now.institution.now.name in
    rw c.in-Some.is (change_made c.args.decision.answer c.in-Some.change name (g.T.Tables.state c.args.self.now.tables.now)
    (g.T.Tables.state c.make_change.new.tables) (subst (IsOwn name) c.in-Some.is c.requires.own) c.in_ok-make_change.ensures)
