use Rattle.std.proofs.lemmas.Result.{on_ok_weaker}
use Rattle.dq_archive.proofs.AddedRecords.{told_by}
use Rattle.dq_archive.proofs.archive.Archive.carry_out_telling.Goals as goal

pub returns-clause-told : goal.returns-clause-told
returns-clause-told g c = λ h.
    let old = c.args.self.now in
    let was = c.carry_out.ensures.serves.goes.was_honest h in
    on_ok_weaker c.carry_out.result
    (λ done. told_by old.institution.now.name c.args.decision.change (g.T.Tables.state old.tables.now).rows
    (g.T.Tables.state c.carry_out.new.self.tables.now).rows c.args.added.now c.tell_if.new.added
    (c.honest_rows_are_sound.ensures.sound old.tables.now was) c.requires.own (c.requires.fits was) c.in_ok-tell_if.ensures done)
    (c.carry_out.ensures.serves.done h)
