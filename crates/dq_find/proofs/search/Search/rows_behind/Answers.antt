use Rattle.std.specs.Option.{option_copied}
use Rattle.dq_archive.specs.PastArchives.{records_in}
use Rattle.dq_archive.proofs.PastLookups.{looks_alike}
use Rattle.dq_find.proofs.AskedRows.{asked_studies, asked_series, asked_images}
use Rattle.dq_find.proofs.search.Search.rows_behind.Goals as goal

pub returns-in-Study : goal.returns-in-Study
returns-in-Study g c =
    let it = c.args.archive.now in
    let query = c.args.self.now.query.now in
    looks_alike g.T.Tables.state it c.studies_behind.new.archive _ _ c.studies_behind.result c.studies_behind.ensures
    (λ h. asked_studies it.institution.now.name (records_in g.T.Tables.state it) query.level query.keys (option_copied c.args.after) c.args.most c.in-Study.is)

pub returns-in-Series : goal.returns-in-Series
returns-in-Series g c =
    let it = c.args.archive.now in
    let query = c.args.self.now.query.now in
    looks_alike g.T.Tables.state it c.rows_above_after.new.self _ _ c.rows_above_after.result c.rows_above_after.ensures
    (λ h. asked_series it.institution.now.name (records_in g.T.Tables.state it) query.level query.keys (option_copied c.args.after) c.args.most
    c.key_above-study.result.now c.in-Series.is c.key_above-study.ensures)

pub returns-in-Image : goal.returns-in-Image
returns-in-Image g c =
    let it = c.args.archive.now in
    let query = c.args.self.now.query.now in
    looks_alike g.T.Tables.state it c.rows_above_after-in-Image.new.self _ _ c.rows_above_after-in-Image.result c.rows_above_after-in-Image.ensures
    (λ h. asked_images it.institution.now.name (records_in g.T.Tables.state it) query.level query.keys (option_copied c.args.after) c.args.most
    c.key_above-series.result.now c.in-Image.is c.key_above-series.ensures)
