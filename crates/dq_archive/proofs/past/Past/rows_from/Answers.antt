use Rattle.std.proofs.Common.{refl, sym, ap, ◌∙◌, arith, not, map, take, drop}
use Rattle.std.specs.List.{filter}
use Rattle.std.proofs.lemmas.List.{take-map, drop-map}
use Rattle.dq_tables.specs.declared.row.Row.{Row}
use Rattle.dq_tables.specs.Rows.{of, row_of, record_of}
use Rattle.dq_tables.specs.Lookups.{rows_of, records_of}
use Rattle.dq_tables.proofs.RecordLists.{listed_in_order}
use Rattle.dq_tables.proofs.OwnRows.{window_own}
use Rattle.dq_archive.specs.Additions.{is_later, without}
use Rattle.dq_archive.specs.PastArchives.{state_in}
use Rattle.dq_archive.proofs.PastRecords.{left_rows, left_of_kind, are_of, part_left, nothing_left_out}
use Rattle.dq_archive.proofs.PastLookups.{looks_now, looks_back}
use Rattle.dq_archive.proofs.past.Past.rows_from.Goals as goal

pub returns-then-added-eq0 : goal.returns-then-added-eq0
returns-then-added-eq0 g c =
    let it = c.args.self.now in
    let later = it.later.now in
    let name = it.institution.now.name in
    let rows = (state_in g.T.Tables.state it).rows in
    let whole = records_of c.args.kind (of name rows) in
    looks_now g.T.Tables.state it _ (λ n rs. take c.args.most (drop c.args.from (rows_of c.args.kind n rs))) c.as_slice-name.result.now (record { tables = refl; institution = refl; later = refl })
    c.as_slice-name.ensures _ c.rows_from.result
    (λ h. window_own c.args.kind name c.args.from c.args.most rows
    ∙ ap (λ rs. map (row_of name) (take c.args.most (drop c.args.from rs)))
    (nothing_left_out c.args.kind later whole (are_of c.args.kind (of name rows)) (sym c.count_of-added.ensures ∙ c.if-added-eq0.true) ∙ left_of_kind later c.args.kind (of name rows)))
    c.rows_from.ensures.reads c.rows_from.ensures.found

pub returns : goal.returns
returns g c =
    let it = c.args.self.now in
    let later = it.later.now in
    let name = it.institution.now.name in
    let rows = (state_in g.T.Tables.state it).rows in
    let most = c.args.most in
    let from = c.args.from in
    let all = c.in-Some-checked_add.all in
    let whole = records_of c.args.kind (of name rows) in
    looks_back g.T.Tables.state it _ (λ n rs. take all (drop 0 (rows_of c.args.kind n rs))) c.as_slice-name.result.now (record { tables = refl; institution = refl; later = refl })
    c.as_slice-name.ensures c.in_ok-rows.rows _ c.cut.result
    (λ h e.
    (let ordered = listed_in_order c.args.kind name rows (c.honest_rows_are_sound.ensures.rising it.tables.now h) in
    let end = c.in-Some.ensures in
    let room = c.in-Some-checked_add.ensures in
    let counted = c.count_of-added.ensures in
    let left = without later (take all whole) in
    c.cut.ensures ∙ ap (λ l. take most (drop from l)) (c.in_ok-rows-2.ensures
    ∙ ap (filter (λ (row : Row). not (is_later later (record_of row)))) (e ∙ window_own c.args.kind name 0 all rows)
    ∙ left_rows later name (take all whole))
    ∙ ap (take most) (drop-map (row_of name) from left) ∙ take-map (row_of name) most (drop from left)
    ∙ ap (map (row_of name)) (sym (part_left c.args.kind later whole (are_of c.args.kind (of name rows)) from most all (omega arith) ordered)
    ∙ ap (λ l. take most (drop from l)) (left_of_kind later c.args.kind (of name rows)))))
    c.in_ok-rows.ensures.reads c.in_ok-rows.ensures.found
