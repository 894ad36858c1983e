use Rattle.std.proofs.Common.{List, ◌+◌, refl, sym, ap, ◌∙◌, not, map, take}
use Rattle.std.specs.List.{filter}
use Rattle.std.specs.Option.{option_copied}
use Rattle.std.proofs.lemmas.List.{take-map}
use Rattle.dq_tables.specs.declared.row.Row.{Row}
use Rattle.dq_tables.specs.Rows.{Record, of, row_of, record_of}
use Rattle.dq_tables.specs.Lookups.{rows_above, rows_behind, records_above, records_behind}
use Rattle.dq_tables.proofs.RecordLists.{above_in_order}
use Rattle.dq_tables.proofs.OwnRows.{above_page_own}
use Rattle.dq_archive.specs.Additions.{is_later, without}
use Rattle.dq_archive.specs.PastArchives.{state_in}
use Rattle.dq_archive.proofs.PastRecords.{left_rows, left_above, left_behind, first_of_kind, are_of_above, are_of_behind, behind_in_order, nothing_left_out}
use Rattle.dq_archive.proofs.PastLookups.{looks_now, looks_back}
use Rattle.dq_archive.proofs.past.Past.rows_above_after.Goals as goal

pub returns-then-added-eq0 : goal.returns-then-added-eq0
returns-then-added-eq0 g c =
    let it = c.args.self.now in
    let later = it.later.now in
    let name = it.institution.now.name in
    let rows = (state_in g.T.Tables.state it).rows in
    let above = c.args.above.now in
    let after = option_copied c.args.after in
    let under = records_above c.args.kind above (of name rows) in
    looks_now g.T.Tables.state it _ (λ n rs. take c.args.most (rows_behind after (rows_above c.args.kind n above rs))) c.as_slice-name.result.now (record { tables = refl; institution = refl; later = refl })
    c.as_slice-name.ensures _ c.rows_above_after.result
    (λ h. above_page_own c.args.kind name above after c.args.most rows
    ∙ ap (λ (rs : List Record). map (row_of name) (take c.args.most (records_behind after rs)))
    (nothing_left_out c.args.kind later under (are_of_above c.args.kind above (of name rows)) (sym c.count_of-added.ensures ∙ c.if-added-eq0.true)
    ∙ left_above later c.args.kind above (of name rows)))
    c.rows_above_after.ensures.reads c.rows_above_after.ensures.found

pub returns : goal.returns
returns g c =
    let it = c.args.self.now in
    let later = it.later.now in
    let name = it.institution.now.name in
    let rows = (state_in g.T.Tables.state it).rows in
    let above = c.args.above.now in
    let after = option_copied c.args.after in
    let most = c.args.most in
    let all = c.in-Some.all in
    let under = records_above c.args.kind above (of name rows) in
    let behind = records_behind after under in
    let each = are_of_behind c.args.kind after under (are_of_above c.args.kind above (of name rows)) in
    looks_back g.T.Tables.state it _ (λ n rs. take all (rows_behind after (rows_above c.args.kind n above rs))) c.as_slice-name.result.now (record { tables = refl; institution = refl; later = refl })
    c.as_slice-name.ensures c.in_ok-rows.rows _ c.cut.result
    (λ h e.
    (let ordered = behind_in_order after under (above_in_order c.args.kind name above rows (c.honest_rows_are_sound.ensures.rising it.tables.now h)) in
    c.cut.ensures ∙ ap (take most) (c.in_ok-rows-2.ensures
    ∙ ap (filter (λ (row : Row). not (is_later later (record_of row)))) (e ∙ above_page_own c.args.kind name above after all rows)
    ∙ left_rows later name (take all behind))
    ∙ take-map (row_of name) most (without later (take all behind))
    ∙ ap (map (row_of name)) (sym (first_of_kind c.args.kind later behind each most all (c.in-Some.ensures.1 ∙ ap (λ n. most + n) c.count_of-added.ensures) ordered)
    ∙ ap (take most) (left_behind later after under ∙ ap (records_behind after) (left_above later c.args.kind above (of name rows))))))
    c.in_ok-rows.ensures.reads c.in_ok-rows.ensures.found
