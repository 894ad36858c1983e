use Rattle.std.proofs.Common.{◌≡◌, ℕ, List, [], ◌∷◌, ◌++◌, map, refl, ap, ◌∙◌}
use Rattle.dq_tables.specs.declared.row.Row.{Row}
use Rattle.dq_captures.specs.Reports.{report_line, report_text}
use Rattle.dq_console.specs.ConsoleLines.{counted_text}
use Rattle.dq_console.specs.Requests.{institution_counts}
use Rattle.dq_app.proofs.reporting.lines_of.Goals as goal

-- the lines of what is counted are those of a report
counted-lines : (rows : List Row) (names : List (List ℕ)) → counted_text (map (institution_counts rows) names) ≡ report_text rows names
counted-lines rows [] = refl
counted-lines rows (name ∷ names) = ap (λ (text : List ℕ). report_line rows name ++ text) (counted-lines rows names)

pub returns-clause-lines : goal.returns-clause-lines
returns-clause-lines g c = λ honest.
    c.in_ok-text.ensures ∙ ap counted_text (c.as_slice.ensures ∙ c.in_ok-all.ensures.counted honest)
    ∙ counted-lines (g.C.Counting.rows c.args.rows.now) c.args.names.now
