use Rattle.std.proofs.Common.{◌≡◌, ◌<◌, ◌+◌, ℕ, List, [], ◌∷◌, ◌++◌, length, map, get_or, take, sym, ap, ap₂, ◌∙◌}
use Rattle.std.proofs.lemmas.List.{take_more}
use Rattle.dq_request.specs.declared.response.Counted.{Counted}
use Rattle.dq_tables.specs.declared.row.Row.{Row}
use Rattle.dq_wires.proofs.TurnSequences.{map-more}
use Rattle.dq_console.specs.Requests.{institution_counts}
use Rattle.dq_console.proofs.Outcomes.{if_error}
use Rattle.dq_console.proofs.counting.all_counted.Goals as goal

another : (rows : List Row) (names : List (List ℕ)) (at : ℕ) (name : List ℕ) (all longer : List Counted) (item : Counted) → at < length names
    → name ≡ get_or names at name → all ≡ map (institution_counts rows) (take at names) → item ≡ institution_counts rows name → longer ≡ all ++ item ∷ []
    → longer ≡ map (institution_counts rows) (take (at + 1) names)
another rows names at name all longer item within is before same added =
    added
    ∙ ap₂ (λ (some : List Counted) (one : Counted). some ++ one ∷ []) before same
    ∙ sym (map-more (institution_counts rows) (take at names) name)
    ∙ ap (λ (some : List (List ℕ)). map (institution_counts rows) some) (ap (λ (n : List ℕ). take at names ++ n ∷ []) is ∙ sym (take_more names at name within))

pub returns-in_err-counted-clause-fails : goal.returns-in_err-counted-clause-fails
returns-in_err-counted-clause-fails g c =
    if_error _ c.from_residual.result _ c.from_residual.ensures.1
    (g.met.C.Counting.fails_later _ _ _ _ c.loop-name.invariant.leads c.in_err-counted.ensures.fails)

pub loop-name-preserved : goal.loop-name-preserved
loop-name-preserved g c =
    let before = c.loop-name.invariant in
    let told = c.in_ok-counted.ensures in
    record {
      all = λ honest.
          let mid = g.met.C.Counting.keeps_rows _ _ told.leads honest in
          let kept = g.met.C.Counting.keeps_rows _ _ before.leads mid.0 in
          another (g.C.Counting.rows c.args.rows.now) c.args.names.now c.loop-name.name-index c.name-item.result c.loop-name.all c.push.new.self _
          c.loop-name-test.true c.name-item.is (before.all mid.0) (rw (c.as_slice.ensures, kept.1) at (told.counted honest)) c.in_ok-push.ensures.ok;
      leads = g.met.C.Counting.leads_on _ _ _ before.leads told.leads;
    }
