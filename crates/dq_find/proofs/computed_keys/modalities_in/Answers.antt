use Rattle.std.proofs.Common.{◌≡◌, ◌<◌, ◌≤◌, ◌+◌, ◌∙◌, [], List, ℕ, length, map, drop, take, sym, ap, subst, arith}
use Rattle.std.specs.List.{flat_map}
use Rattle.dq_dataset.specs.Tree.{ElementList}
use Rattle.dq_tables.specs.declared.row.Row.{Row}
use Rattle.dq_tables.specs.Rows.{Record, record_of}
use Rattle.dq_tables.specs.Records.{data_set_of}
use Rattle.dq_find.specs.ComputedKeys.{all_in_order, modalities_in}
use Rattle.dq_find.specs.Modalities.{modality_limit, modalities_of}
use Rattle.dq_match.proofs.Parts.{from_place}
use Rattle.dq_find.proofs.FromPlace.{past_all}
use Rattle.dq_find.proofs.FirstValues.{all_more, few_stay}
use Rattle.dq_find.proofs.computed_keys.modalities_in.Goals as goal

abbrev all_of : List Row → List (List ℕ)
all_of rows = flat_map (λ (r : Record). modalities_of (data_set_of r.octets)) (map record_of rows)

pub loop-row-preserved : goal.loop-row-preserved
loop-row-preserved c =
    let within : c.loop-row.row-index < length c.args.series.now = omega arith in
    let row = c.row-item.result in
    let before = c.loop-row.values.items in
    let whole = take modality_limit (all_in_order (all_of c.args.series.now) []) in
    let data_set = c.in_ok-data_set.ensures.data_set in (
      c.in_ok-put_modalities.ensures.few,
      all_more modality_limit (modalities_of (data_set_of row.octets)) (all_of (drop (c.loop-row.row-index + 1) c.args.series.now)) before
          c.put_modalities.new.values.items whole
          (c.in_ok-put_modalities.ensures.put ∙ ap (λ (d : ElementList). take modality_limit (all_in_order (modalities_of d) before)) data_set)
          (subst (λ (rows : List Row). take modality_limit (all_in_order (all_of rows) before) ≡ whole)
          (from_place c.args.series.now c.loop-row.row-index row within c.row-item.is) c.loop-row.invariant.1),
    )

pub returns : goal.returns
unfolding modalities_in all_in_order
returns c =
    let past : length c.args.series.now ≤ c.loop-row.row-index = omega arith in
    let items = c.loop-row.values.items in
    let whole = take modality_limit (all_in_order (all_of c.args.series.now) []) in
    sym (few_stay modality_limit items c.loop-row.invariant.0)
    ∙ subst (λ (rows : List Row). take modality_limit (all_in_order (all_of rows) items) ≡ whole)
    (past_all c.args.series.now c.loop-row.row-index past) c.loop-row.invariant.1
