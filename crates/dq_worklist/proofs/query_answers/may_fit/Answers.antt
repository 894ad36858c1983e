use Rattle.std.proofs.Common.{◌∙◌, [], ◌++◌, refl, sym}
use Rattle.std.specs.List.{list_all}
use Rattle.dq_dataset.specs.View.{elements_of}
use Rattle.dq_match.specs.AsLent.{is_met_at_once}
use Rattle.dq_match.specs.Keys.{other_than_keys}
use Rattle.dq_match.specs.declared.keys.Nesting.TheVariants.{Outer}
use Rattle.dq_match.proofs.Alone.{starts, unless, unfit}
use Rattle.dq_tables.specs.Records.{data_set_of}
use Rattle.dq_worklist.proofs.query_answers.may_fit.Goals as goal

pub returns : goal.returns
unfolding data_set_of
returns c = λ none.
    let keys = c.args.keys.now in
    let held = data_set_of c.args.row.now.octets in
    unfit [] keys held held (λ tag other. refl) (λ fit. ((c.keys_are_met_alone_and_as_a_period.ensures.each Outer keys held).0 fit).0)
    ((λ i. list_all (is_met_at_once (other_than_keys ++ starts) (data_set_of (sym c.as_slice.ensures i))) (elements_of keys))
    ∙ unless _ c.lent_meets.result c.lent_meets.ensures.passes none)
