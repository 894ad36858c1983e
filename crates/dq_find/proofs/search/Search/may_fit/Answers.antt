use Rattle.std.proofs.Common.{◌∙◌, sym}
use Rattle.std.specs.List.{list_all}
use Rattle.dq_dataset.specs.View.{elements_of}
use Rattle.dq_match.specs.AsLent.{is_met_at_once}
use Rattle.dq_match.specs.declared.keys.Nesting.TheVariants.{Outer}
use Rattle.dq_match.proofs.Alone.{unless}
use Rattle.dq_tables.specs.Records.{data_set_of}
use Rattle.dq_find.proofs.RowAnswers.{met_later, not_met}
use Rattle.dq_find.proofs.search.Search.may_fit.Goals as goal

pub returns : goal.returns
unfolding data_set_of
returns c = λ none records.
    let query = c.args.self.now.query.now in
    let row = c.args.row.now in
    not_met records c.args.self.now.called.now row.key query (data_set_of row.octets)
    (λ held fit. ((c.keys_are_met_alone_and_as_a_period.ensures.each Outer query.keys held).0 fit).0)
    ((λ i. list_all (is_met_at_once met_later (data_set_of (sym c.as_slice.ensures i))) (elements_of (sym c.requires i)))
    ∙ unless _ c.lent_meets.result c.lent_meets.ensures.passes none)
