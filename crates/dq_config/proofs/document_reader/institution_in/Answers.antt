use Rattle.std.proofs.Common.{arith, sym, ◌∙◌}
use Rattle.std.proofs.lemmas.Grind.{common_steps}
use Rattle.toml.specs.View.{view, table_view, array_view}
use Rattle.dq_config.proofs.Wholes.{institution_read, ok_or_is}
use Rattle.dq_config.proofs.document_reader.institution_in.Goals as goal

pub returns-clause-ok : goal.returns-clause-ok
returns-clause-ok c =
    let studies = sym c.limit_at.ensures ∙ ok_or_is _ _ _ (sym c.ok_or-4.ensures.value ∙ c.in_ok-studies.was) in
    let images = sym c.limit_at-2.ensures ∙ ok_or_is _ _ _ (sym c.ok_or-5.ensures.value ∙ c.in_ok-images.was) in
    let entries = sym c.limit_at-3.ensures ∙ ok_or_is _ _ _ (sym c.ok_or-6.ensures.value ∙ c.in_ok-entries.was) in
    let steps = sym c.limit_at-4.ensures ∙ ok_or_is _ _ _ (sym c.ok_or-7.ensures.value ∙ c.in_ok-steps.was) in
    let associations = sym c.limit_at-5.ensures ∙ ok_or_is _ _ _ (sym c.ok_or-8.ensures.value ∙ c.in_ok-associations.was) in
    institution_read (view c.args.value.now) (table_view c.in_ok-table.table.now) (array_view c.in_ok-values.values.now) c.in_ok-copy.copy
    c.in_ok-routes.field-0 c.in_ok-studies.studies c.in_ok-images.images c.in_ok-entries.entries c.in_ok-steps.steps c.in_ok-associations.associations
    (grind (arith, common_steps)) (grind (arith, common_steps)) (grind (arith, common_steps)) (grind (arith, common_steps))
    studies images entries steps associations
