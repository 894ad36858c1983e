use Rattle.std.proofs.Common.{◌∙◌, List, sym, ap, subst}
use Rattle.dq_vr.specs.declared.Tag.{Tag}
use Rattle.dq_dataset.specs.declared.header.Syntax.TheVariants.{Explicit}
use Rattle.dq_dataset.specs.Editing.{cut_out}
use Rattle.dq_tables.specs.Rows.{edits_of, institution_of}
use Rattle.dq_tables.specs.Sound.{ChangeFits}
use Rattle.dq_store.specs.Views.{instance_of, records_kept}
use Rattle.dq_store.proofs.Fitting.{new_fits, edits_are}
use Rattle.dq_store.proofs.Records.{no_record, nothing_again}
use Rattle.dq_store.proofs.c_store.new_change.Goals as goal

pub returns-then-is_some-clause-edits : goal.returns-then-is_some-clause-edits
returns-then-is_some-clause-edits c = sym (nothing_again c.args.kept.now (instance_of c.args.sent.now) (sym c.is_some.ensures ∙ c.if-is_some.true))

pub returns-then-is_some-clause-own : goal.returns-then-is_some-clause-own
returns-then-is_some-clause-own c = tt

pub returns-then-is_some-clause-fits : goal.returns-then-is_some-clause-fits
returns-then-is_some-clause-fits c = λ rows rising found. tt

pub returns-clause-edits : goal.returns-clause-edits
returns-clause-edits c =
    ap edits_of c.in_ok-change.ensures
    ∙ edits_are c.args.name.now (instance_of c.args.sent.now) (records_kept c.args.kept.now) (no_record c.args.kept.now.image (sym c.is_some.ensures ∙ c.if-is_some.false))

pub returns-clause-own : goal.returns-clause-own
returns-clause-own c = ap institution_of c.in_ok-change.ensures

pub returns-clause-fits : goal.returns-clause-fits
returns-clause-fits c = λ rows rising found.
    let sent = c.args.sent.now in
    let d = sent.data_set.now in
    let facts = c.elements-elements.ensures.facts in
    let back = λ (tags : List Tag). c.written_law.ensures.read_back Explicit (cut_out tags d) (c.editing_law.ensures.cut tags d facts)
    (c.editing_law.ensures.cut_lengths Explicit tags d c.requires.lengths) tt in
    subst (ChangeFits rows) (sym c.in_ok-change.ensures)
    (new_fits c.args.name.now (instance_of sent) back c.requires.own.study c.requires.own.series c.requires.own.image
    rows rising (records_kept c.args.kept.now) found (no_record c.args.kept.now.image (sym c.is_some.ensures ∙ c.if-is_some.false)))
