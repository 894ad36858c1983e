use Rattle.std.proofs.Common.{◌∙◌, ℕ, List, sym, ap, subst}
use Rattle.dq_dataset.specs.DataSetReader.{data_set_read}
use Rattle.dq_dimse.specs.Holding.{plain_message}
use Rattle.dq_tables.specs.declared.row.Kind.TheVariants.{Step}
use Rattle.dq_tables.specs.Rows.{Record, Edit}
use Rattle.dq_tables.specs.Lookups.{record_at}
use Rattle.dq_archive.specs.Archives.{Decides}
use Rattle.dq_archive.proofs.Decisions.{decides_at_once}
use Rattle.dq_mpps.specs.Views.{step_changed}
use Rattle.dq_mpps.proofs.Outcomes.{read_is, set_over, set_unread, set_handed_on}
use Rattle.dq_mpps.proofs.n_set.decide_change.Goals as goal

pub returns-then-is_over : goal.returns-then-is_over
returns-then-is_over g c =
    decides_at_once g.T.Tables.state c.args.archive.now _ _ c.unchanged.result c.unchanged.ensures
    (λ records. set_over records (plain_message c.args.message.now) c.args.syntax (sym c.is_over.ensures ∙ c.if-is_over.true))

pub returns-in_default : goal.returns-in_default
returns-in_default g c =
    decides_at_once g.T.Tables.state c.args.archive.now _ _ c.unchanged-in_default.result c.unchanged-in_default.ensures
    (λ records. set_unread records (plain_message c.args.message.now) c.args.syntax (sym c.is_over.ensures ∙ c.if-is_over.false)
    (sym c.in_ok-data_set.ensures.read ∙ c.in_default.is))

pub returns : goal.returns
returns g c =
    let sent = c.in-Some.data_set in
    let message = plain_message c.args.message.now in
    let read = read_is (data_set_read c.args.syntax message.octets) sent (sym c.in_ok-data_set.ensures.read ∙ c.in-Some.is) in
    let same = λ (records : List Record).
    ap (λ (key : List ℕ). step_changed key sent (record_at Step key records)) c.as_slice.ensures
    ∙ sym (set_handed_on records message c.args.syntax sent (sym c.is_over.ensures ∙ c.if-is_over.false) read) in
    subst (λ (does : List Record → ℕ × List Edit). Decides g.T.Tables.state c.args.archive.now c.decide_changed_step.new.archive does
    c.decide_changed_step.result) (λ i. λ records. same records i) c.decide_changed_step.ensures
