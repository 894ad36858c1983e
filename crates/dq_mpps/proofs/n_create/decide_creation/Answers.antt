use Rattle.std.proofs.Common.{◌∙◌, ℕ, List, sym, ap, subst}
use Rattle.dq_value.specs.Uid.{is_uid}
use Rattle.dq_dataset.specs.DataSetReader.{data_set_read}
use Rattle.dq_dimse.specs.Holding.{plain_message}
use Rattle.dq_config.specs.Limits.{limits_of}
use Rattle.dq_tables.specs.Rows.{Record, Edit}
use Rattle.dq_archive.specs.Archives.{Decides}
use Rattle.dq_archive.proofs.Decisions.{decides_at_once}
use Rattle.dq_mpps.specs.Views.{step_created}
use Rattle.dq_mpps.proofs.Outcomes.{read_is, create_over, create_unread, create_unnamed, create_handed_on}
use Rattle.dq_mpps.proofs.n_create.decide_creation.Goals as goal

pub returns-then-is_over : goal.returns-then-is_over
returns-then-is_over g c =
    let limits = limits_of c.args.archive.now.institution.now in
    decides_at_once g.T.Tables.state c.args.archive.now _ _ c.unchanged.result c.unchanged.ensures
    (λ records. create_over limits records (plain_message c.args.message.now) c.args.syntax (sym c.is_over.ensures ∙ c.if-is_over.true))

pub returns-in_default : goal.returns-in_default
returns-in_default g c =
    let limits = limits_of c.args.archive.now.institution.now in
    decides_at_once g.T.Tables.state c.args.archive.now _ _ c.unchanged-in_default.result c.unchanged-in_default.ensures
    (λ records. create_unread limits records (plain_message c.args.message.now) c.args.syntax (sym c.is_over.ensures ∙ c.if-is_over.false)
    (sym c.in_ok-data_set.ensures.read ∙ c.in_default.is))

pub returns-then-not-is_uid : goal.returns-then-not-is_uid
returns-then-not-is_uid g c =
    let limits = limits_of c.args.archive.now.institution.now in
    let message = plain_message c.args.message.now in
    let read = read_is (data_set_read c.args.syntax message.octets) c.in-Some.data_set (sym c.in_ok-data_set.ensures.read ∙ c.in-Some.is) in
    decides_at_once g.T.Tables.state c.args.archive.now _ _ c.unchanged-then-not-is_uid.result c.unchanged-then-not-is_uid.ensures
    (λ records. create_unnamed limits records message c.args.syntax c.in-Some.data_set (sym c.is_over.ensures ∙ c.if-is_over.false) read
    (ap is_uid (sym c.as_slice-uid.ensures) ∙ sym c.is_uid.ensures ∙ c.if-not-is_uid.true))

pub returns : goal.returns
returns g c =
    let limits = limits_of c.args.archive.now.institution.now in
    let message = plain_message c.args.message.now in
    let step = c.in-Some.data_set in
    let read = read_is (data_set_read c.args.syntax message.octets) step (sym c.in_ok-data_set.ensures.read ∙ c.in-Some.is) in
    let uid_is = ap is_uid (sym c.as_slice-uid.ensures) ∙ sym c.is_uid.ensures ∙ c.if-not-is_uid.false in
    let same = λ (records : List Record).
    ap (λ (key : List ℕ). step_created limits key step records) c.as_slice-uid.ensures
    ∙ sym (create_handed_on limits records message c.args.syntax step (sym c.is_over.ensures ∙ c.if-is_over.false) read uid_is) in
    subst (λ (does : List Record → ℕ × List Edit). Decides g.T.Tables.state c.args.archive.now c.decide_new_step.new.archive does
    c.decide_new_step.result) (λ i. λ records. same records i) c.decide_new_step.ensures
