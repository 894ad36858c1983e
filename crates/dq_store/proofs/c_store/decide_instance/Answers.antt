use Rattle.std.proofs.Common.{◌≡◌, ◌∙◌, ℕ, List, Ok, sym, ap, subst, arith}
use Rattle.std.proofs.lemmas.Result.{err_from_is_err_and}
use Rattle.dq_config.specs.Limits.{limits_of}
use Rattle.dq_tables.specs.declared.fault.TableFault.TheVariants.{NoMemory}
use Rattle.dq_tables.specs.Rows.{of}
use Rattle.dq_tables.specs.TableStates.{State, Reads}
use Rattle.dq_tables.proofs.TableCalls.{refused, reads_refused, reads_right}
use Rattle.dq_archive.specs.Archives.{state_in, records_in}
use Rattle.dq_archive.specs.Decisions.{IsOwn}
use Rattle.dq_archive.proofs.Decisions.{decides_unchanged}
use Rattle.dq_store.specs.CStore.{kept_among}
use Rattle.dq_store.specs.Views.{instance_of, records_kept}
use Rattle.dq_store.proofs.Outcomes.{refused_instance, kept_instance, kept_records}
use Rattle.dq_store.proofs.c_store.decide_instance.Goals as goal

pub returns-in_err-kept : goal.returns-in_err-kept
returns-in_err-kept g c =
    let left = err_from_is_err_and c.from_residual.result c.from_residual.ensures.1 in
    let found = c.in_err-kept.ensures in
    rw (left.1, left.2) (record {
      same = found.same;
      reads = reads_refused (state_in g.T.Tables.state c.args.archive.now) (state_in g.T.Tables.state c.kept_unless_refused.new.archive) c.in_err-kept.field-0.0 found.reads;
      own = tt;
      decided = λ h. tt;
    })

pub returns-in-Err : goal.returns-in-Err
returns-in-Err g c =
    let state = g.T.Tables.state in
    let old = c.args.archive.now in
    let found = c.in_ok-kept.ensures in
    decides_unchanged state old c.kept_unless_refused.new.archive _ _ c.in_ok-kept.field-0 found c.in-Err.status c.unchanged.result c.unchanged.ensures
    (λ h. refused_instance (limits_of old.institution.now) (records_in state old) c.args.sent.now.other (instance_of c.args.sent.now)
    old.institution.now.name c.in-Err.status (sym c.in-Err.is ∙ found.answered h))

no_memory : {A B : Type 0} (old new : State) (x : A) → Reads old new (Ok x) → Reads old new (refused B NoMemory)
no_memory old new x reads = grind arith

pub returns-in_err-decision : goal.returns-in_err-decision
returns-in_err-decision g c =
    let left = err_from_is_err_and c.from_residual-in_err-decision.result c.from_residual-in_err-decision.ensures.1 in
    let found = c.in_ok-kept.ensures in
    rw (left.1, left.2) (record {
      same = found.same;
      reads = no_memory (state_in g.T.Tables.state c.args.archive.now) (state_in g.T.Tables.state c.kept_unless_refused.new.archive) c.in_ok-kept.field-0 found.reads;
      own = tt;
      decided = λ h. tt;
    })

pub returns : goal.returns
returns g c =
    let state = g.T.Tables.state in
    let old = c.args.archive.now in
    let new = c.kept_unless_refused.new.archive in
    let name = old.institution.now.name in
    let rows = (state_in state old).rows in
    let limits = limits_of old.institution.now in
    let sent = instance_of c.args.sent.now in
    let other = c.args.sent.now.other in
    let kept = c.in-Ok.kept in
    let found = c.in_ok-kept.ensures in
    let made = c.in_ok-decision.ensures in
    let named = c.as_slice-name.ensures ∙ ap (λ i. i.now.name) found.same.institution in
    record {
      same = found.same;
      reads = reads_right (state_in state old) (state_in state new) c.in_ok-kept.field-0 _ found.reads;
      own = subst (λ (n : List ℕ). IsOwn n c.in_ok-decision.decision.change) named made.own;
      decided = λ h. (let is = sym c.in-Ok.is ∙ found.answered h in
          record {
            made = kept_instance limits (of name rows) other sent name kept is ∙ sym made.made;
            fits = made.fits rows (g.met.T.Tables.sound old.tables.now (found.reads.goes.was_honest h)).rising
                (subst (λ (n : List ℕ). records_kept kept ≡ kept_among (of n rows) sent) (sym named) (kept_records limits (of name rows) other sent name kept is));
          });
    }
