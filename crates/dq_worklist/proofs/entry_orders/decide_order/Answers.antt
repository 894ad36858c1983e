use Rattle.std.proofs.Common.{◌≡◌, ◌∙◌, ℕ, List, refl, sym, ap, subst}
use Rattle.std.specs.Option.{option_map}
use Rattle.dq_dataset.specs.declared.header.Syntax.TheVariants.{Explicit}
use Rattle.dq_dataset.specs.Tree.{ElementList}
use Rattle.dq_config.specs.Limits.{limits_of}
use Rattle.dq_tables.specs.declared.row.Kind.TheVariants.{Entry}
use Rattle.dq_tables.specs.Rows.{of, row_of}
use Rattle.dq_tables.specs.Sound.{IsNew}
use Rattle.dq_tables.proofs.TableCalls.{reads_right}
use Rattle.dq_worklist.specs.Orders.{entry_of}
use Rattle.dq_worklist.specs.Views.{held_order, order_of, CanBeKept}
use Rattle.dq_worklist.proofs.Orders.{malformed, incomplete, complete, free_if_accepted, order_refused, order_kept}
use Rattle.dq_archive.proofs.Lookups.{free_own}
use Rattle.dq_archive.proofs.Decisions.{decides_at_once, decides_unchanged}
use Rattle.dq_worklist.proofs.Records.{new_fits}
use Rattle.dq_worklist.proofs.entry_orders.decide_order.Goals as goal

pub returns-in_default : goal.returns-in_default
returns-in_default g c =
    decides_at_once g.T.Tables.state c.args.archive.now _ _ c.refused.result c.refused.ensures
    (λ records. malformed (limits_of c.args.archive.now.institution.now) records c.args.octets.now (sym c.in_ok-data_set.ensures.read ∙ c.in_default.is))

pub returns-in_default-of : goal.returns-in_default-of
returns-in_default-of g c =
    decides_at_once g.T.Tables.state c.args.archive.now _ _ c.refused-in_default-of.result c.refused-in_default-of.ensures
    (λ records. incomplete (limits_of c.args.archive.now.institution.now) records c.args.octets.now c.in-Some.data_set
    (sym c.in_ok-data_set.ensures.read ∙ c.in-Some.is) (sym c.of.ensures.order ∙ ap (option_map held_order) c.in_default-of.is))

pub returns-in-Some-2 : goal.returns-in-Some-2
returns-in-Some-2 g c =
    let i = c.args.archive.now.institution.now in
    let limits = limits_of i in
    let records = of i.name (g.T.Tables.state c.args.archive.now.tables.now).rows in
    let order = held_order c.in-Some-of.order in
    let some = sym c.of.ensures.order ∙ ap (option_map held_order) c.in-Some-of.is in
    decides_unchanged g.T.Tables.state c.args.archive.now c.record_refusal.new.archive _ _ c.in_ok-refusal.field-0 c.in_ok-refusal.ensures _ _
    c.refused-in-Some-2.ensures
    (λ h. complete limits records c.args.octets.now c.in-Some.data_set order (sym c.in_ok-data_set.ensures.read ∙ c.in-Some.is) some
    ∙ order_refused limits records order c.in-Some-2.refusal (sym (c.in_ok-refusal.ensures.answered h) ∙ c.in-Some-2.is))

pub returns : goal.returns
returns g c =
    let i = c.args.archive.now.institution.now in
    let name = i.name in
    let limits = limits_of i in
    let rows = (g.T.Tables.state c.args.archive.now.tables.now).rows in
    let d = c.in-Some.data_set in
    let id = c.in-Some-of.order.id.now in
    let order = held_order c.in-Some-of.order in
    let some = sym c.of.ensures.order ∙ ap (option_map held_order) c.in-Some-of.is in
    let kept : CanBeKept d = rw c.in-Some.is at c.in_ok-data_set.ensures.short in
    let back = c.written_law.ensures.read_back Explicit d c.elements-elements.ensures.facts kept.lengths tt in
    let row_is : c.in_ok-row.row ≡ row_of name (entry_of order) =
    c.in_ok-row.ensures ∙ ap (λ (n : List ℕ). row_of n (entry_of order)) (c.as_slice.ensures ∙ ap (λ x. x.now.name) c.record_refusal.ensures.same.institution) in
    rw (c.with_change.ensures, row_is) (record {
      same = c.record_refusal.ensures.same;
      reads = reads_right _ _ c.in_ok-refusal.field-0 _ c.in_ok-refusal.ensures.reads;
      own = refl;
      decided = λ h. (let none = sym (c.in_ok-refusal.ensures.answered h) ∙ c.in_default-2.is in
          let free = free_own Entry name id rows (free_if_accepted limits (of name rows) id none) in
          record {
            made = complete limits (of name rows) c.args.octets.now d order (sym c.in_ok-data_set.ensures.read ∙ c.in-Some.is) some
                ∙ order_kept limits (of name rows) order none;
            fits = subst (λ (x : ElementList). IsNew rows Entry (row_of name (entry_of (order_of x id)))) (sym c.in-Some-of.ensures.whole)
                (new_fits name d id back kept.short c.in-Some-of.ensures.own rows free);
          });
    })
