use Rattle.std.proofs.Common.{List, ℕ, ◌++◌, refl, ap, ◌∙◌, arith}
use Rattle.dq_core.specs.declared.pages.OpenQuery.{OpenQuery}
use Rattle.dq_core.specs.Queries.{open_query_of}
use Rattle.dq_core.proofs.Sending.{none-sent, one-sent, so-many, not-none}
use Rattle.dq_core.proofs.pages.OpenQuery.send_pending.Goals as goal

pub loop-preserved : goal.loop-preserved
loop-preserved c =
    let given = rw c.in-Some.is at c.in_ok-next.ensures in (
      one-sent c.loop.invariant.0 c.next_octets.new.self given.0 _ c.extend_from_slice.new.self.items c.append_data_set.new.out.items
          given.1 c.loop.invariant.3
          (c.in_ok-extend_from_slice.ensures.items ∙ ap (λ (x : List ℕ). c.loop.out.items ++ x) c.deref.ensures.value)
          (rw (c.octets.ensures.same, c.deref-in-loop.ensures.value, given.2) at c.in_ok-append_data_set.ensures),
      omega (arith, c.loop-test.true),
      refl,
      c.loop.invariant.3,
    )

pub loop-init : goal.loop-init
loop-init c = (
  none-sent c.args.self.now c.args.out.now.items,
  omega (arith),
  refl,
  rw (
    c.new-command.ensures.items,
    c.recipient.ensures.0,
    c.recipient.ensures.1,
    c.recipient.ensures.2,
    c.pending_status-status.ensures,
    c.optional.ensures,
  ) at c.in_ok-put_command.ensures,
)

pub returns-in_default-clause-sent : goal.returns-in_default-clause-sent
returns-in_default-clause-sent c = λ records.
    absurd (not-none c.loop.invariant.0 c.args.count (omega (arith, c.loop-test.true)) c.requires (rw c.in_default.is at c.in_ok-next.ensures).0)

pub returns-in_default-clause-left : goal.returns-in_default-clause-left
returns-in_default-clause-left c = λ records.
    absurd (not-none c.loop.invariant.0 c.args.count (omega (arith, c.loop-test.true)) c.requires (rw c.in_default.is at c.in_ok-next.ensures).0)

pub returns-clause-sent : goal.returns-clause-sent
returns-clause-sent c = λ records. (so-many c.loop.invariant.0 records c.args.count (omega (arith, c.loop.auto.counter-end, c.loop-test.false))).0

pub returns-clause-left : goal.returns-clause-left
returns-clause-left c = λ records. ap (open_query_of records) c.count.ensures ∙ (so-many c.loop.invariant.0 records c.args.count (omega (arith, c.loop.auto.counter-end, c.loop-test.false))).1

pub returns-clause-since : goal.returns-clause-since
returns-clause-since c = ap (λ (q : OpenQuery). q.since) c.count.ensures ∙ c.loop.invariant.0.since
