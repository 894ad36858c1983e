use Rattle.std.proofs.Common.{subst, sym}
use Rattle.dq_tables.specs.Sound.{IsSound}
use Rattle.dq_sql.proofs.StartedRows.{next_starts, all_started, migrated_sound}
use Rattle.dq_sql.proofs.kept_steps.start_named.Goals as goal

pub loop-entries-preserved : goal.loop-entries-preserved
loop-entries-preserved c = (
  next_starts c.deref-entries-items.result.now c.loop-entries.entries-index c.entries-item.result c.args.rows.now.items c.loop-entries.rows.items
      c.start.new.rows.items c.loop-entries-test.true c.entries-item.is c.loop-entries.invariant.0 c.start.ensures.done,
  c.start.ensures.rising,
)

pub returns-clause-done : goal.returns-clause-done
returns-clause-done c =
    all_started c.in_ok-all.all.items c.deref-entries-items.result.now c.loop-entries.entries-index c.args.rows.now.items c.as_slice.result.now
    c.loop-entries.rows.items c.as_slice.ensures.value c.in_ok-all.ensures c.deref-entries-items.ensures.value c.loop-entries-test.false
    c.loop-entries.invariant.0

pub returns-clause-sound : goal.returns-clause-sound
returns-clause-sound c = subst IsSound (sym (returns-clause-done c)) (migrated_sound c.args.rows.now.items c.requires)
