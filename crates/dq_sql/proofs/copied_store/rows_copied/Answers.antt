use Rattle.std.proofs.Common.{Err, ap, subst, sym}
use Rattle.sqlite.specs.Held.{state}
use Rattle.dq_tables.specs.Sound.{IsSound}
use Rattle.dq_sql.specs.declared.version.Version.TheVariants.{Two}
use Rattle.dq_sql.specs.FoundStores.{IsRefused}
use Rattle.dq_sql.proofs.Migrations.{by_fault}
use Rattle.dq_sql.proofs.CopiedStore.{copied_sound}
use Rattle.dq_sql.proofs.copied_store.rows_copied.Goals as goal

pub returns-clause-sound : goal.returns-clause-sound
returns-clause-sound g c = subst IsSound (sym c.keep_named.ensures) (copied_sound _ c.in_ok-rows.rows.items c.in_ok-rows.ensures.sound)

pub returns-clause-copied : goal.returns-clause-copied
returns-clause-copied g c clean = record {
  kept = c.in_ok-rows.rows.items;
  found = c.in_ok-rows.ensures.found clean;
  is = c.keep_named.ensures;
}

pub returns-in_err-rows-clause-refused : goal.returns-in_err-rows-clause-refused
returns-in_err-rows-clause-refused g c =
    by_fault c.from_residual.result (IsRefused (state g.S.Store c.args.old.now) (state g.S.Store c.kept_rows.new.conn) Two) c.from_residual.ensures.1
    (record {
      stays = c.kept_rows.ensures.stays;
      wrong = λ clean is. c.in_err-rows.ensures.wrong clean (ap Err is);
      said = λ clean is. c.in_err-rows.ensures.said clean (ap Err is);
      bad = λ clean is. c.in_err-rows.ensures.bad clean (ap Err is);
    })
