use Rattle.std.proofs.Common.{Err, inl, refl, ap}
use Rattle.sqlite.specs.Held.{state}
use Rattle.dq_sql.specs.declared.migrate_fault.MigrateFault.TheVariants.{NoMemory}
use Rattle.dq_sql.specs.Migration.{IsNotTaken}
use Rattle.dq_sql.proofs.Migrations.{by_fault, not_blamed, told_by, told_of_old}
use Rattle.dq_sql.proofs.migration.rows_migrated.Goals as goal

pub returns-in_err-rows-clause-refused : goal.returns-in_err-rows-clause-refused
returns-in_err-rows-clause-refused g c =
    let old = state g.S.Store c.args.old.now in
    let left = state g.S.Store c.kept_rows.new.conn in
    by_fault c.from_residual.result (IsNotTaken old left) c.from_residual.ensures.1
    (told_by old left c.in_err-rows.field-0.0 (λ clean is. c.in_err-rows.ensures.wrong clean (ap Err is))
    (λ clean is. c.in_err-rows.ensures.said clean (ap Err is)) (λ clean is. c.in_err-rows.ensures.bad clean (ap Err is)))

pub returns-in_err-start_named-clause-refused : goal.returns-in_err-start_named-clause-refused
returns-in_err-start_named-clause-refused g c =
    let old = state g.S.Store c.args.old.now in
    let left = state g.S.Store c.kept_rows.new.conn in
    by_fault c.from_residual-in_err-start_named.result (IsNotTaken old left) c.from_residual-in_err-start_named.ensures.1
    (not_blamed old left NoMemory (inl refl))

pub returns-clause-migrated : goal.returns-clause-migrated
returns-clause-migrated g c clean = record {
  kept = c.in_ok-rows.rows.items;
  found = c.in_ok-rows.ensures.found clean;
  is = c.in_ok-start_named.ensures.done;
}

pub returns-clause-sound : goal.returns-clause-sound
returns-clause-sound g c = c.in_ok-start_named.ensures.sound

pub returns-in_err-rows-clause-told : goal.returns-in_err-rows-clause-told
returns-in_err-rows-clause-told g c clean rest there never =
    told_of_old (state g.S.Store c.args.old.now) (state g.S.Store c.kept_rows.new.conn) c.from_residual.result c.in_err-rows.field-0.0 c.from_residual.ensures.1
    (c.in_err-rows.ensures.told clean rest there never)
