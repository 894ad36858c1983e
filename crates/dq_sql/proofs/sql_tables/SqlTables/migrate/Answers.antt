use Rattle.dq_sql.proofs.sql_tables.SqlTables.migrate.Goals as goal

pub returns-in-Ok-clause-rows : goal.returns-in-Ok-clause-rows
returns-in-Ok-clause-rows g c =
    ∣ (c.migrate_lent.new.old, record { stays = c.migrate_lent.ensures.stays; are = c.in-Ok.ensures.rows }) ∣₁

pub returns-clause-refused : goal.returns-clause-refused
returns-clause-refused g c =
    ∣ (c.migrate_lent.new.old, c.in-Err.field-0-1, c.migrate_lent.ensures.stays, c.in-Err.ensures.refused, c.in-Err.ensures.unmade) ∣₁

pub returns-clause-told : goal.returns-clause-told
returns-clause-told g c nothing rest there never =
    ∣ (c.migrate_lent.new.old, c.migrate_lent.ensures.stays, λ clean. c.in-Err.ensures.told clean nothing rest there never) ∣₁
