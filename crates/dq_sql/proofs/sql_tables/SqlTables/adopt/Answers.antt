use Rattle.dq_sql.proofs.sql_tables.SqlTables.adopt.Goals as goal

pub returns-clause-refused : goal.returns-clause-refused
returns-clause-refused g c = ∣ (c.in-Err.field-0-1, c.in-Err.ensures.refused) ∣₁

pub returns-clause-welcome : goal.returns-clause-welcome
returns-clause-welcome g c rows it =
    ∣ (c.in-Err.field-0-1, c.in-Err.ensures.refused.stays, c.in-Err.ensures.welcome rows it) ∣₁

pub returns-clause-told : goal.returns-clause-told
returns-clause-told g c rest there never =
    ∣ (c.in-Err.field-0-1, c.in-Err.ensures.refused.stays, c.in-Err.ensures.told rest there never) ∣₁
