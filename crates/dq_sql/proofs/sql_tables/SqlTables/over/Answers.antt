use Rattle.dq_sql.proofs.sql_tables.SqlTables.over.Goals as goal

pub invariant_of-result : goal.invariant_of-result
invariant_of-result g c = record { alone = c.requires.alone; keeps = rw c.from_rows.ensures (∣ c.requires.keeps ∣₁) }
