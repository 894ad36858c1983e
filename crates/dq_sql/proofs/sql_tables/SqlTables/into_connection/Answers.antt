use Rattle.std.proofs.Common.{subst}
use Rattle.std.proofs.Math.Logic.{∥∥₁_map}
use Rattle.dq_sql.specs.Tie.{HasRows}
use Rattle.dq_sql.proofs.sql_tables.SqlTables.into_connection.Goals as goal

pub returns-clause-rows : goal.returns-clause-rows
returns-clause-rows g c clean opened =
    ∥∥₁_map c.args.self.keeps (λ k. subst (λ d. HasRows d c.args.self.history.rows) ((k clean).settled opened) ((k clean).has opened))

pub returns-clause-left : goal.returns-clause-left
returns-clause-left g c clean trees left =
    ∥∥₁_map c.args.self.keeps (λ k. let it = (k clean).left trees left in (it.rows, record { trees = trees; left = left; has = it.has }, it.has))
