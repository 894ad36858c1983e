-- What a copy of tables holds.
use Rattle.std.proofs.Common.{◌≡◌, List, false, IsTrue}
use Rattle.std.proofs.Math.Logic.{∥∥₁_elim}
use Rattle.sqlite.specs.State.{State, HasCleanDisk, Survives}
use Rattle.dq_tables.specs.declared.row.Row.{Row}
use Rattle.dq_sql.specs.declared.version.Version.TheVariants.{Two}
use Rattle.dq_sql.specs.Tie.{IsAtRest, IsSame}
use Rattle.dq_sql.specs.OneContent.{one_list}
use Rattle.dq_sql.specs.FirstRows.{HasThese, IsNotMade}
use Rattle.dq_sql.specs.FoundStores.{IsFound}
use Rattle.dq_sql.proofs.KeptRows.{Kept, rows_set}

-- what is found in a store is what is kept of it
pub same_rows : (s : State) (found rows : List Row) → Kept s rows → HasCleanDisk s → IsFound Two s found → found ≡ rows
same_rows s found rows kept clean it = ∥∥₁_elim kept (rows_set found rows) (λ k. one_list s.now found rows it.has ((k clean).has it.is_open))

pub not_made : (old left : State) (rows : List Row) → Survives old left (HasThese rows) → left.in_transaction ≡ false
    → (HasCleanDisk left → IsTrue left.is_open → IsAtRest old → IsSame old left) → IsNotMade old left rows
not_made old left rows survives mode same = record { survives = survives; mode = λ _. mode; same = same }
