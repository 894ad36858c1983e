-- Between what the code holds and the definitions.
use Rattle.std.specs.Prelude.{ℕ, ◌≤◌, nat_lt, List, [], ◌∷◌, length, if◌then◌else◌, Option, None}
use Rattle.std.specs.Result.{result_ok}
use Rattle.dq_dataset.specs.declared.header.Syntax.TheVariants.{Explicit}
use Rattle.dq_dataset.specs.Tree.{ElementList}
use Rattle.dq_dataset.specs.Canonical.{canonical, HasLengths}
use Rattle.dq_dataset.specs.DataSetReader.{data_set_read}
use Rattle.dq_config.specs.Limits.{Limits}
use Rattle.dq_tables.specs.Rows.{Record}
use Rattle.dq_tables.specs.Sound.{entry_limit}
use Rattle.dq_tables.specs.ServiceEffects.{first_refusal}
use Rattle.dq_worklist.specs.declared.completeness.Order.{Order as TheOrder}
use Rattle.dq_worklist.specs.declared.refusal.Refusal.{Refusal}
use Rattle.dq_worklist.specs.declared.refusal.Refusal.TheVariants.{Taken, Full}
use Rattle.dq_worklist.specs.Orders.{Order, order_limit, has_entry, is_worklist_full}

abbrev pub order_of : ElementList → List ℕ → Order
order_of d id = record { elements = d; id = id }

abbrev pub held_order : TheOrder → Order
held_order order = order_of order.elements.now order.id.now

-- An order that was read can be written, and is not too long for an entry.
pub record CanBeKept (d : ElementList) : Type 0 where
  pub lengths : HasLengths Explicit d
  pub short : length (canonical Explicit d) ≤ entry_limit

-- the data set of an order that is not too long
abbrev pub data_set_within : List ℕ → Option ElementList
data_set_within octets =
    if nat_lt order_limit (length octets) then None else result_ok (data_set_read Explicit octets)

-- the refusal of an order with the id because of what is kept
abbrev pub record_refusal : Limits → List Record → List ℕ → Option Refusal
record_refusal limits records id =
    first_refusal ((has_entry records id, Taken) ∷ (is_worklist_full limits records, Full) ∷ [])
