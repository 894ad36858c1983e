-- The contents of records, and their order.
use Rattle.std.specs.Prelude.{◌≡◌, ℕ, List, [], ◌∷◌}
use Rattle.std.specs.declared.cmp.Ordering.TheVariants.{Less}
use Rattle.std.specs.List.{AllByRecursion}
use Rattle.std.specs.Result.{result_unwrap_or}
use Rattle.dq_dataset.specs.declared.header.Syntax.TheVariants.{Explicit}
use Rattle.dq_dataset.specs.Tree.{ElementList, no_elements}
use Rattle.dq_dataset.specs.DataSetReader.{data_set_read}
use Rattle.dq_tables.specs.Rows.{Record, octet_order}

-- the data set that the octets of a record spell, in Explicit
unfoldable pub data_set_of : List ℕ → ElementList
data_set_of octets = result_unwrap_or (data_set_read Explicit octets) no_elements

-- in the order of their keys, octet by octet, no two alike
abbrev pub AreInOrder : List Record → Type 0
AreInOrder [] = Unit {0}
AreInOrder (r ∷ later) =
    AllByRecursion (λ (s : Record). octet_order r.key s.key ≡ Less) later × AreInOrder later
