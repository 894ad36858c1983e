-- A data set that is held as octets.
use Rattle.std.specs.Prelude.{ℕ, List}
use Rattle.std.specs.Result.{result_unwrap_or}
use Rattle.dq_dataset.specs.declared.header.Syntax.TheVariants.{Explicit}
use Rattle.dq_dataset.specs.Tree.{ElementList, no_elements}
use Rattle.dq_dataset.specs.DataSetReader.{data_set_read}

-- the data set that octets spell in Explicit
abbrev pub data_set_packed : List ℕ → ElementList
data_set_packed octets = result_unwrap_or (data_set_read Explicit octets) no_elements
