-- Which stores are opened, and why others are not.
use Rattle.std.specs.Prelude.{ℕ}
use Rattle.sqlite.specs.declared.error.Error.{Error}
use Rattle.sqlite.specs.declared.error.Error.TheVariants.{SqliteFailure}
use Rattle.sqlite.specs.declared.error.ErrorCode.TheVariants.{OutOfMemory}
use Rattle.dq_tables.specs.declared.fault.TableFault.{TableFault}
use Rattle.dq_tables.specs.declared.fault.TableFault.TheVariants as tables
use Rattle.dq_sql.specs.declared.fault.StoreFault.{StoreFault}
use Rattle.dq_sql.specs.declared.fault.StoreFault.TheVariants.{NoMemory, Store, WrongVersion, BadRows}

abbrev pub store_fault_number : StoreFault → ℕ
store_fault_number NoMemory = 1
store_fault_number Store = 2
store_fault_number WrongVersion = 3
store_fault_number BadRows = 4

-- want of memory, or else that the store failed
abbrev pub store_fault : Error → StoreFault
store_fault (SqliteFailure OutOfMemory) = NoMemory
store_fault _ = Store

-- the same of a call of tables
abbrev pub of_tables : TableFault → StoreFault
of_tables tables.NoMemory = NoMemory
of_tables tables.Store = Store
