-- Faults by their numbers, and tables that fail after some changes.
use Rattle.std.specs.Prelude.{ℕ, ◌-◌, ◌==◌, ◌||◌, true, if◌then◌else◌}
use Rattle.dq_tables.specs.declared.fault.TableFault.{TableFault}
use Rattle.dq_tables.specs.declared.fault.TableFault.TheVariants.{NoMemory, Store}
use Rattle.dq_tables.specs.declared.testing.fuse.Fuse.{Fuse}

abbrev pub table_fault_number : TableFault → ℕ
table_fault_number NoMemory = 1
table_fault_number Store = 2

-- A change burns one off what is left. Where none is left the fuse blows, and it stays blown.
abbrev pub burnt : Fuse → Fuse
burnt fuse =
    if fuse.blown || fuse.left == 0 then record fuse { blown = true }
    else record fuse { left = fuse.left - 1 }
