-- The number of each fault of printing.
use Rattle.std.specs.Prelude.{ℕ}
use Rattle.dq_captures.specs.declared.reply_lines.PrintFault.{PrintFault}
use Rattle.dq_captures.specs.declared.reply_lines.PrintFault.TheVariants.{NoMemory, Output}

abbrev pub print_fault_number : PrintFault → ℕ
print_fault_number NoMemory = 1
print_fault_number Output = 2
