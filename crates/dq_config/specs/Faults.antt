-- The numbers of why a text spells no configuration.
use Rattle.std.specs.Prelude.{ℕ}
use Rattle.dq_config.specs.declared.fault.ConfigFault.{ConfigFault}
use Rattle.dq_config.specs.declared.fault.ConfigFault.TheVariants.{Syntax, BadName, BadTitle}
use Rattle.dq_config.specs.declared.fault.ConfigFault.TheVariants.{NameTaken, RouteTaken, BadLimit, NoMemory}

abbrev pub config_fault_number : ConfigFault → ℕ
config_fault_number Syntax = 1
config_fault_number BadName = 2
config_fault_number BadTitle = 3
config_fault_number NameTaken = 4
config_fault_number RouteTaken = 5
config_fault_number BadLimit = 6
config_fault_number NoMemory = 7
