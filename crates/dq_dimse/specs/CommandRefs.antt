-- A command whose identifiers are lent.
use Rattle.dq_dimse.specs.declared.command.Command.{Command}
use Rattle.dq_dimse.specs.declared.command.CommandRef.{CommandRef}

-- the command that it is
abbrev pub command_of_ref : CommandRef → Command
command_of_ref lent = record {
  code = lent.code;
  id = lent.id;
  sop_class = lent.sop_class.now;
  sop_instance = lent.sop_instance.now;
  with_data = lent.with_data;
  status = lent.status;
}
