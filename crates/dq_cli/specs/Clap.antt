-- The command line as clap reads it: a table of commands and options.
use Rattle.std.specs.Prelude.{Bool, true, false, List, [], codes, Option, Some, None, option_and_then, unwrap_or, if◌then◌else◌}
use Rattle.std.specs.Option.{option_map_or}
use Rattle.std.specs.Str.{bytes_eq}
use Rattle.clap.specs.Words.{App, Row, Rule, Text, all_of, first_of, new_app, new_rule, with_rule, with_subcommand}
use Rattle.clap.specs.declared.builder.action.ArgAction.TheVariants.{Append, SetTrue}
use Rattle.dq_cli.specs.declared.parsed_command.Task.{Task}
use Rattle.dq_cli.specs.declared.parsed_command.Task.TheVariants.{Replay, Report}

-- an option that takes a value
abbrev pub value_rule : Text → Rule
value_rule name = record (new_rule name) { long = Some name; value_names = 1 }

-- one that has to be given
abbrev pub required_rule : Text → Rule
required_rule name = record (value_rule name) { required = true }

-- one that may be given several times, each time with a value
abbrev pub repeated_rule : Text → Rule
repeated_rule name = record (value_rule name) { action = Some Append }

-- one that takes none
abbrev pub flag_rule : Text → Rule
flag_rule name = record (new_rule name) { long = Some name; action = Some SetTrue }

-- a subcommand with the options that name files
abbrev pub task_app : Text → App
task_app name = with_rule
    (with_rule (with_rule (new_app name) (value_rule (codes "config"))) (value_rule (codes "new")))
    (value_rule (codes "store"))

-- the one that serves: with the options of its port, with those that give connections up, and whole
abbrev pub listening_app : App
listening_app = with_rule
    (with_rule (with_rule (task_app (codes "serve")) (required_rule (codes "port")))
    (value_rule (codes "turns")))
    (value_rule (codes "listen"))

abbrev pub limiting_app : App
limiting_app = with_rule
    (with_rule (with_rule listening_app (value_rule (codes "artim"))) (value_rule (codes "quiet")))
    (value_rule (codes "peer-connections"))

-- with those of the web front
abbrev pub web_app : App
web_app = with_rule
    (with_rule (with_rule (with_rule (with_rule (with_rule (with_rule limiting_app (value_rule (codes "web")))
    (value_rule (codes "web-keys")))
    (value_rule (codes "web-listen")))
    (value_rule (codes "web-host")))
    (value_rule (codes "web-origin")))
    (value_rule (codes "web-proxy")))
    (value_rule (codes "web-peer-connections"))

abbrev pub serve_app : App
serve_app = with_rule
    (with_rule (with_rule web_app (value_rule (codes "console")))
    (value_rule (codes "log-file")))
    (flag_rule (codes "log"))

-- the one that plays a capture over sockets
abbrev pub loopback_app : App
loopback_app = with_rule (new_app (codes "loopback")) (value_rule (codes "config"))

-- the one that migrates a store
abbrev pub migrate_app : App
migrate_app = with_rule
    (with_rule (new_app (codes "migrate")) (required_rule (codes "from")))
    (required_rule (codes "to"))

-- the one that checks a configuration
abbrev pub check_app : App
check_app = with_rule
    (with_rule (new_app (codes "check")) (required_rule (codes "config")))
    (value_rule (codes "store"))

-- the one that copies a store
abbrev pub copy_app : App
copy_app = with_rule
    (with_rule (with_rule (new_app (codes "copy")) (required_rule (codes "from")))
    (required_rule (codes "to")))
    (repeated_rule (codes "only"))

-- the one that exports the rows of an institution
abbrev pub export_app : App
export_app = with_rule
    (with_rule (with_rule (new_app (codes "export")) (required_rule (codes "store")))
    (required_rule (codes "only")))
    (value_rule (codes "kind"))

-- a command that tells its version when it is asked for it
abbrev pub with_version : App → App
with_version app = record app { top = record app.top { has_version = true } }

abbrev pub program_app : App
program_app = with_version (new_app (codes "dq_server"))

-- the program, with its tasks over a capture
abbrev pub tasks_app : App
tasks_app = with_subcommand
    (with_subcommand program_app (task_app (codes "replay")).top)
    (task_app (codes "report")).top

-- the same, with those that serve
abbrev pub serving_app : App
serving_app = with_subcommand (with_subcommand tasks_app serve_app.top) loopback_app.top

abbrev pub command : App
command = with_subcommand
    (with_subcommand
    (with_subcommand (with_subcommand serving_app migrate_app.top) check_app.top)
    copy_app.top)
    export_app.top

-- the value of an option of the subcommand
abbrev pub value_in : Text → Option (Text × List Row) → Option Text
value_in name = option_and_then (λ p. first_of name p.1)

-- all values of one that may be given several times
abbrev pub values_in : Text → Option (Text × List Row) → List Text
values_in name subcommand = unwrap_or (option_and_then (λ p. all_of name p.1) subcommand) []

-- whether an option that takes none is there
abbrev pub is_given : Text → Option (Text × List Row) → Bool
is_given name subcommand = option_map_or (bytes_eq (codes "true")) (value_in name subcommand) false

-- whether the subcommand has this name
abbrev pub is_subcommand : Text → Option (Text × List Row) → Bool
is_subcommand name None = false
is_subcommand name (Some p) = bytes_eq name p.0

-- what is done with a capture: a replay where no report is named
abbrev pub task_in : Option (Text × List Row) → Task
task_in subcommand = if is_subcommand (codes "report") subcommand then Report else Replay
