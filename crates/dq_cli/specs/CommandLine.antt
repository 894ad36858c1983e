-- The command that the words of a command line ask for.
use Rattle.std.specs.Prelude.{ℕ, ◌==◌, Bool, ◌^◌, ◌&&◌, ◌||◌, not, nat_lt, if◌then◌else◌, List, [], ◌∷◌, length, map, drop, codes}
use Rattle.std.specs.Prelude.{Option, Some, None, is_some, option_map, option_and_then, unwrap_or}
use Rattle.std.specs.Char.{is_ascii_digit, is_ascii_lowercase}
use Rattle.std.specs.List.{list_all, starts_with, before_first, after_first}
use Rattle.std.specs.Option.{option_copied}
use Rattle.std.specs.Str.{all_ascii_digits, bytes_eq}
use Rattle.std.specs.Str.Parse.{digits_value}
use Rattle.clap.specs.Words.{Kinds, Row, Text, fault_of, subcommand_of}
use Rattle.dq_cli.specs.Clap.{command, value_in, values_in, is_given, is_subcommand, task_in}
use Rattle.dq_cli.specs.declared.parsed_command.CaptureCommand.{CaptureCommand}
use Rattle.dq_cli.specs.declared.parsed_command.Copying.{Copying}
use Rattle.dq_cli.specs.declared.parsed_command.Export.{Export}
use Rattle.dq_cli.specs.declared.parsed_command.Inspection.{Inspection}
use Rattle.dq_cli.specs.declared.parsed_command.ParsedCommand.{ParsedCommand}
use Rattle.dq_cli.specs.declared.parsed_command.ParsedCommand.TheVariants as parsed
use Rattle.dq_cli.specs.declared.parsed_command.Keeper.{Keeper}
use Rattle.dq_cli.specs.declared.parsed_command.Keeper.TheVariants as keeper
use Rattle.dq_cli.specs.declared.parsed_command.Migration.{Migration}
use Rattle.dq_cli.specs.declared.parsed_command.RowKind.{RowKind}
use Rattle.dq_cli.specs.declared.parsed_command.RowKind.TheVariants.{Studies, Series, Images, Worklist, Steps}
use Rattle.dq_cli.specs.declared.parsed_command.Service.{Service}
use Rattle.dq_cli.specs.declared.parsed_command.Task.{Task}
use Rattle.dq_cli.specs.declared.parsed_command.Web.{Web}

-- the program's own name, with which a command line begins
abbrev pub program_name : List ℕ
program_name = codes "dq_server"

abbrev pub line_of : List (List ℕ) → List (List ℕ)
line_of words = program_name ∷ words

-- where the rows are kept: in memory, in a store that is made in a file, or in the one that a file
-- holds
pub data RowsPlace : Type 0 where
  InMemory : RowsPlace
  InNewStore : List ℕ → RowsPlace
  InStore : List ℕ → RowsPlace

-- a task over a capture, the file of the configuration if one is named, and where the rows are kept
pub record Request : Type 0 where
  pub task : Task
  pub config : Option (List ℕ)
  pub place : RowsPlace

-- Where requests of the web front come in: a port of an address; the host that a proxy before it is
-- called by, the origin of a viewer whose pages may read, and the address of that proxy, if they are named; the file
-- of its keys; and how many connections may come of one address, 0 any number.
pub record WebFront : Type 0 where
  pub port : ℕ
  pub address : List ℕ
  pub host : Option (List ℕ)
  pub origin : Option (List ℕ)
  pub proxy : Option (List ℕ)
  pub keys : List ℕ
  pub peer_connections : ℕ

-- The port and the address where connections come in; for how many seconds ARTIM runs (PS3.8 section
-- 9.1.5), 0 for ever; after how many seconds of silence a connection counts as ended, if it does; how
-- many may come of one address, 0 any number; whether what becomes of them is logged, and the file of
-- the log if one is named; the path of the console and the web front, if they are there; after how
-- many turns the service ends, if it ends; and what it goes by.
pub record Serving : Type 0 where
  pub port : ℕ
  pub address : List ℕ
  pub artim : ℕ
  pub quiet : Option ℕ
  pub peer_connections : ℕ
  pub is_logged : Bool
  pub log_file : Option (List ℕ)
  pub console : Option (List ℕ)
  pub web : Option WebFront
  pub turns : Option ℕ
  pub config : Option (List ℕ)
  pub place : RowsPlace

-- the file of a store of the version before, and the one in which the new store is made
pub record Migrating : Type 0 where
  pub from : List ℕ
  pub to : List ℕ

-- the file of a configuration that is checked, and that of a store, if one is named
pub record Checking : Type 0 where
  pub config : List ℕ
  pub store : Option (List ℕ)

-- the file of a store, the one in which a copy is made, and the names of the institutions whose rows
-- it has: of all, where none is named
pub record Duplicating : Type 0 where
  pub from : List ℕ
  pub to : List ℕ
  pub only : List (List ℕ)

-- the file of a store, the name of the institution whose rows are exported, and their kind: every
-- kind, where none is named
pub record Exporting : Type 0 where
  pub store : List ℕ
  pub only : List ℕ
  pub kind : Option RowKind

-- what a command line asks for: a task over a capture, to serve, to play a capture over sockets
-- with a configuration, to migrate a store, to check a configuration, to copy a store, or to export
-- the rows of an institution
pub data Command : Type 0 where
  Plays : Request → Command
  Serves : Serving → Command
  Loops : Option (List ℕ) → Command
  Migrates : Migrating → Command
  Checks : Checking → Command
  Copies : Duplicating → Command
  Exports : Exporting → Command

-- the place that `--new` and `--store` name, which exclude each other
abbrev pub place_by_options : Option (List ℕ) → Option (List ℕ) → Option RowsPlace
place_by_options None None = Some InMemory
place_by_options (Some new) None = Some (InNewStore new)
place_by_options None (Some store) = Some (InStore store)
place_by_options (Some new) (Some store) = None

abbrev pub place_named : Option (Text × List Row) → Option RowsPlace
place_named subcommand =
    place_by_options (value_in (codes "new") subcommand) (value_in (codes "store") subcommand)

-- the number below a bound that a text of decimal digits tells
abbrev pub number_below : ℕ → List ℕ → Option ℕ
number_below bound text =
    let number = digits_value 10 text in
    if all_ascii_digits text && (nat_lt 0 (length text) && nat_lt number bound) then Some number
    else None

-- one that is not 0
abbrev pub positive_below : ℕ → List ℕ → Option ℕ
positive_below bound text =
    option_and_then (λ number. if nat_lt 0 number then Some number else None)
    (number_below bound text)

-- a port, from 1 to 65,535
abbrev pub port_told : List ℕ → Option ℕ
port_told text = positive_below (2 ^ 16) text

-- a number of seconds, from 1 to 4,294,967,295
abbrev pub seconds_told : List ℕ → Option ℕ
seconds_told text = positive_below (2 ^ 32) text

-- a number of turns, of seconds or of connections, up to 4,294,967,295
abbrev pub number_told : List ℕ → Option ℕ
number_told text = number_below (2 ^ 32) text

-- The value that an option tells, if it is there. None if it is there and tells nothing.
abbrev pub told_if_given : {X : Type 0} → (List ℕ → Option X) → Option (List ℕ) → Option (Option X)
told_if_given told None = Some None
told_if_given told (Some text) = option_map Some (told text)

-- the address where none is named: the machine's own
abbrev pub loopback_address : List ℕ
loopback_address = codes "127.0.0.1"

-- for how many seconds ARTIM runs where none are named (PS3.8 section 9.1.5)
abbrev pub artim_seconds : ℕ
artim_seconds = 30

-- that as many connections of one address may come as there is room for
abbrev pub no_peer_limit : ℕ
no_peer_limit = 0

-- how many connections of one address may come to the web front where no number is named
abbrev pub web_peer_limit : ℕ
web_peer_limit = 16

-- what a subcommand asks for with its options
abbrev pub subcommand_request : Option (Text × List Row) → Option Request
subcommand_request subcommand = option_map (λ place. record {
  task = task_in subcommand;
  config = value_in (codes "config") subcommand;
  place = place;
}) (place_named subcommand)

-- a name of hosts or an IPv4 address, as browsers write it: small letters, digits, points and hyphens
abbrev pub is_of_host : ℕ → Bool
is_of_host octet = is_ascii_lowercase octet || (is_ascii_digit octet || (octet == 45 || octet == 46))

abbrev pub is_host : List ℕ → Bool
is_host text = not (length text == 0) && list_all is_of_host text

abbrev pub is_colon : ℕ → Bool
is_colon octet = octet == 58

abbrev pub before_colon : List ℕ → List ℕ
before_colon text = before_first is_colon text

abbrev pub after_colon : List ℕ → List ℕ
after_colon text = after_first is_colon text

-- a host alone, or one with a port behind a colon
abbrev pub is_host_and_port : List ℕ → Bool
is_host_and_port text = is_host (before_colon text)
    && (length (before_colon text) == length text || is_some (port_told (after_colon text)))

-- behind a scheme
abbrev pub is_behind : List ℕ → List ℕ → Bool
is_behind scheme text =
    starts_with ◌==◌ text scheme && is_host_and_port (drop (length scheme) text)

-- an origin, as browsers write it (RFC 6454 section 6.2)
abbrev pub is_origin : List ℕ → Bool
is_origin text = is_behind (codes "http://") text || is_behind (codes "https://") text

abbrev pub origin_told : List ℕ → Option (List ℕ)
origin_told text = if is_origin text then Some text else None

abbrev pub origin_named : Option (Text × List Row) → Option (Option (List ℕ))
origin_named subcommand = told_if_given origin_told (value_in (codes "web-origin") subcommand)

-- The web front that the options name: its port and its keys, or neither, and then no more of it. None
-- where they go not together, or the port is none.
abbrev pub web_by_options : Option (List ℕ) → Option (List ℕ) → Option (List ℕ) → Option (List ℕ)
    → Option (List ℕ) → Option (List ℕ) → Option ℕ → Option (Option WebFront)
web_by_options (Some port) (Some keys) address host origin proxy peers = option_map (λ number. Some (record {
  port = number;
  address = unwrap_or address loopback_address;
  host = host;
  origin = origin;
  proxy = proxy;
  keys = keys;
  peer_connections = unwrap_or peers web_peer_limit;
})) (port_told port)
web_by_options (Some port) None address host origin proxy peers = None
web_by_options None (Some keys) address host origin proxy peers = None
web_by_options None None None None None None None = Some None
web_by_options None None (Some address) host origin proxy peers = None
web_by_options None None None (Some host) origin proxy peers = None
web_by_options None None None None (Some origin) proxy peers = None
web_by_options None None None None None (Some proxy) peers = None
web_by_options None None None None None None (Some peers) = None

abbrev pub web_named : Option (Text × List Row) → Option (Option WebFront)
web_named subcommand = option_and_then (λ origin. option_and_then
    (web_by_options (value_in (codes "web") subcommand) (value_in (codes "web-keys") subcommand)
    (value_in (codes "web-listen") subcommand) (value_in (codes "web-host") subcommand) origin
    (value_in (codes "web-proxy") subcommand))
    (told_if_given number_told (value_in (codes "web-peer-connections") subcommand)))
    (origin_named subcommand)

-- The file by which clients come in that are no associations: the path of the console, or the keys of the
-- web front.
abbrev pub clients_at : Option (List ℕ) → Option WebFront → Option (List ℕ)
clients_at (Some path) web = Some path
clients_at None (Some web) = Some web.keys
clients_at None None = None

abbrev pub clients_of : Serving → Option (List ℕ)
clients_of serving = clients_at serving.console serving.web

abbrev pub serving_of : Option (Text × List Row) → Option Serving
serving_of subcommand =
    option_and_then (λ port. option_and_then (λ turns. option_and_then (λ quiet.
    option_and_then (λ artim. option_and_then (λ peers. option_and_then (λ web.
    option_map (λ place. record {
      port = port;
      address = unwrap_or (value_in (codes "listen") subcommand) loopback_address;
      artim = unwrap_or artim artim_seconds;
      quiet = quiet;
      peer_connections = unwrap_or peers no_peer_limit;
      is_logged = is_given (codes "log") subcommand;
      log_file = value_in (codes "log-file") subcommand;
      console = value_in (codes "console") subcommand;
      web = web;
      turns = turns;
      config = value_in (codes "config") subcommand;
      place = place;
    }) (place_named subcommand))
    (web_named subcommand))
    (told_if_given number_told (value_in (codes "peer-connections") subcommand)))
    (told_if_given number_told (value_in (codes "artim") subcommand)))
    (told_if_given seconds_told (value_in (codes "quiet") subcommand)))
    (told_if_given number_told (value_in (codes "turns") subcommand)))
    (option_and_then port_told (value_in (codes "port") subcommand))

-- both files have to be named
abbrev pub files_of : Option (List ℕ) → Option (List ℕ) → Option Migrating
files_of (Some from) (Some to) = Some (record { from = from; to = to })
files_of (Some from) None = None
files_of None to = None

abbrev pub migration_of : Option (Text × List Row) → Option Migrating
migration_of subcommand =
    files_of (value_in (codes "from") subcommand) (value_in (codes "to") subcommand)

abbrev pub checking_of : Option (Text × List Row) → Option Checking
checking_of subcommand =
    option_map (λ config. record { config = config; store = value_in (codes "store") subcommand })
    (value_in (codes "config") subcommand)

abbrev pub duplicating_of : Option (Text × List Row) → Option Duplicating
duplicating_of subcommand = option_map (λ (files : Migrating). record {
  from = files.from;
  to = files.to;
  only = values_in (codes "only") subcommand;
}) (migration_of subcommand)

-- the kind of rows that a word names, the same as an order of the console searches for
abbrev pub kind_told : List ℕ → Option RowKind
kind_told word =
    if bytes_eq (codes "studies") word then Some Studies
    else if bytes_eq (codes "series") word then Some Series
    else if bytes_eq (codes "images") word then Some Images
    else if bytes_eq (codes "worklist") word then Some Worklist
    else if bytes_eq (codes "steps") word then Some Steps
    else None

-- both the store and the institution have to be named
abbrev pub export_by : Option (List ℕ) → Option (List ℕ) → Option RowKind → Option Exporting
export_by (Some store) (Some only) kind = Some (record { store = store; only = only; kind = kind })
export_by (Some store) None kind = None
export_by None only kind = None

abbrev pub exporting_of : Option (Text × List Row) → Option Exporting
exporting_of subcommand = option_and_then
    (export_by (value_in (codes "store") subcommand) (value_in (codes "only") subcommand))
    (told_if_given kind_told (value_in (codes "kind") subcommand))

abbrev pub command_of : Option (Text × List Row) → Option Command
command_of subcommand =
    if is_subcommand (codes "serve") subcommand then option_map Serves (serving_of subcommand)
    else if is_subcommand (codes "loopback") subcommand
    then Some (Loops (value_in (codes "config") subcommand))
    else if is_subcommand (codes "migrate") subcommand
    then option_map Migrates (migration_of subcommand)
    else if is_subcommand (codes "check") subcommand
    then option_map Checks (checking_of subcommand)
    else if is_subcommand (codes "copy") subcommand
    then option_map Copies (duplicating_of subcommand)
    else if is_subcommand (codes "export") subcommand
    then option_map Exports (exporting_of subcommand)
    else option_map Plays (subcommand_request subcommand)

abbrev pub command_if : Kinds → Option Command → Option Command
command_if [] asked = asked
command_if (kind ∷ kinds) asked = None

-- The command that a list of words asks for, or None if clap does not take them, or if they name both a new store and
-- one that is there, or a number that is out of its range.
unfoldable pub command_asked : List (List ℕ) → Option Command
command_asked words = command_if (fault_of command (line_of words))
    (command_of (subcommand_of command (line_of words)))

-- what a command line that was read asks for
abbrev pub place_asked : Keeper → RowsPlace
place_asked keeper.Memory = InMemory
place_asked (keeper.New path) = InNewStore path.now
place_asked (keeper.Found path) = InStore path.now

abbrev pub request_asked : CaptureCommand → Request
request_asked asked =
    record { task = asked.task; config = option_copied asked.config; place = place_asked asked.keeper }

abbrev pub web_front_in : Web → WebFront
web_front_in web = record {
  port = web.port;
  address = web.address.now;
  host = option_copied web.host;
  origin = option_copied web.origin;
  proxy = option_copied web.proxy;
  keys = web.keys.now;
  peer_connections = web.peer_connections;
}

abbrev pub serving_in : Service → Serving
serving_in service = record {
  port = service.port;
  address = service.address.now;
  artim = service.artim;
  quiet = service.quiet;
  peer_connections = service.peer_connections;
  is_logged = service.is_logged;
  log_file = option_copied service.log_file;
  console = option_copied service.console;
  web = option_map web_front_in service.web;
  turns = service.turns;
  config = option_copied service.config;
  place = place_asked service.keeper;
}

abbrev pub migration_in : Migration → Migrating
migration_in files = record { from = files.from.now; to = files.to.now }

abbrev pub checking_in : Inspection → Checking
checking_in it = record { config = it.config.now; store = option_copied it.store }

abbrev pub duplicating_in : Copying → Duplicating
duplicating_in copying = record {
  from = copying.from.now;
  to = copying.to.now;
  only = map (λ name. name.now) copying.only.items;
}

abbrev pub exporting_in : Export → Exporting
exporting_in it = record { store = it.store.now; only = it.only.now; kind = it.kind }

abbrev pub command_in : ParsedCommand → Command
command_in (parsed.Play asked) = Plays (request_asked asked)
command_in (parsed.Serve service) = Serves (serving_in service)
command_in (parsed.Loop config) = Loops (option_copied config)
command_in (parsed.Migrate files) = Migrates (migration_in files)
command_in (parsed.Check it) = Checks (checking_in it)
command_in (parsed.Copy copying) = Copies (duplicating_in copying)
command_in (parsed.Export it) = Exports (exporting_in it)
