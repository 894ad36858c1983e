-- The conditions that keep sound rows sound: the server is sent octets, and each row holds a data set.
use Rattle.std.specs.Prelude.{◌≡◌, ℕ, true, List}
use Rattle.std.specs.List.{AllByRecursion}
use Rattle.dq_list.specs.Octets.{AreOctets}
use Rattle.dq_dataset.specs.Facts.{IsDataSet}
use Rattle.dq_dataset.specs.declared.header.Syntax.{Syntax}
use Rattle.dq_dimse.specs.Received.{Message}
use Rattle.dq_config.specs.Limits.{Limits}
use Rattle.dq_tables.specs.declared.row.Row.{Row}
use Rattle.dq_tables.specs.Records.{data_set_of}
use Rattle.dq_tables.specs.Rows.{of, by, after}
use Rattle.dq_tables.specs.Sound.{IsSound}
use Rattle.dq_store.specs.CStore.{store_outcome}
use Rattle.dq_store.specs.Levels.{is_of_its_level}
use Rattle.dq_worklist.specs.Orders.{schedule_outcome, withdrawn}
use Rattle.dq_mpps.specs.NCreate.{create_outcome}
use Rattle.dq_mpps.specs.NSet.{set_outcome}
use Rattle.dq_core.specs.declared.event.Event.{Event}
use Rattle.dq_core.specs.declared.event.Event.TheVariants as event
use Rattle.dq_core.specs.Services.{ConsoleOrder, Scheduling, Withdrawal}
use Rattle.dq_core.specs.Connections.{Connection}

abbrev pub HoldDataSets : List Row → Type 0
HoldDataSets rows = AllByRecursion (λ (row : Row). IsDataSet (data_set_of row.octets)) rows

-- sound rows, each of which holds a data set
pub record HoldSound (rows : List Row) : Type 0 where
  pub sound : IsSound rows
  pub data_sets : HoldDataSets rows

-- each record of a study, of a series and of an image holds attributes of its own level alone
abbrev pub KeepToLevels : List Row → Type 0
KeepToLevels rows = AllByRecursion (λ (row : Row). is_of_its_level row ≡ true) rows

-- rows as the server makes them
pub record AreMade (rows : List Row) : Type 0 where
  pub sound : HoldSound rows
  pub levels : KeepToLevels rows

-- Each service that changes rows leaves them good where they were good, whatever octets it is sent.
pub record ServicesKeep (Good : List Row → Type 0) : Type 0 where
  pub storing : (name : List ℕ) (limits : Limits) (rows : List Row) (message : Message) (syntax : Syntax)
      → AreOctets message.octets → Good rows
      → Good (after (by name (store_outcome limits (of name rows) message syntax).1) rows)
  pub creating : (name : List ℕ) (limits : Limits) (rows : List Row) (message : Message) (syntax : Syntax)
      → AreOctets message.octets → Good rows
      → Good (after (by name (create_outcome limits (of name rows) message syntax).1) rows)
  pub changing : (name : List ℕ) (rows : List Row) (message : Message) (syntax : Syntax)
      → AreOctets message.octets → Good rows
      → Good (after (by name (set_outcome (of name rows) message syntax).1) rows)
  pub scheduling : (name : List ℕ) (limits : Limits) (rows : List Row) (octets : List ℕ)
      → AreOctets octets → Good rows
      → Good (after (by name (schedule_outcome limits (of name rows) octets).1) rows)
  pub withdrawing : (name : List ℕ) (rows : List Row) (id : List ℕ) → Good rows
      → Good (after (by name (withdrawn (of name rows) id).1) rows)

-- what an order holds
abbrev pub HoldsOctets : ConsoleOrder → Type 0
HoldsOctets (Scheduling octets) = AreOctets octets
HoldsOctets (Withdrawal id) = Unit {0}

-- what an event brings
abbrev pub BringsOctets : Event → Type 0
BringsOctets (event.Open number) = Unit {0}
BringsOctets (event.Piece number piece) = AreOctets piece
BringsOctets (event.End number) = Unit {0}
BringsOctets (event.Pull number) = Unit {0}
BringsOctets (event.Schedule institution octets) = AreOctets octets
BringsOctets (event.Withdraw institution id) = Unit {0}

abbrev pub BringOctets : List Event → Type 0
BringOctets events = AllByRecursion BringsOctets events

-- what came on connections so far
abbrev pub CameAsOctets : List Connection → Type 0
CameAsOctets connections = AllByRecursion (λ (c : Connection). AreOctets c.stream) connections
