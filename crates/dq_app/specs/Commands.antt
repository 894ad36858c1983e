-- The effects of the command that the words ask for, and the reasons why it stops.
use Rattle.std.specs.Prelude.{ℕ, List, length, Option}
use Rattle.std.specs.Io.KnownBytes.{Appends}
use Rattle.dq_tables.specs.declared.row.Row.{Row}
use Rattle.dq_tables.specs.TableStates.{State}
use Rattle.dq_wires.specs.declared.calls.Call.{Call}
use Rattle.dq_cli.specs.CommandLine.{Command, Plays, Serves, Loops, Migrates, Checks, Copies, Exports}
use Rattle.dq_app.specs.declared.stop.Stop.{Stop}
use Rattle.dq_app.specs.Checks.{IsChecked, StopsCheck}
use Rattle.dq_app.specs.Copies.{copied_line, EndsCopy}
use Rattle.dq_app.specs.Exports.{IsExported, StopsExport}
use Rattle.dq_app.specs.Looping.{IsLooped, EndsLoop}
use Rattle.dq_app.specs.Program.{IsReplayed, StopsPlay, migrated_line, EndsMigration}
use Rattle.dq_app.specs.Serving.{IsServed, StopsService}

-- The contents of files and of stores, the state once a store is closed, the input, and the output before and after, as
-- far as these are known.
module _ {Wired Console File : Type 0} (log : Wired → Option (List Call))
    (console_log : Console → Option (List Call)) (state : File → State)
    (held : List ℕ → Option (List ℕ)) (stored migrated : List ℕ → List Row → Type 0)
    (copied : List ℕ → List (List ℕ) → List Row → Type 0) (closed : List Row → Type 0)
    (input : Option (List ℕ)) (before after : Option (List ℕ)) where
  -- all was done
  abbrev pub IsDone : Command → Type 0
  IsDone (Plays request) = IsReplayed state held stored closed input before after request
  IsDone (Serves serving) = IsServed log console_log state held stored before after serving closed
  IsDone (Loops file) = IsLooped log held file input (Appends before after)
  -- A new store of the old one's rows was made and closed, and a line was printed.
  IsDone (Migrates files) = Appends before after migrated_line
      × ((kept : List Row) × closed kept × migrated files.from kept)
  IsDone (Checks checking) = IsChecked state held stored before after checking
  -- A new store of the rows that are copied was made and closed, and a line says how many they are.
  IsDone (Copies copying) = (kept : List Row) × closed kept
      × copied copying.from copying.only kept
      × Appends before after (copied_line (length kept))
  IsDone (Exports exporting) = IsExported state stored before after closed exporting

-- It stopped short of its end, as far as files, the input, the output and the network may fail.
module _ {Wired Console File : Type 0} (log : Wired → Option (List Call))
    (console_log : Console → Option (List Call)) (state : File → State)
    (held : List ℕ → Option (List ℕ)) (stored : List ℕ → List Row → Type 0)
    (input before after : Option (List ℕ)) (unread : List ℕ → Type 0)
    (unfed fails breaks : Type 0) where
  abbrev pub EndsEarly : Command → Stop → Type 0
  EndsEarly (Plays request) cause =
      StopsPlay state request unread held stored unfed input fails before after cause
  EndsEarly (Serves serving) cause =
      StopsService log console_log state held stored before after serving breaks unread fails cause
  EndsEarly (Loops file) cause = EndsLoop log held file input fails before after cause
  EndsEarly (Migrates files) cause = EndsMigration fails before after cause
  EndsEarly (Checks checking) cause =
      StopsCheck state held stored before after unread fails checking cause
  EndsEarly (Copies copying) cause = EndsCopy fails before after cause
  EndsEarly (Exports exporting) cause =
      StopsExport state stored before after fails exporting cause
