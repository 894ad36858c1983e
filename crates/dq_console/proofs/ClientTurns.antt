-- How the turn of a client of the console went.
use Rattle.std.proofs.Common.{◌≡◌, ◌≤◌, ◌++◌, ℕ, length, length-append, arith, ◌∙◌, ◌∷◌, Bool, true, false, if◌then◌else◌, List, [], Option, Some, Ok, refl, sym, ap}
use Rattle.dq_wires.specs.declared.calls.Call.{Call}
use Rattle.dq_wires.specs.declared.calls.Call.TheVariants.{Read, Accept, Shut}
use Rattle.dq_wires.specs.declared.calls.ReadOutcome.TheVariants.{Octets}
use Rattle.dq_wires.specs.ConnectionActions.{Shutting}
use Rattle.dq_wires.specs.Logs.{Logs}
use Rattle.dq_wires.proofs.Logging.{logs-then}
use Rattle.dq_console.specs.declared.console_client.Next.{Next}
use Rattle.dq_console.specs.declared.console_client.Next.TheVariants.{Held, Left}
use Rattle.dq_console.specs.Console.{HeldClient, new_client, HasRoomForClient, HasNone, TakesMore, is_line_end, first_line_length}
use Rattle.dq_console.proofs.LineEnds.{end-append}
use Rattle.dq_console.specs.Console.ClientTurn.{Received, Dropped}
use Rattle.dq_console.specs.Console.Letting.{LetIn, TurnedAway}
use Rattle.dq_console.specs.ClientTurns.{Reads, Quiet, ComesNext, LetsIn}

-- what comes next of a client for whom something was done
pub comes : {before after : Option (List Call)} {old new : HeldClient} (there : Bool) (n : Next)
    → n ≡ (if there then Held else Left) → Quiet before after old new there → ComesNext before after old new n
comes true n is quiet = rw is quiet
comes false n is quiet = rw is quiet

-- what came is kept, unless there is no memory for it
pub reads-octets : (before after : Option (List Call)) (room : ℕ) (old new : HeldClient) (octets came : List ℕ) (kept : Bool)
    → Logs before after (Read old.place room (Octets octets)) → new ≡ record old { came = came }
    → came ≡ (if kept then old.came ++ octets else old.came) → Reads before after room old new kept
reads-octets before after room old new octets came true told is grown = (Octets octets, told, tt, is ∙ ap (λ (c : List ℕ). record old { came = c }) grown)
reads-octets before after room old new octets came false told is grown = (Octets octets, told, λ same. absurd (cc))

-- where the first line ends is not searched too far
pub searched-still : (came octets grown : List ℕ) (searched : ℕ) (kept : Bool) → grown ≡ (if kept then came ++ octets else came)
    → searched ≤ length came → searched ≤ first_line_length came → (searched ≤ length grown) × (searched ≤ first_line_length grown)
searched-still came octets grown searched true is within before = (
  rw is (omega (arith, within, length-append came octets)),
  rw is (omega (arith, before, end-append is_line_end came octets)),
)
searched-still came octets grown searched false is within before = (rw is within, rw is before)

-- from a client was read
pub reads : {before after : Option (List Call)} (room : ℕ) {old new : HeldClient} (there : Bool) → TakesMore old → HasNone old.came
    → Reads before after room old new there → Quiet before after old new there
reads room true listening none read = record {
  client_turn = Received room read.0;
  is = (listening, none, read.2);
  quiet = refl;
  tells = λ institutions names rows done. tt;
  calls = read.1;
  leaves = ap (λ (c : HeldClient). c ∷ []) (sym read.3);
}
reads room false listening none read =
    record { client_turn = Dropped room read.0; is = (listening, none, read.2); quiet = refl; tells = λ institutions names rows done. tt; calls = read.1; leaves = refl }

-- one is let in
pub came-in : (before after : Option (List Call)) (from to : List HeldClient) (place : ℕ) (client : HeldClient) (kept : Bool) → HasRoomForClient from
    → Logs before after (Accept (Ok (Some place))) → client ≡ new_client place → kept ≡ true
    → to ≡ (if kept then from ++ client ∷ [] else from) → LetsIn before after from to
came-in before after from to place client kept room told new is_kept is =
    record { letting = LetIn place; lets = room; calls = told; leaves = rw (is_kept, new) at is }

-- one for whom there is no memory is let go
pub turned-away : (before mid after : Option (List Call)) (from to : List HeldClient) (place : ℕ) (answer : Shutting) (client : HeldClient) (kept : Bool)
    → HasRoomForClient from → Logs before mid (Accept (Ok (Some place))) → Logs mid after (Shut place answer) → kept ≡ false
    → to ≡ (if kept then from ++ client ∷ [] else from) → LetsIn before after from to
turned-away before mid after from to place answer client kept room told shut is_lost is = record {
  letting = TurnedAway place answer;
  lets = room;
  calls = logs-then before mid after (Accept (Ok (Some place)) ∷ []) (Shut place answer ∷ []) told shut;
  leaves = rw is_lost at is;
}
