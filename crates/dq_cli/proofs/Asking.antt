-- The words that clap takes are those that are understood.
use Rattle.std.proofs.Common.{◌≡◌, ◌≢◌, ◌∙◌, List, [], ◌∷◌, ℕ, inl, inr, refl, sym, ap, Option, None}
use Rattle.clap.specs.Words.{HasKind, IsAmong, Kinds, Row, Text, fault_of, kind_of, subcommand_of}
use Rattle.clap.specs.declared.error.Error.{Error}
use Rattle.clap.specs.declared.error.kind.ErrorKind.{ErrorKind}
use Rattle.clap.specs.declared.error.kind.ErrorKind.TheVariants.{OutOfMemory}
use Rattle.dq_cli.specs.CommandLine.{Command, line_of, command_asked, command_if, command_of}
use Rattle.dq_cli.specs.Clap.{command}

-- what is asked of words that clap takes, by what it finds
pub asked-by : (words : List (List ℕ)) (sub : Option (Text × List Row)) → fault_of command (line_of words) ≡ []
    → sub ≡ subcommand_of command (line_of words) → command_asked words ≡ command_of sub
unfolding command_asked
asked-by words sub taken found = ap (λ kinds. command_if kinds (command_of (subcommand_of command (line_of words)))) taken ∙ ap command_of (sym found)

none-among : (k : ErrorKind) (kinds : Kinds) (asked : Option Command) → IsAmong k kinds → command_if kinds asked ≡ None
none-among k [] asked among = absurd among
none-among k (x ∷ xs) asked among = refl

-- an error that is no want of memory comes only where the words are not understood
pub asked-refused : (words : List (List ℕ)) (kinds : Kinds) (e : Error) → HasKind kinds e → kind_of e ≢ OutOfMemory
    → kinds ≡ fault_of command (line_of words) → command_asked words ≡ None
unfolding command_asked
asked-refused words kinds e (inl memory) other same = absurd (other memory)
asked-refused words kinds e (inr among) other same =
    rw (← same) (none-among (kind_of e) kinds (command_of (subcommand_of command (line_of words))) among)
