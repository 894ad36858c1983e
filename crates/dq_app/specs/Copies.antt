-- The output of a copy of a store, and the reasons why a copy stops.
use Rattle.std.specs.Prelude.{◌≡◌, ◌⊎◌, ℕ, List, codes, Option}
use Rattle.std.specs.Io.KnownBytes.{Keeps}
use Rattle.dq_captures.specs.ReplyLines.{numbered_line}
use Rattle.dq_captures.specs.Surroundings.{AppendsPart}
use Rattle.dq_app.specs.declared.stop.Stop.{Stop}
use Rattle.dq_app.specs.declared.stop.Stop.TheVariants as stop
use Rattle.dq_app.specs.Program.{RefusesStore, unclosed_store}

-- what is printed once a store of so many rows is made
abbrev pub copied_line : ℕ → List ℕ
copied_line count = numbered_line (codes "copied rows ") count

-- The reasons why a copy stops: a refused store, or a new one that is not closed, when nothing was printed; or an
-- output that fails, after the first octets of the line.
abbrev pub EndsCopy : Type 0 → Option (List ℕ) → Option (List ℕ) → Stop → Type 0
EndsCopy may_fail before after stop.Output =
    may_fail × ((count : ℕ) × AppendsPart before after (copied_line count))
EndsCopy may_fail before after cause =
    Keeps before after × (RefusesStore cause ⊎ (cause ≡ unclosed_store))
