use Rattle.std.proofs.Common.{map, ℕ, List, Bor, filter}
use Rattle.dq_request.specs.Searches.{TakesWords}
use Rattle.dq_console.specs.ConsoleLines.{is_word}
use Rattle.dq_console.proofs.console_line.take_words.Given as goal

abbrev pub invariant-loop-part : goal.invariant-loop-part
invariant-loop-part l =
    TakesWords (filter is_word (map (λ (part : Bor (List ℕ)). part.now) l.yielded)) l.initial.search l.search
