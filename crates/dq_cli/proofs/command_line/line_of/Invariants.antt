use Rattle.std.proofs.Common.{◌≡◌, map, take}
use Rattle.dq_cli.specs.CommandLine.{line_of}
use Rattle.dq_cli.proofs.command_line.line_of.Given as goal

abbrev pub invariant-loop-word : goal.invariant-loop-word
invariant-loop-word g l = map (λ w. w.now) l.line.items ≡ line_of (map g.S.AsStr.text (take l.word-index l.words))
