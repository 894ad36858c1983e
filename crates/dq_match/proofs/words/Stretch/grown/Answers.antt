use Rattle.std.proofs.Common.{◌<◌, ◌≤◌, ◌-◌, arith}
use Rattle.dq_match.specs.Words.{compared_at}
use Rattle.dq_match.proofs.Stretches.{falls_on}
use Rattle.dq_match.proofs.words.Stretch.grown.Goals as goal

pub returns-then-next-repeated-2-clause-stretch : goal.returns-then-next-repeated-2-clause-stretch
returns-then-next-repeated-2-clause-stretch c =
    let matched = c.args.self.matched in
    let period = c.args.self.period in
    let some : period ≤ matched = c.requires.stretch.long (omega arith) in
    let lower : compared_at c.args.casing c.args.word.now matched < compared_at c.args.casing c.args.word.now (matched - period) =
    omega (arith, c.compared-next.ensures, c.compared-repeated.ensures) in
    falls_on (compared_at c.args.casing c.args.word.now) matched period (matched - period) c.requires.stretch some (omega arith) lower
