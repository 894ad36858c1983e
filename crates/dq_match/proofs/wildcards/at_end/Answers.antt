use Rattle.dq_match.proofs.WordsInText.{shorter}
use Rattle.dq_match.proofs.wildcards.at_end.Goals as goal

pub returns-then-text-pattern : goal.returns-then-text-pattern
returns-then-text-pattern c = shorter c.args.casing c.args.pattern.now c.args.text.now c.requires c.if-text-pattern.true
