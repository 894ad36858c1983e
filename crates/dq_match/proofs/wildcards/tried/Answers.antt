use Rattle.dq_match.proofs.WordsInText.{not_all_stand}
use Rattle.dq_match.proofs.wildcards.tried.Goals as goal

pub returns-then-not-all_stand : goal.returns-then-not-all_stand
returns-then-not-all_stand c =
    not_all_stand c.args.casing c.args.pattern.now c.args.word.octets.now c.args.text.now c.args.word.before c.requires.word
    c.all_stand.result c.if-not-all_stand.true c.all_stand.ensures
