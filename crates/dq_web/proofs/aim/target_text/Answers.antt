use Rattle.std.proofs.Common.{rules}
use Rattle.dq_web.proofs.Texts.{visible-text}
use Rattle.dq_web.proofs.aim.target_text.Goals as goal

pub returns-in-Err : goal.returns-in-Err
returns-in-Err c =
    absurd (c.in-Err.ensures.cases.0 (visible-text c.args.head.now.target.now (search rules)))
