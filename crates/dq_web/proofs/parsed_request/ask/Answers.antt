use Rattle.std.proofs.Common.{◌≡◌, Bor, inr, subst}
use Rattle.std.specs.Prelude.{IsFalse}
use Rattle.dq_web.specs.declared.aim.Aim.{Aim}
use Rattle.dq_web.specs.declared.cutting.Head.{Head}
use Rattle.dq_web.specs.declared.guard.Guard.{Guard}
use Rattle.dq_web.specs.declared.keys.KeyEntry.{KeyEntry}
use Rattle.dq_web.specs.declared.parsed_request.Judgement.{Judgement}
use Rattle.dq_web.specs.declared.parsed_request.Judgement.TheVariants as judgement
use Rattle.dq_web.specs.Aims.{is_free, IsLetIn}
use Rattle.dq_web.specs.ParsedRequests.{IsAimOpened, IsJudged}
use Rattle.dq_web.proofs.parsed_request.ask.Goals as goal

-- what an entry's key opens is let in
opened : (guard : Guard) (head : Head) (it : Judgement) (aim : Aim) (entry : Bor KeyEntry) → it ≡ judgement.Opened aim entry
    → IsJudged guard head it → IsLetIn guard head aim × IsFalse (is_free aim) × IsAimOpened guard head aim
opened guard head it aim entry is judged =
    let at = subst (IsJudged guard head) is judged in (at.0, at.1, (entry.now, at.2))

pub returns-in-Ok : goal.returns-in-Ok
returns-in-Ok c guard judged =
    let at = opened guard c.args.request.now.head c.args.judgement c.in-Opened.aim c.in-Opened.entry c.in-Opened.is judged in
    c.in-Ok.ensures guard at.0 at.1 at.2

pub returns-in-Err-Refused : goal.returns-in-Err-Refused
returns-in-Err-Refused c guard judged =
    let at = opened guard c.args.request.now.head c.args.judgement c.in-Opened.aim c.in-Opened.entry c.in-Opened.is judged in
    inr (rw c.in-Err-Refused.field-0-is at (c.in-Err-Refused.ensures guard at.0 at.1 at.2))
