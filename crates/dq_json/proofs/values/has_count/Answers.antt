use Rattle.std.proofs.Common.{refl}
use Rattle.dq_json.proofs.Members.{counted}
use Rattle.dq_json.proofs.values.has_count.Goals as goal

pub returns-in-Some : goal.returns-in-Some
returns-in-Some c = rw (← c.in-Some.ensures, counted c.in-Some.members.now) refl
