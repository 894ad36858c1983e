use Rattle.dq_json.proofs.Members.{several}
use Rattle.dq_json.proofs.values.has_several.Goals as goal

pub returns : goal.returns
returns c = several c.args.values.now
