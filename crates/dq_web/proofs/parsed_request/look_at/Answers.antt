use Rattle.dq_web.proofs.Wishes.{looks}
use Rattle.dq_web.proofs.parsed_request.look_at.Goals as goal

pub returns-in_default : goal.returns-in_default
returns-in_default c =
    looks c.args.resource c.args.fields.now c.args.query.now c.search_for.result
    (record { counts = c.in_default.not-Counts; metrics = c.in_default.not-Metrics }) c.search_for.ensures
