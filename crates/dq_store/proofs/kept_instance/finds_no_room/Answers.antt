use Rattle.std.proofs.Common.{sym, ◌∙◌}
use Rattle.dq_archive.proofs.Lookups.{looks_as}
use Rattle.dq_store.proofs.Records.{no_room}
use Rattle.dq_store.proofs.kept_instance.finds_no_room.Goals as goal

pub returns : goal.returns
returns g c =
    let quota = c.args.quota.now in
    looks_as g.T.Tables.state c.args.archive.now c.count.new.self _ c.in_ok-count.count c.in_ok-count.ensures _ _
    (λ h. no_room quota.kept.now quota.limit c.from.result c.in_ok-count.count _ (sym c.is_some.ensures ∙ c.if-is_some.false) c.from.ensures
    (c.in_ok-count.ensures.answered h))
