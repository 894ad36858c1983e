use Rattle.std.proofs.Common.{arith}
use Rattle.dq_find.proofs.FilledPages.{taken_full, taken_all, taken_next}
use Rattle.dq_find.proofs.open_search.OpenSearch.fill.Goals as goal
use Rattle.dq_find.proofs.open_search.OpenSearch.fill.Goals.{then-is_full-via-then-is_full, then-is_full-via-else-is_full+then-is_done}

pub returns-then-is_full : goal.returns-then-is_full
returns-then-is_full g c =
    let so_far = c.loop.invariant.0 in
    elim c.then-is_full.branch [
      | then-is_full-via-then-is_full w ↦
          taken_full g.T.Tables.state c.args.archive.now c.loop.archive c.args.self.now c.loop.self c.args.page.now c.loop.page so_far
          (c.is_full.ensures w.if-is_full.true)
      | then-is_full-via-else-is_full+then-is_done w ↦
          taken_all g.T.Tables.state c.args.archive.now c.loop.archive c.args.self.now c.loop.self c.args.page.now c.loop.page so_far
          (w.is_done.ensures w.if-is_done.true)
    ]

pub loop-preserved : goal.loop-preserved
loop-preserved g c = (
  taken_next g.T.Tables.state c.args.archive.now c.loop.archive c.args.self.now c.loop.self c.args.page.now c.loop.page c.loop.invariant.0
      c.take_next.new.archive c.loop.most c.take_next.new.self c.take_next.new.page c.in_ok-take_next.ensures,
  omega (arith, c.loop.invariant.1),
)
