use Rattle.std.proofs.Common.{◌<◌, ◌+◌, length, arith}
use Rattle.dq_find.proofs.ImageCounts.{counted_more}
use Rattle.dq_archive.proofs.PastLookups.{looks_on}
use Rattle.dq_find.proofs.computed_keys.images_below.Goals as goal

pub loop-row-preserved : goal.loop-row-preserved
loop-row-preserved g c =
    let within : c.loop-row.row-index < length c.args.series.now = omega arith in
    let images = c.in_ok-images.images in (
      looks_on g.T.Tables.state c.args.archive.now c.loop-row.archive c.count_above.new.self c.loop-row.number _ c.loop-row.invariant.0
          images (c.loop-row.number + images) _ _ c.in_ok-images.ensures
          (λ records so_far counted. counted_more records c.row-item.result c.as_slice.result.now c.args.series.now c.loop-row.row-index c.loop-row.number images _
          within c.row-item.is c.as_slice.ensures counted so_far),
      omega arith,
    )
