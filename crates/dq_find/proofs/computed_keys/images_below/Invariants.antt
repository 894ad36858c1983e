use Rattle.std.proofs.Common.{◌≡◌, ◌+◌, ◌-◌, ◌*◌, ◌^◌, ◌≤◌, drop, map}
use Rattle.dq_tables.specs.Rows.{record_of}
use Rattle.dq_find.specs.ComputedKeys.{images_below}
use Rattle.dq_archive.proofs.PastLookups.{LooksSoFar}
use Rattle.dq_find.proofs.computed_keys.images_below.Given as goal

abbrev pub invariant-loop-row : goal.invariant-loop-row
invariant-loop-row g l =
    LooksSoFar g.T.Tables.state l.fn.archive l.archive l.number
    (λ records. l.number + images_below records (map record_of (drop l.row-index l.series)) ≡ images_below records (map record_of l.series))
    × (l.number ≤ l.row-index * (2 ^ 64 - 1))
