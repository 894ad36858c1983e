use Rattle.std.proofs.Common.{◌≡◌, ◌++◌, take, drop}
use Rattle.dq_find.specs.ComputedKeys.{put_in_order}
use Rattle.dq_find.proofs.computed_keys.place_of.Given as goal

abbrev pub invariant-loop-at : goal.invariant-loop-at
invariant-loop-at l = put_in_order l.value l.values ≡ take l.at l.values ++ put_in_order l.value (drop l.at l.values)
