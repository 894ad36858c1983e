use Rattle.std.proofs.Common.{append_assoc}
use Rattle.dq_web.proofs.replies.put_origin.Goals as goal

pub returns : goal.returns
returns c =
    rw (c.in_ok-put-2.ensures, c.in_ok-extend_from_slice.ensures.items, c.in_ok-put.ensures) (simp append_assoc)
