use Rattle.std.proofs.Common.{append_assoc}
use Rattle.dq_web.proofs.replies.put_type.Goals as goal

pub returns : goal.returns
returns c =
    rw (c.in_ok-put-3.ensures, c.in_ok-put-2.ensures, c.in_ok-put.ensures, c.content_type.ensures) (simp append_assoc)
