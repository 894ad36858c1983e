use Rattle.std.proofs.Common.{◌≡◌, ◌-◌, arith, refl}
use Rattle.dq_match.specs.ShownPages.{answer_octets}
use Rattle.dq_match.proofs.page_collector.PageRoom.without.Goals as goal

pub returns : goal.returns
returns c =
    let left : c.saturating_sub-2.result ≡ c.args.self.octets - answer_octets c.args.answer.now = omega arith in
    rw (c.saturating_sub.ensures, left) refl
