use Rattle.std.proofs.Common.{◌<◌, ◌∙◌, length, refl, arith}
use Rattle.dq_captures.proofs.WrittenLines.{OnErr-known}
use Rattle.dq_console.proofs.Visiting.{visits-begin, visits-end, visits-kept, visits-gone, visits-halted}
use Rattle.dq_console.proofs.Rereading.{reread_none, reread-then}
use Rattle.dq_console.proofs.console.Console.attend.Goals as goal

pub loop-at-init : goal.loop-at-init
loop-at-init g c = record { so = visits-begin g.T.Tables.state _ _ _ _; names = refl; front = reread_none g.F.Asks.rereads _ }

pub loop-at-preserved : goal.loop-at-preserved
loop-at-preserved g c =
    let within : c.loop-at.at < length c.loop-at.self.clients.items = omega (arith, c.loop-at.self.clients.ok.0) in
    record {
      so = rw c.remove.ensures.items
          (visits-gone g.T.Tables.state _ c.loop-at.invariant.so within _ c.index_mut-client.ensures.value c.if-branch.false
          (rw c.loop-at.invariant.names at c.in_ok-visit.ensures.went));
      names = c.visit.ensures.names ∙ c.loop-at.invariant.names;
      front = reread-then g.F.Asks.rereads _ _ _ c.loop-at.invariant.front c.visit.ensures.front;
    }

pub loop-at-preserved-then-branch : goal.loop-at-preserved-then-branch
loop-at-preserved-then-branch g c =
    let within : c.loop-at.at < length c.loop-at.self.clients.items = omega (arith, c.loop-at.self.clients.ok.0) in
    record {
      so = visits-kept g.T.Tables.state _ c.loop-at.invariant.so within _ c.index_mut-client.ensures.value c.if-branch.true
          (rw c.loop-at.invariant.names at c.in_ok-visit.ensures.went);
      names = c.visit.ensures.names ∙ c.loop-at.invariant.names;
      front = reread-then g.F.Asks.rereads _ _ _ c.loop-at.invariant.front c.visit.ensures.front;
    }

pub returns-clause-went : goal.returns-clause-went
returns-clause-went g c = visits-end g.T.Tables.state _ c.loop-at.invariant.so (omega (arith, c.loop-at.self.clients.ok.0))

pub returns-in_err-visit-clause-cut : goal.returns-in_err-visit-clause-cut
returns-in_err-visit-clause-cut g c =
    let within : c.loop-at.at < length c.loop-at.self.clients.items = omega (arith, c.loop-at.self.clients.ok.0) in
    OnErr-known c.from_residual.result
    (visits-halted g.T.Tables.state _ c.loop-at.invariant.so within _ c.index_mut-client.ensures.value c.in_err-visit.ensures.cut)
