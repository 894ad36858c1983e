use Rattle.std.proofs.Common.{◌≡◌, false, rules}
use Rattle.std.proofs.lemmas.Fn.{All-from_retain}
use Rattle.dq_wires.specs.Lingering.{is_over}
use Rattle.dq_wires.proofs.sockets.lingering.LingeringSockets.read.Goals as goal

-- The closure answers that a socket stays only where its time is not over.
pub returns : goal.returns
returns c = record {
  stays = c.retain.ensures.filtered.0;
  each = c.retain.ensures.filtered.2;
  left = c.retain.ensures.filtered.4;
  time = All-from_retain _ (λ socket. is_over c.args.now socket ≡ false) _ (λ x b f' k. search rules) _ _ c.retain.ensures.filtered;
}
