use Rattle.std.proofs.Common.{map, ap, rules}
use Rattle.dq_wires.specs.Looping.{capture_number}
use Rattle.dq_wires.proofs.Playing.{plays-none, played-next}
use Rattle.dq_wires.proofs.loopback.looping.Loopback.play_all.Goals as goal

pub loop-event-init : goal.loop-event-init
loop-event-init g c = record {
  parts = search rules;
  plays = plays-none _ _ c.requires.working;
  opened = ap (map capture_number) c.requires.empty;
}

pub play-requires : goal.play-requires
play-requires g c = c.loop-event.invariant.plays.2.working

pub loop-event-preserved : goal.loop-event-preserved
loop-event-preserved g c = played-next c.loop-event.invariant c.in-Some.ensures.steps.0 c.in_ok-play.ensures.acts c.in_ok-play.ensures.played c.in_ok-play.ensures.numbers
