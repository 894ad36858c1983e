use Rattle.dq_wires.proofs.Fairness.{one-a-turn, longest-first, put-off-for, grows-older}
use Rattle.dq_wires.proofs.laws.pages_take_turns.Goals as goal

pub returns : goal.returns
returns c = record { one = one-a-turn; longest = longest-first; waits = put-off-for; older = grows-older }
