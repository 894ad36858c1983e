use Rattle.dq_assoc.proofs.HeldOctets.{values_given, held_short}
use Rattle.dq_assoc.proofs.laws.unfinished_messages_are_short.Goals as goal

pub returns : goal.returns
returns c = record { pdvs = values_given; held = held_short }
