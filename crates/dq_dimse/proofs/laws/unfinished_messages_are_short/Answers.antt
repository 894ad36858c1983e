use Rattle.dq_dimse.proofs.HeldOctets.{held_within, sifted_within}
use Rattle.dq_dimse.proofs.laws.unfinished_messages_are_short.Goals as goal

pub returns : goal.returns
returns c = record { held = held_within; sifted = sifted_within }
