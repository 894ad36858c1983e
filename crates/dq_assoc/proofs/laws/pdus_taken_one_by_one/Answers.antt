use Rattle.dq_assoc.proofs.OneByOne.{one-by-one}
use Rattle.dq_assoc.proofs.Streams.{after-sound, after-begun}
use Rattle.dq_assoc.proofs.laws.pdus_taken_one_by_one.Goals as goal

pub returns : goal.returns
returns c = λ first pdus more h after. one-by-one h more (after-sound _ h after) (after-begun first pdus h after)
