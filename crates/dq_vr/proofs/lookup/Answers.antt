use Rattle.dq_vr.specs.Dictionary.{dictionary, known_vr}
use Rattle.dq_vr.proofs.Rising.{dictionary_rises, dictionary_short}
use Rattle.dq_vr.proofs.lookup.Goals as goal

pub vr_in-requires-clause-rises : goal.vr_in-requires-clause-rises
unfolding dictionary
vr_in-requires-clause-rises c = dictionary_rises

pub vr_in-requires-clause-tags : goal.vr_in-requires-clause-tags
unfolding dictionary
vr_in-requires-clause-tags c = dictionary_short

pub returns : goal.returns
unfolding known_vr dictionary
returns c = c.vr_in.ensures
