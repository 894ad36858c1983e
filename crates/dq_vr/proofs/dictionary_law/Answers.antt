use Rattle.dq_vr.proofs.Rising.{dictionary_rises, entries_told}
use Rattle.dq_vr.proofs.dictionary_law.Goals as goal

pub returns-clause-rises : goal.returns-clause-rises
returns-clause-rises c = dictionary_rises

pub returns-clause-told : goal.returns-clause-told
returns-clause-told c = entries_told
