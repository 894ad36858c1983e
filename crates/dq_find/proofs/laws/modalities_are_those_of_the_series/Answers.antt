use Rattle.dq_find.proofs.Modalities.{are_modalities, modalities_alone}
use Rattle.dq_find.proofs.laws.modalities_are_those_of_the_series.Goals as goal

pub returns-clause-told : goal.returns-clause-told
returns-clause-told c = are_modalities

pub returns-clause-alone : goal.returns-clause-alone
returns-clause-alone c = modalities_alone
