use Rattle.dq_core.proofs.isolation.Named.{own-names}
use Rattle.dq_core.proofs.laws.institutions_have_own_names.Goals as goal

pub returns : goal.returns
returns c = λ institutions sound. own-names institutions (λ i listed. c.a_name_is_of_one.ensures.found institutions i sound listed)
