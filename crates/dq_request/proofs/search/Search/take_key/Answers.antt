use Rattle.std.proofs.Common.{refl}
use Rattle.dq_request.proofs.search.Search.take_key.Goals as goal

pub returns-in_default : goal.returns-in_default
returns-in_default c = let none = rw c.in_default.is at c.in_ok-key.ensures in (λ new takes. none takes.1.0 takes.1.1, refl)
