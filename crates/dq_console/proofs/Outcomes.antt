-- Results of which the outcome is known.
use Rattle.std.proofs.Common.{◌≡◌, Ok, Err}
use Rattle.std.specs.Prelude.{Result, IfErr}
use Rattle.std.specs.Result.{IsErrAnd}

-- what holds of the error that is there holds if there is one
pub if_error : {T E : Type 0} (P : E → Type 0) (r : Result T E) (e : E) → IsErrAnd r (λ x. x ≡ e) → P e → IfErr r P
if_error P (Ok x) e is holds = tt
if_error P (Err x) e is holds = rw is holds
