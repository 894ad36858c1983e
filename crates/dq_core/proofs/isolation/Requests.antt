-- What a request leads to, by the verdict.
use Rattle.std.proofs.Common.{◌≡◌, true, false, arith}
use Rattle.dq_core.proofs.isolation.Vocabulary.{Request, Verdict, Requested, line, is_closed, is_sound_request}
use Rattle.dq_assoc.specs.declared.association.State.TheVariants.{Waiting, Open}
use Rattle.dq_assoc.specs.declared.association.Verdict.TheVariants.{Accept, Nowhere, Busy}

pub nowhere-closes : (request : Request) → is_closed (line Waiting Nowhere (Requested request)).next ≡ true
nowhere-closes request = grind arith

pub busy-closes : (request : Request) → is_closed (line Waiting Busy (Requested request)).next ≡ true
busy-closes request = grind arith

-- one that fails the checks is rejected alike whatever the verdict
pub unsound-line : (request : Request) (verdict : Verdict) → is_sound_request request ≡ false
    → line Waiting verdict (Requested request) ≡ line Waiting Nowhere (Requested request)
unsound-line request verdict e = grind arith

-- one that is not rejected opens the association
pub open-line : (request : Request) (verdict : Verdict) → is_closed (line Waiting verdict (Requested request)).next ≡ false
    → (line Waiting verdict (Requested request)).next ≡ Open
open-line request verdict e = grind arith

-- and would under the verdict that accepts
pub accept-line : (request : Request) (verdict : Verdict) → is_closed (line Waiting verdict (Requested request)).next ≡ false
    → (line Waiting Accept (Requested request)).next ≡ Open
accept-line request verdict e = grind arith
