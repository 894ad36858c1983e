-- A step of writing JSON: it adds tokens after those that are already there.
use Rattle.std.specs.Prelude.{◌≡◌, List, ◌++◌, Result, OnOk}
use Rattle.json.specs.Token.{Token}
use Rattle.json.specs.Written.{Written}

-- Where it answers Ok, the tokens were added, and what stood before them stays.
abbrev pub Adds : {E : Type 0} → Result (Unit {0}) E → Written → Written → List Token → Type 0
Adds result old new ts = OnOk result ((new.before ≡ old.before) × (new.tokens ≡ old.tokens ++ ts))
