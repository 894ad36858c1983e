use Rattle.std.proofs.Common.{◌≡◌, Bool, false, Some, None, refl, rules}
use Rattle.std.specs.Prelude.{if◌then◌else◌}
use Rattle.dq_cli.specs.declared.parsed_command.RowKind.TheVariants.{Studies, Series, Images, Worklist, Steps}
use Rattle.dq_cli.proofs.options.kind_told.Goals as goal

-- a word that is none of the five names no kind
none : (a b c d e : Bool) → a ≡ false → b ≡ false → c ≡ false → d ≡ false → e ≡ false
    → None ≡ (if a then Some Studies else if b then Some Series else if c then Some Images else if d then Some Worklist else if e then Some Steps else None)
none a b c d e p q r s t = rw (p, q, r, s, t) refl

pub returns-else-eq-5 : goal.returns-else-eq-5
returns-else-eq-5 c =
    none _ _ _ _ _ (search rules) (search rules) (search rules) (search rules) (search rules)
