use Rattle.std.proofs.Common.{◌≡◌, ◌∙◌, true, Option, Bor, ℕ, List, is_some, option_copied, refl, sym, rules}
use Rattle.dq_web.proofs.Named.{repeated}
use Rattle.dq_web.proofs.cutting.sole_value.Goals as goal

is_some-copied : (value : Option (Bor (List ℕ))) → is_some value ≡ true → is_some (option_copied value) ≡ true
is_some-copied value is = search rules

pub returns-then-is_some : goal.returns-then-is_some
returns-then-is_some c = (
  refl,
  repeated c.args.name.now c.args.octets.now c.args.headers.now c.loop-header.header-index _ (option_copied c.loop-header.found) (search rules)
      (rw c.of.ensures at (sym c.is_named.ensures ∙ c.if-is_named.true)) c.loop-header.invariant
      (is_some-copied c.loop-header.found (sym c.is_some.ensures ∙ c.if-is_some.true)),
)
