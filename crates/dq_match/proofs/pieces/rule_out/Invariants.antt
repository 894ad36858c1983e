use Rattle.std.proofs.Common.{◌≡◌, ◌⊎◌, ℕ, false, get_or}
use Rattle.dq_match.specs.Wildcards.{stands_for}
use Rattle.dq_match.specs.Pieces.{is_open}
use Rattle.dq_match.proofs.pieces.rule_out.Given as goal

abbrev pub invariant-loop-at : goal.invariant-loop-at
invariant-loop-at l =
    (t : ℕ) → is_open l.starts t ≡ false → (is_open l.initial.starts t ≡ false) ⊎ (stands_for l.casing l.wanted (get_or l.ahead t 0) ≡ false)
