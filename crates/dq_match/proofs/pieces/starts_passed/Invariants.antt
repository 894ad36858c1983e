use Rattle.std.proofs.Common.{◌≡◌, ℕ, false}
use Rattle.dq_match.specs.Pieces.{is_open, Differs}
use Rattle.dq_match.proofs.pieces.starts_passed.Given as goal

abbrev pub invariant-loop-at : goal.invariant-loop-at
invariant-loop-at l = (t : ℕ) → is_open l.starts t ≡ false → Differs l.casing l.piece l.text t
