use Rattle.std.proofs.Common.{ℕ, ◌-◌, ap, ◌∙◌, arith}
use Rattle.dq_dataset.proofs.sieve.walk.Walk.left_behind.Goals as goal

pub returns : goal.returns
returns c =
    let w = c.args.self.now in
    c.saturating_sub.ensures ∙ ap (λ (n : ℕ). w.left - n) (omega (arith, c.len.ensures, w.front.ok.0))
