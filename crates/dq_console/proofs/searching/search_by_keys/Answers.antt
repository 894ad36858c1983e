use Rattle.std.proofs.Common.{refl}
use Rattle.dq_console.proofs.Outcomes.{if_error}
use Rattle.dq_console.proofs.searching.search_by_keys.Goals as goal

pub returns-in_err-keys-clause-cut : goal.returns-in_err-keys-clause-cut
returns-in_err-keys-clause-cut g c =
    if_error _ c.from_residual.result _ c.from_residual.ensures.1 (_, c.looks_are_one_look.ensures.no_look _, refl)

pub returns-in_err-kind-clause-cut : goal.returns-in_err-kind-clause-cut
returns-in_err-kind-clause-cut g c =
    if_error _ c.from_residual-in_err-kind.result _ c.from_residual-in_err-kind.ensures.1
    (_, c.looks_are_one_look.ensures.no_look _, refl)

pub returns-in_err-look-clause-cut : goal.returns-in_err-look-clause-cut
returns-in_err-look-clause-cut g c =
    if_error _ c.from_residual-in_err-look.result _ c.from_residual-in_err-look.ensures.1
    (_, c.looks_are_one_look.ensures.no_look _, c.in_err-look.ensures.fails)

pub returns-in_err-found-clause-cut : goal.returns-in_err-found-clause-cut
returns-in_err-found-clause-cut g c =
    if_error _ c.from_residual-in_err-found.result _ c.from_residual-in_err-found.ensures.1 (_, c.in_ok-look.ensures.looked, refl)
