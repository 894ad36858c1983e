use Rattle.std.proofs.Common.{◌≡◌, ◌==◌, true, false, sym, refl, append-nil, arith}
use Rattle.std.proofs.lemmas.Bool.Decides.{nat_tests}
use Rattle.dq_core.proofs.pages.OpenQuery.cancel.Goals as goal

pub returns-then-id-self-clause-sent : goal.returns-then-id-self-clause-sent
returns-then-id-self-clause-sent c = λ records.
    let other : (c.args.id == c.args.self.command.id) ≡ false = grind (arith, nat_tests) in
    rw other (sym (append-nil c.args.out.now.items), refl)

pub returns-clause-sent : goal.returns-clause-sent
returns-clause-sent c = λ records.
    let same : (c.args.id == c.args.self.command.id) ≡ true = grind (arith, nat_tests) in
    rw same (c.in_ok-send_final.ensures records, refl)
