use Rattle.std.proofs.Common.{sym, option_copied}
use Rattle.dq_web.proofs.Opening.{is_opened, is_shut}
use Rattle.dq_web.proofs.guard.Guard.open.Goals as goal

pub returns-in-Some-clause-opened : goal.returns-in-Some-clause-opened
returns-in-Some-clause-opened c =
    is_opened c.args.self.now.keys c.args.name.now c.args.right (option_copied c.args.authorization) c.in-Some.key.now c.entry_for.result (sym c.in-Some.ensures) c.entry_for.ensures

pub returns-in-Some-clause-shut : goal.returns-in-Some-clause-shut
returns-in-Some-clause-shut c =
    is_shut c.args.self.now.keys c.args.name.now c.args.right (option_copied c.args.authorization) c.in-Some.key.now c.entry_for.result (sym c.in-Some.ensures) c.entry_for.ensures
