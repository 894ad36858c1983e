use Rattle.dq_tables.proofs.Soundness.{changed_held}
use Rattle.dq_tables.proofs.plain_tables.PlainTablesTables.apply.Goals as goal

pub keep-requires-in-StepChanged-clause-held : goal.keep-requires-in-StepChanged-clause-held
keep-requires-in-StepChanged-clause-held c =
    let fits = rw c.in-StepChanged.is at c.requires in
    changed_held c.args.self.now.kept.items c.in-StepChanged.row (fits tt)
