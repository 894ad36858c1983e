use Rattle.std.proofs.Common.{◌≡◌, take}
use Rattle.dq_tables.specs.StudyChoices.{studies_in}
use Rattle.dq_tables.proofs.scan.studies_in.Given as goal

abbrev pub invariant-loop-row : goal.invariant-loop-row
invariant-loop-row l = l.copies ≡ studies_in l.choice l.institution (take l.row-index l.rows)
