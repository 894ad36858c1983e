use Rattle.dq_dataset.proofs.SpelledIsRead.{spelled_is_read}
use Rattle.dq_dataset.proofs.WrittenIsSpelled.{written_is_spelled}
use Rattle.dq_dataset.specs.Canonical.{canonical}
use Rattle.dq_dataset.proofs.laws.written_law.Goals as goal

pub returns-clause-spelled : goal.returns-clause-spelled
returns-clause-spelled c = written_is_spelled c.letters_law.ensures.named

pub returns-clause-read_back : goal.returns-clause-read_back
returns-clause-read_back c =
    λ syntax d facts lengths back. spelled_is_read syntax (canonical syntax d) d (written_is_spelled c.letters_law.ensures.named syntax d facts lengths back)
