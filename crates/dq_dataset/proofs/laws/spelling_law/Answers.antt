use Rattle.std.proofs.Common.{sym, ◌∙◌}
use Rattle.dq_dataset.proofs.Fields.{ok_is}
use Rattle.dq_dataset.proofs.SpelledOrFaulty.{reading_is_spelled}
use Rattle.dq_dataset.proofs.SpelledIsRead.{spelled_is_read}
use Rattle.dq_dataset.proofs.SpelledIsSound.{spelled_is_sound}
use Rattle.dq_dataset.proofs.SpelledIsShort.{spelled_is_short}
use Rattle.dq_dataset.proofs.laws.spelling_law.Goals as goal

pub returns-clause-one : goal.returns-clause-one
returns-clause-one c = λ syntax octets a b p q. ok_is a b (sym (spelled_is_read syntax octets a p) ∙ spelled_is_read syntax octets b q)

pub returns-clause-facts : goal.returns-clause-facts
returns-clause-facts c = spelled_is_sound

pub returns-clause-read : goal.returns-clause-read
returns-clause-read c = spelled_is_read

pub returns-clause-spelled : goal.returns-clause-spelled
returns-clause-spelled c = reading_is_spelled

pub returns-clause-lengths : goal.returns-clause-lengths
returns-clause-lengths c = λ from to octets d spells small. (spelled_is_short to from octets d spells).lengths small
