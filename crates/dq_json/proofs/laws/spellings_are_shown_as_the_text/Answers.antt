use Rattle.dq_json.proofs.SpelledTexts.{itself_spelled, set_spelled, spelled_shown}
use Rattle.dq_json.proofs.laws.spellings_are_shown_as_the_text.Goals as goal

pub returns-clause-only : goal.returns-clause-only
returns-clause-only c = spelled_shown

pub returns-clause-itself : goal.returns-clause-itself
returns-clause-itself c = itself_spelled

pub returns-clause-set : goal.returns-clause-set
returns-clause-set c = set_spelled
