use Rattle.dq_json.specs.Keywords.{tag_of_keyword}
use Rattle.dq_json.proofs.keywords.tag_of_keyword.Goals as goal

pub returns : goal.returns
unfolding tag_of_keyword
returns c = c.tag_among.ensures
