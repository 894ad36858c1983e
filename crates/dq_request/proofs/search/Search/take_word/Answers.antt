use Rattle.dq_request.proofs.Words.{word_taken}
use Rattle.dq_request.proofs.search.Search.take_word.Goals as goal

pub returns : goal.returns
returns c =
    word_taken c.take_named.result c.args.word.now c.in-Some.name.now c.in-Some.text.now c.args.self.now c.take_named.new.self c.in-Some.ensures.0
    c.in-Some.ensures.1 c.in-Some.ensures.2 c.take_named.ensures
