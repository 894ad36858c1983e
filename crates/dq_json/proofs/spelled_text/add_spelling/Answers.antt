use Rattle.std.proofs.Common.{rules}
use Rattle.dq_json.specs.Spellings.{octets_in}
use Rattle.dq_json.proofs.Spelled.{spelled_there, spelled_new}
use Rattle.dq_json.proofs.spelled_text.add_spelling.Goals as goal

pub returns-then-has_spelling : goal.returns-then-has_spelling
returns-then-has_spelling c =
    spelled_there c.has_spelling.result c.args.found.now c.as_slice.result.now c.in-Some.octets c.as_slice-2.result.now
    (octets_in c.args.table c.args.characters.now) (search rules) c.has_spelling.ensures (search rules) (search rules) c.if-has_spelling.true

pub returns : goal.returns
returns c =
    spelled_new c.has_spelling.result c.args.found.now c.as_slice.result.now c.in-Some.octets c.as_slice-2.result.now
    (octets_in c.args.table c.args.characters.now) (search rules) c.has_spelling.ensures (search rules) (search rules)
    c.push.new.self c.if-has_spelling.false (search rules)
