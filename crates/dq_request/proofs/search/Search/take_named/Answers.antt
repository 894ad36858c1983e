use Rattle.std.proofs.Common.{rules}
use Rattle.dq_request.proofs.Words.{limit_taken, offset_taken, after_taken, key_taken}
use Rattle.dq_request.proofs.search.Search.take_named.Goals as goal

pub returns-then-eq : goal.returns-then-eq
returns-then-eq c =
    limit_taken c.take_limit.result c.args.name.now c.args.text.now c.args.self.now c.take_limit.new.self (search rules) c.take_limit.ensures

pub returns-then-eq-2 : goal.returns-then-eq-2
returns-then-eq-2 c =
    offset_taken c.take_offset.result c.args.name.now c.args.text.now c.args.self.now c.take_offset.new.self (search rules) c.take_offset.ensures

pub returns-then-eq-3 : goal.returns-then-eq-3
returns-then-eq-3 c =
    after_taken c.take_after.result c.args.name.now c.args.text.now c.args.self.now c.take_after.new.self (search rules) c.take_after.ensures

pub returns : goal.returns
returns c =
    key_taken c.take_key.result c.args.name.now c.args.text.now c.args.self.now c.take_key.new.self (search rules) (search rules) (search rules) c.take_key.ensures
