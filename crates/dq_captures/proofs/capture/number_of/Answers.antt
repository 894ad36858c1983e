use Rattle.std.proofs.Common.{rules}
use Rattle.dq_captures.proofs.Numbers.{IsNumber-parsed, IsNumber-signed, IsNumber-zero}
use Rattle.dq_captures.proofs.capture.number_of.Goals as goal

pub returns-then-starts_with : goal.returns-then-starts_with
returns-then-starts_with c = IsNumber-signed c.args.digits.now (search rules)

pub returns-then-starts_with-2 : goal.returns-then-starts_with-2
returns-then-starts_with-2 c = IsNumber-zero c.args.digits.now (search rules) (search rules)

pub returns : goal.returns
returns c = let h = IsNumber-parsed c.args.digits.now c.parse.result c.parse.ensures.value.0 (search rules) (search rules) in
    search rules
