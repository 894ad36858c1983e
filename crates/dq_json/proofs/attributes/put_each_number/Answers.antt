use Rattle.std.proofs.Common.{arith, refl}
use Rattle.std.proofs.lemmas.Grind.{common_steps}
use Rattle.dq_json.proofs.Numbers.{next_told, no_numbers}
use Rattle.dq_json.proofs.attributes.put_each_number.Goals as goal

pub loop-rest-preserved : goal.loop-rest-preserved
loop-rest-preserved c =
    let next = next_told c.loop-rest.rest.now c.split_at.result.1.now _ _ c.loop-rest.out.tokens c.loop-rest-test.true refl refl c.split_at.ensures.back in
    grind (arith, common_steps, next)

pub returns : goal.returns
returns c =
    let none = no_numbers c.loop-rest.rest.now c.loop-rest-test.false in
    grind (arith, common_steps, none)
