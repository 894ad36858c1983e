use Rattle.std.proofs.Common.{◌≡◌, length, arith}
use Rattle.std.proofs.lemmas.Grind.{common_steps}
use Rattle.std.proofs.lemmas.List.{drop_all}
use Rattle.dq_web.specs.Answers.{json_text}
use Rattle.dq_web.proofs.Pages.{fits-next, ends-here}
use Rattle.dq_web.proofs.responses.put_fitting.Goals as goal

pub returns-then-len-left-clause-octets : goal.returns-then-len-left-clause-octets
returns-then-len-left-clause-octets c =
    let size : c.len.result ≡ length (json_text c.answer-item.result) = grind (arith, common_steps) in
    let end = ends-here c.loop-answer.left c.len.result _ c.args.answers.now c.answer-item.result c.loop-answer-test.true c.answer-item.is size c.if-len-left.true in
    grind (arith, common_steps)

pub returns-then-len-left-clause-count : goal.returns-then-len-left-clause-count
returns-then-len-left-clause-count c =
    let size : c.len.result ≡ length (json_text c.answer-item.result) = grind (arith, common_steps) in
    let end = ends-here c.loop-answer.left c.len.result _ c.args.answers.now c.answer-item.result c.loop-answer-test.true c.answer-item.is size c.if-len-left.true in
    grind (arith, common_steps)

pub loop-answer-preserved : goal.loop-answer-preserved
loop-answer-preserved c =
    let size : c.len.result ≡ length (json_text c.answer-item.result) = grind (arith, common_steps) in
    let more = fits-next c.loop-answer.left c.len.result _ c.args.answers.now c.answer-item.result c.loop-answer-test.true c.answer-item.is size c.if-len-left.false in
    grind (arith, common_steps)

pub returns-clause-octets : goal.returns-clause-octets
returns-clause-octets c =
    let all = drop_all c.loop-answer.answer-index c.args.answers.now c.loop-answer-test.false in
    grind (arith, common_steps)

pub returns-clause-count : goal.returns-clause-count
returns-clause-count c =
    let all = drop_all c.loop-answer.answer-index c.args.answers.now c.loop-answer-test.false in
    grind (arith, common_steps)
