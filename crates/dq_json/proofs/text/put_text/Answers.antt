use Rattle.std.proofs.Common.{arith}
use Rattle.std.proofs.lemmas.Grind.{common_steps}
use Rattle.dq_json.proofs.Texts.{text_kept}
use Rattle.dq_json.proofs.text.put_text.Goals as goal

pub returns-in-Ok : goal.returns-in-Ok
returns-in-Ok c =
    let kept = text_kept c.args.repertoire c.args.octets.now c.in-Utf8.is c.in-Ok.ensures.cases.1 in
    grind (arith, common_steps, kept)
