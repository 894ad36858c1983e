use Rattle.std.proofs.Common.{◌∙◌, rules}
use Rattle.dq_cli.proofs.Telling.{number-told}
use Rattle.dq_cli.proofs.options.number_told.Goals as goal

pub returns : goal.returns
returns c = c.ok.ensures.value ∙ number-told 32 c.args.text.now c.parse.result c.parse.ensures.value.0 (search rules)
