use Rattle.std.proofs.Common.{◌≡◌, None, sym, ◌∙◌, rules}
use Rattle.dq_cli.specs.CommandLine.{number_below, seconds_told}
use Rattle.dq_cli.proofs.Telling.{number-told, no-positive, positive-told}
use Rattle.dq_cli.proofs.options.seconds_told.Goals as goal

pub returns-in_err-seconds : goal.returns-in_err-seconds
returns-in_err-seconds c =
    let told : c.ok.result ≡ number_below 4294967296 c.args.text.now =
    c.ok.ensures.value ∙ number-told 32 c.args.text.now c.parse.result c.parse.ensures.value.0 (search rules) in
    let none : None ≡ seconds_told c.args.text.now = no-positive 4294967296 c.args.text.now (sym c.in_err-seconds.was ∙ told) in
    cc

pub returns-then-seconds-gt0 : goal.returns-then-seconds-gt0
returns-then-seconds-gt0 c =
    let told : c.ok.result ≡ number_below 4294967296 c.args.text.now =
    c.ok.ensures.value ∙ number-told 32 c.args.text.now c.parse.result c.parse.ensures.value.0 (search rules) in
    positive-told 4294967296 c.args.text.now c.in_ok-seconds.seconds c.if-seconds-gt0.true (sym c.in_ok-seconds.was ∙ told)
