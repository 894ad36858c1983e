use Rattle.std.proofs.Common.{◌≡◌, None, sym, ◌∙◌, rules}
use Rattle.dq_cli.specs.CommandLine.{number_below, port_told}
use Rattle.dq_cli.proofs.Telling.{number-told, no-positive, positive-told}
use Rattle.dq_cli.proofs.options.port_told.Goals as goal

pub returns-in_err-port : goal.returns-in_err-port
returns-in_err-port c =
    let told : c.ok.result ≡ number_below 65536 c.args.text.now =
    c.ok.ensures.value ∙ number-told 16 c.args.text.now c.parse.result c.parse.ensures.value.0 (search rules) in
    let none : None ≡ port_told c.args.text.now = no-positive 65536 c.args.text.now (sym c.in_err-port.was ∙ told) in
    cc

pub returns-then-port-gt0 : goal.returns-then-port-gt0
returns-then-port-gt0 c =
    let told : c.ok.result ≡ number_below 65536 c.args.text.now =
    c.ok.ensures.value ∙ number-told 16 c.args.text.now c.parse.result c.parse.ensures.value.0 (search rules) in
    positive-told 65536 c.args.text.now c.in_ok-port.port c.if-port-gt0.true (sym c.in_ok-port.was ∙ told)
