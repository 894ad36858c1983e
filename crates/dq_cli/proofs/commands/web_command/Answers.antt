use Rattle.std.proofs.Common.{◌∙◌, ap₂}
use Rattle.std.specs.Prelude.{◌||◌}
use Rattle.clap.specs.Words.{with_rule}
use Rattle.dq_cli.proofs.commands.web_command.Goals as goal

pub returns-clause-app : goal.returns-clause-app
returns-clause-app c =
    let web = c.in_ok-begun.ensures.shape c.value_option-web.ensures.local ∙ ap₂ with_rule c.in_ok-limiting.ensures.app c.value_option-web.ensures.rule in
    let keys = c.in_ok-keyed.ensures.shape c.value_option-keys.ensures.local ∙ ap₂ with_rule web c.value_option-keys.ensures.rule in
    let listen = c.in_ok-listening.ensures.shape c.value_option-listen.ensures.local ∙ ap₂ with_rule keys c.value_option-listen.ensures.rule in
    let host = c.in_ok-hosted.ensures.shape c.value_option-host.ensures.local ∙ ap₂ with_rule listen c.value_option-host.ensures.rule in
    let origin = c.in_ok-opened.ensures.shape c.value_option-origin.ensures.local ∙ ap₂ with_rule host c.value_option-origin.ensures.rule in
    let proxy = c.in_ok-proxied.ensures.shape c.value_option-proxy.ensures.local ∙ ap₂ with_rule origin c.value_option-proxy.ensures.rule in
    c.in_ok-fronted.ensures.shape c.value_option-peers.ensures.local ∙ ap₂ with_rule proxy c.value_option-peers.ensures.rule

pub returns-clause-local : goal.returns-clause-local
returns-clause-local c =
    let web = c.in_ok-begun.ensures.globals ∙ ap₂ ◌||◌ c.in_ok-limiting.ensures.local c.value_option-web.ensures.local in
    let keys = c.in_ok-keyed.ensures.globals ∙ ap₂ ◌||◌ web c.value_option-keys.ensures.local in
    let listen = c.in_ok-listening.ensures.globals ∙ ap₂ ◌||◌ keys c.value_option-listen.ensures.local in
    let host = c.in_ok-hosted.ensures.globals ∙ ap₂ ◌||◌ listen c.value_option-host.ensures.local in
    let origin = c.in_ok-opened.ensures.globals ∙ ap₂ ◌||◌ host c.value_option-origin.ensures.local in
    let proxy = c.in_ok-proxied.ensures.globals ∙ ap₂ ◌||◌ origin c.value_option-proxy.ensures.local in
    c.in_ok-fronted.ensures.globals ∙ ap₂ ◌||◌ proxy c.value_option-peers.ensures.local
