use Rattle.std.proofs.Common.{◌≡◌, ◌∙◌, codes, true, ap, ap₂}
use Rattle.std.specs.Prelude.{◌||◌}
use Rattle.clap.specs.Words.{Rule, app_of, rule_of, with_rule}
use Rattle.dq_cli.specs.Clap.{required_rule, task_app}
use Rattle.dq_cli.proofs.Added.{needed}
use Rattle.dq_cli.proofs.commands.listening_command.Goals as goal

pub returns-clause-app : goal.returns-clause-app
returns-clause-app c =
    let asked : rule_of c.required-port.result ≡ required_rule (codes "port") =
    (needed c.value_option.result _ c.required-port.ensures).rule_is ∙ ap (λ (r : Rule). record r { required = true }) c.value_option.ensures.rule in
    let local = (needed c.value_option.result _ c.required-port.ensures).global_is ∙ c.value_option.ensures.local in
    let port : app_of c.in_ok-ported.ported ≡ with_rule (task_app (codes "serve")) (required_rule (codes "port")) =
    c.in_ok-ported.ensures.shape local ∙ ap₂ with_rule c.in_ok-command.ensures.app asked in
    let turns = c.in_ok-ended.ensures.shape c.value_option-turns.ensures.local ∙ ap₂ with_rule port c.value_option-turns.ensures.rule in
    c.in_ok-listening.ensures.shape c.value_option-listen.ensures.local ∙ ap₂ with_rule turns c.value_option-listen.ensures.rule

pub returns-clause-local : goal.returns-clause-local
returns-clause-local c =
    let local = (needed c.value_option.result _ c.required-port.ensures).global_is ∙ c.value_option.ensures.local in
    let port = c.in_ok-ported.ensures.globals ∙ ap₂ ◌||◌ c.in_ok-command.ensures.local local in
    let turns = c.in_ok-ended.ensures.globals ∙ ap₂ ◌||◌ port c.value_option-turns.ensures.local in
    c.in_ok-listening.ensures.globals ∙ ap₂ ◌||◌ turns c.value_option-listen.ensures.local
