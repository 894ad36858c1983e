use Rattle.std.proofs.Common.{◌∙◌, ap₂}
use Rattle.std.specs.Prelude.{◌||◌}
use Rattle.clap.specs.Words.{with_rule}
use Rattle.dq_cli.proofs.Added.{about, after_help}
use Rattle.dq_cli.proofs.commands.task_command.Goals as goal

pub returns-clause-app : goal.returns-clause-app
returns-clause-app c =
    let told = (after_help c.about.result _ _ c.after_help.ensures).app_is ∙ (about c.new.result _ _ c.about.ensures).app_is ∙ c.new.ensures.app in
    let config = c.in_ok-configured.ensures.shape c.value_option-config.ensures.local ∙ ap₂ with_rule told c.value_option-config.ensures.rule in
    let new = c.in_ok-begun.ensures.shape c.value_option-new.ensures.local ∙ ap₂ with_rule config c.value_option-new.ensures.rule in
    c.in_ok-command.ensures.shape c.value_option-store.ensures.local ∙ ap₂ with_rule new c.value_option-store.ensures.rule

pub returns-clause-local : goal.returns-clause-local
returns-clause-local c =
    let told = (after_help c.about.result _ _ c.after_help.ensures).globals_are ∙ (about c.new.result _ _ c.about.ensures).globals_are ∙ c.new.ensures.local in
    let config = c.in_ok-configured.ensures.globals ∙ ap₂ ◌||◌ told c.value_option-config.ensures.local in
    let new = c.in_ok-begun.ensures.globals ∙ ap₂ ◌||◌ config c.value_option-new.ensures.local in
    c.in_ok-command.ensures.globals ∙ ap₂ ◌||◌ new c.value_option-store.ensures.local
