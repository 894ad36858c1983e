use Rattle.std.proofs.Common.{◌≡◌, ◌∙◌, codes, true, ap, ap₂}
use Rattle.std.specs.Prelude.{◌||◌}
use Rattle.clap.specs.Words.{Rule, rule_of, with_rule}
use Rattle.dq_cli.specs.Clap.{required_rule}
use Rattle.dq_cli.proofs.Added.{about, after_help, needed}
use Rattle.dq_cli.proofs.commands.check_command.Goals as goal

pub returns-clause-app : goal.returns-clause-app
returns-clause-app c =
    let told = (after_help c.about.result _ _ c.after_help.ensures).app_is ∙ (about c.new.result _ _ c.about.ensures).app_is ∙ c.new.ensures.app in
    let named : rule_of c.required-config.result ≡ required_rule (codes "config") =
    (needed c.value_option.result _ c.required-config.ensures).rule_is ∙ ap (λ (r : Rule). record r { required = true }) c.value_option.ensures.rule in
    let local = (needed c.value_option.result _ c.required-config.ensures).global_is ∙ c.value_option.ensures.local in
    let config = c.in_ok-begun.ensures.shape local ∙ ap₂ with_rule told named in
    c.in_ok-command.ensures.shape c.value_option-store.ensures.local ∙ ap₂ with_rule config c.value_option-store.ensures.rule

pub returns-clause-local : goal.returns-clause-local
returns-clause-local c =
    let told = (after_help c.about.result _ _ c.after_help.ensures).globals_are ∙ (about c.new.result _ _ c.about.ensures).globals_are ∙ c.new.ensures.local in
    let local = (needed c.value_option.result _ c.required-config.ensures).global_is ∙ c.value_option.ensures.local in
    let config = c.in_ok-begun.ensures.globals ∙ ap₂ ◌||◌ told local in
    c.in_ok-command.ensures.globals ∙ ap₂ ◌||◌ config c.value_option-store.ensures.local
