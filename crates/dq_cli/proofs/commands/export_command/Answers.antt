use Rattle.std.proofs.Common.{◌≡◌, ◌∙◌, codes, true, ap, ap₂}
use Rattle.std.specs.Prelude.{◌||◌}
use Rattle.clap.specs.Words.{Rule, rule_of, with_rule}
use Rattle.dq_cli.specs.Clap.{required_rule}
use Rattle.dq_cli.proofs.Added.{about, after_help, needed}
use Rattle.dq_cli.proofs.commands.export_command.Goals as goal

pub returns-clause-app : goal.returns-clause-app
returns-clause-app c =
    let told = (after_help c.about.result _ _ c.after_help.ensures).app_is ∙ (about c.new.result _ _ c.about.ensures).app_is ∙ c.new.ensures.app in
    let store : rule_of c.required-store.result ≡ required_rule (codes "store") =
    (needed c.value_option.result _ c.required-store.ensures).rule_is ∙ ap (λ (r : Rule). record r { required = true }) c.value_option.ensures.rule in
    let only : rule_of c.required-only.result ≡ required_rule (codes "only") =
    (needed c.value_option-2.result _ c.required-only.ensures).rule_is ∙ ap (λ (r : Rule). record r { required = true }) c.value_option-2.ensures.rule in
    let with_store = c.in_ok-begun.ensures.shape ((needed c.value_option.result _ c.required-store.ensures).global_is ∙ c.value_option.ensures.local) ∙ ap₂ with_rule told store in
    let with_only = c.in_ok-named.ensures.shape ((needed c.value_option-2.result _ c.required-only.ensures).global_is ∙ c.value_option-2.ensures.local) ∙ ap₂ with_rule with_store only in
    c.in_ok-command.ensures.shape c.value_option-kind.ensures.local ∙ ap₂ with_rule with_only c.value_option-kind.ensures.rule

pub returns-clause-local : goal.returns-clause-local
returns-clause-local c =
    let told = (after_help c.about.result _ _ c.after_help.ensures).globals_are ∙ (about c.new.result _ _ c.about.ensures).globals_are ∙ c.new.ensures.local in
    let store = c.in_ok-begun.ensures.globals ∙ ap₂ ◌||◌ told ((needed c.value_option.result _ c.required-store.ensures).global_is ∙ c.value_option.ensures.local) in
    let only = c.in_ok-named.ensures.globals ∙ ap₂ ◌||◌ store ((needed c.value_option-2.result _ c.required-only.ensures).global_is ∙ c.value_option-2.ensures.local) in
    c.in_ok-command.ensures.globals ∙ ap₂ ◌||◌ only c.value_option-kind.ensures.local
