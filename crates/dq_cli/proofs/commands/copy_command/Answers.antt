use Rattle.std.proofs.Common.{◌≡◌, ◌∙◌, codes, Some, true, ap, ap₂}
use Rattle.std.specs.Prelude.{◌||◌}
use Rattle.clap.specs.declared.builder.action.ArgAction.TheVariants.{Append}
use Rattle.clap.specs.Words.{Rule, rule_of, with_rule}
use Rattle.dq_cli.specs.Clap.{required_rule, repeated_rule}
use Rattle.dq_cli.proofs.Added.{about, after_help, needed, repeated}
use Rattle.dq_cli.proofs.commands.copy_command.Goals as goal

pub returns-clause-app : goal.returns-clause-app
returns-clause-app c =
    let told = (after_help c.about.result _ _ c.after_help.ensures).app_is ∙ (about c.new.result _ _ c.about.ensures).app_is ∙ c.new.ensures.app in
    let old : rule_of c.required-from.result ≡ required_rule (codes "from") =
    (needed c.value_option.result _ c.required-from.ensures).rule_is ∙ ap (λ (r : Rule). record r { required = true }) c.value_option.ensures.rule in
    let new : rule_of c.required-to.result ≡ required_rule (codes "to") =
    (needed c.value_option-2.result _ c.required-to.ensures).rule_is ∙ ap (λ (r : Rule). record r { required = true }) c.value_option-2.ensures.rule in
    let only : rule_of c.action-only.result ≡ repeated_rule (codes "only") =
    (repeated c.value_option-3.result _ c.action-only.ensures).rule_is ∙ ap (λ (r : Rule). record r { action = Some Append }) c.value_option-3.ensures.rule in
    let with_old = c.in_ok-begun.ensures.shape ((needed c.value_option.result _ c.required-from.ensures).global_is ∙ c.value_option.ensures.local) ∙ ap₂ with_rule told old in
    let with_new = c.in_ok-made.ensures.shape ((needed c.value_option-2.result _ c.required-to.ensures).global_is ∙ c.value_option-2.ensures.local) ∙ ap₂ with_rule with_old new in
    c.in_ok-command.ensures.shape ((repeated c.value_option-3.result _ c.action-only.ensures).global_is ∙ c.value_option-3.ensures.local) ∙ ap₂ with_rule with_new only

pub returns-clause-local : goal.returns-clause-local
returns-clause-local c =
    let told = (after_help c.about.result _ _ c.after_help.ensures).globals_are ∙ (about c.new.result _ _ c.about.ensures).globals_are ∙ c.new.ensures.local in
    let old = c.in_ok-begun.ensures.globals ∙ ap₂ ◌||◌ told ((needed c.value_option.result _ c.required-from.ensures).global_is ∙ c.value_option.ensures.local) in
    let new = c.in_ok-made.ensures.globals ∙ ap₂ ◌||◌ old ((needed c.value_option-2.result _ c.required-to.ensures).global_is ∙ c.value_option-2.ensures.local) in
    c.in_ok-command.ensures.globals ∙ ap₂ ◌||◌ new ((repeated c.value_option-3.result _ c.action-only.ensures).global_is ∙ c.value_option-3.ensures.local)
