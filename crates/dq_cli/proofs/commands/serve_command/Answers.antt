use Rattle.std.proofs.Common.{◌≡◌, ◌∙◌, codes, Some, ap, ap₂}
use Rattle.std.specs.Prelude.{◌||◌}
use Rattle.clap.specs.declared.builder.action.ArgAction.TheVariants.{SetTrue}
use Rattle.clap.specs.Words.{Rule, rule_of, with_rule}
use Rattle.dq_cli.specs.Clap.{flag_rule}
use Rattle.dq_cli.proofs.Added.{called, helped, flagged}
use Rattle.dq_cli.proofs.commands.serve_command.Goals as goal

pub returns-clause-app : goal.returns-clause-app
returns-clause-app c =
    let local = (helped c.action.result _ _ c.help-log.ensures).global_is ∙ (flagged c.long.result _ c.action.ensures).global_is ∙ (called c.new.result _ _ c.long.ensures).global_is ∙ c.new.ensures.optional.1 in
    let long = (called c.new.result _ _ c.long.ensures).rule_is ∙ ap (λ (r : Rule). record r { long = Some (codes "log") }) c.new.ensures.rule in
    let log : rule_of c.help-log.result ≡ flag_rule (codes "log") =
    (helped c.action.result _ _ c.help-log.ensures).rule_is ∙ (flagged c.long.result _ c.action.ensures).rule_is ∙ ap (λ (r : Rule). record r { action = Some SetTrue }) long in
    let console = c.in_ok-ordered.ensures.shape c.value_option-console.ensures.local ∙ ap₂ with_rule c.in_ok-command.ensures.app c.value_option-console.ensures.rule in
    let log_file = c.in_ok-filed.ensures.shape c.value_option-log_file.ensures.local ∙ ap₂ with_rule console c.value_option-log_file.ensures.rule in
    c.in_ok-logged.ensures.shape local ∙ ap₂ with_rule log_file log

pub returns-clause-local : goal.returns-clause-local
returns-clause-local c =
    let local = (helped c.action.result _ _ c.help-log.ensures).global_is ∙ (flagged c.long.result _ c.action.ensures).global_is ∙ (called c.new.result _ _ c.long.ensures).global_is ∙ c.new.ensures.optional.1 in
    let console = c.in_ok-ordered.ensures.globals ∙ ap₂ ◌||◌ c.in_ok-command.ensures.local c.value_option-console.ensures.local in
    let log_file = c.in_ok-filed.ensures.globals ∙ ap₂ ◌||◌ console c.value_option-log_file.ensures.local in
    c.in_ok-logged.ensures.globals ∙ ap₂ ◌||◌ log_file local
