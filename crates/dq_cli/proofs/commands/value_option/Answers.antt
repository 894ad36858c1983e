use Rattle.std.proofs.Common.{◌≡◌, Some, ap, ◌∙◌}
use Rattle.clap.specs.Words.{Rule, rule_of, new_rule}
use Rattle.dq_cli.proofs.Added.{helped, named, called}
use Rattle.dq_cli.proofs.commands.value_option.Goals as goal

pub returns-clause-rule : goal.returns-clause-rule
returns-clause-rule c =
    let long : rule_of c.long.result ≡ record (new_rule c.args.name.now) { long = Some c.args.name.now } =
    (called c.new.result _ _ c.long.ensures).rule_is ∙ ap (λ (r : Rule). record r { long = Some c.args.name.now }) c.new.ensures.rule in
    (helped c.value_name.result _ _ c.help.ensures).rule_is ∙ (named c.long.result _ _ c.value_name.ensures).rule_is ∙ ap (λ (r : Rule). record r { value_names = 1 }) long

pub returns-clause-local : goal.returns-clause-local
returns-clause-local c =
    (helped c.value_name.result _ _ c.help.ensures).global_is ∙ (named c.long.result _ _ c.value_name.ensures).global_is
    ∙ (called c.new.result _ _ c.long.ensures).global_is ∙ c.new.ensures.optional.1
