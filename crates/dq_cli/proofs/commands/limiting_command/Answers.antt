use Rattle.std.proofs.Common.{◌∙◌, ap₂}
use Rattle.std.specs.Prelude.{◌||◌}
use Rattle.clap.specs.Words.{with_rule}
use Rattle.dq_cli.proofs.commands.limiting_command.Goals as goal

pub returns-clause-app : goal.returns-clause-app
returns-clause-app c =
    let artim = c.in_ok-limited.ensures.shape c.value_option-artim.ensures.local ∙ ap₂ with_rule c.in_ok-listening.ensures.app c.value_option-artim.ensures.rule in
    let quiet = c.in_ok-quieted.ensures.shape c.value_option-quiet.ensures.local ∙ ap₂ with_rule artim c.value_option-quiet.ensures.rule in
    c.in_ok-limiting.ensures.shape c.value_option-peers.ensures.local ∙ ap₂ with_rule quiet c.value_option-peers.ensures.rule

pub returns-clause-local : goal.returns-clause-local
returns-clause-local c =
    let artim = c.in_ok-limited.ensures.globals ∙ ap₂ ◌||◌ c.in_ok-listening.ensures.local c.value_option-artim.ensures.local in
    let quiet = c.in_ok-quieted.ensures.globals ∙ ap₂ ◌||◌ artim c.value_option-quiet.ensures.local in
    c.in_ok-limiting.ensures.globals ∙ ap₂ ◌||◌ quiet c.value_option-peers.ensures.local
