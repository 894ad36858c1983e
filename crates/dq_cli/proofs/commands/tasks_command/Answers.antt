use Rattle.std.proofs.Common.{◌≡◌, ◌∙◌, codes, ap, ap₂}
use Rattle.std.specs.Prelude.{◌||◌}
use Rattle.clap.specs.Words.{App, app_of, new_app, with_subcommand}
use Rattle.dq_cli.specs.Clap.{program_app, task_app, with_version}
use Rattle.dq_cli.proofs.Added.{about, after_help, version}
use Rattle.dq_cli.proofs.commands.tasks_command.Goals as goal

pub returns-clause-app : goal.returns-clause-app
returns-clause-app c =
    let named : app_of c.about.result ≡ new_app (codes "dq_server") = (about c.new.result _ _ c.about.ensures).app_is ∙ c.new.ensures.app in
    let top : app_of c.after_help.result ≡ program_app =
    (after_help c.version.result _ _ c.after_help.ensures).app_is ∙ (version c.about.result _ _ c.version.ensures).app_is ∙ ap with_version named in
    let one : app_of c.in_ok-replaying.replaying ≡ with_subcommand program_app (task_app (codes "replay")).top =
    c.in_ok-replaying.ensures.shape c.in_ok-replay.ensures.local ∙ ap₂ with_subcommand top (ap (λ (a : App). a.top) c.in_ok-replay.ensures.app) in
    c.in_ok-reporting.ensures.shape c.in_ok-report.ensures.local ∙ ap₂ with_subcommand one (ap (λ (a : App). a.top) c.in_ok-report.ensures.app)

pub returns-clause-local : goal.returns-clause-local
returns-clause-local c =
    let top = (after_help c.version.result _ _ c.after_help.ensures).globals_are ∙ (version c.about.result _ _ c.version.ensures).globals_are ∙ (about c.new.result _ _ c.about.ensures).globals_are ∙ c.new.ensures.local in
    let one = c.in_ok-replaying.ensures.globals ∙ ap₂ ◌||◌ top c.in_ok-replay.ensures.local in
    c.in_ok-reporting.ensures.globals ∙ ap₂ ◌||◌ one c.in_ok-report.ensures.local
