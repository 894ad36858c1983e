use Rattle.std.proofs.Common.{◌≡◌, ap, ap₂, ◌∙◌}
use Rattle.clap.specs.Words.{App, app_of, with_subcommand}
use Rattle.dq_cli.specs.Clap.{serving_app, migrate_app}
use Rattle.dq_cli.proofs.commands.command.Goals as goal

pub returns : goal.returns
returns c =
    let migrate : app_of c.in_ok-migrating.migrating ≡ with_subcommand serving_app migrate_app.top =
    c.in_ok-migrating.ensures.shape c.in_ok-migrate_command.ensures.local ∙ ap₂ with_subcommand c.in_ok-serving.ensures.app (ap (λ (a : App). a.top) c.in_ok-migrate_command.ensures.app) in
    let check = c.in_ok-checking.ensures.shape c.in_ok-check_command.ensures.local ∙ ap₂ with_subcommand migrate (ap (λ (a : App). a.top) c.in_ok-check_command.ensures.app) in
    let copy = c.in_ok-copying.ensures.shape c.in_ok-copy_command.ensures.local ∙ ap₂ with_subcommand check (ap (λ (a : App). a.top) c.in_ok-copy_command.ensures.app) in
    c.in_ok-command.ensures.shape c.in_ok-export_command.ensures.local ∙ ap₂ with_subcommand copy (ap (λ (a : App). a.top) c.in_ok-export_command.ensures.app)
