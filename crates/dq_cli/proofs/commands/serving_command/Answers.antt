use Rattle.std.proofs.Common.{◌≡◌, ap, ap₂, ◌∙◌}
use Rattle.std.specs.Prelude.{◌||◌}
use Rattle.clap.specs.Words.{App, app_of, with_subcommand}
use Rattle.dq_cli.specs.Clap.{tasks_app, serve_app}
use Rattle.dq_cli.proofs.commands.serving_command.Goals as goal

pub returns-clause-app : goal.returns-clause-app
returns-clause-app c =
    let serve : app_of c.in_ok-served.served ≡ with_subcommand tasks_app serve_app.top =
    c.in_ok-served.ensures.shape c.in_ok-serve_command.ensures.local ∙ ap₂ with_subcommand c.in_ok-tasks.ensures.app (ap (λ (a : App). a.top) c.in_ok-serve_command.ensures.app) in
    c.in_ok-looped.ensures.shape c.in_ok-loopback_command.ensures.local ∙ ap₂ with_subcommand serve (ap (λ (a : App). a.top) c.in_ok-loopback_command.ensures.app)

pub returns-clause-local : goal.returns-clause-local
returns-clause-local c =
    let serve = c.in_ok-served.ensures.globals ∙ ap₂ ◌||◌ c.in_ok-tasks.ensures.local c.in_ok-serve_command.ensures.local in
    c.in_ok-looped.ensures.globals ∙ ap₂ ◌||◌ serve c.in_ok-loopback_command.ensures.local
