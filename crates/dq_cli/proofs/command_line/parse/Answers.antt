use Rattle.std.proofs.Common.{◌≡◌, ◌≢◌, ℕ, List, [], None, true, ap, ap₂, refl, sym, ◌∙◌, Result, Ok, Err, IfErr}
use Rattle.std.specs.Prelude.{IsErrAnd}
use Rattle.clap.specs.declared.error.Error.{Error}
use Rattle.clap.specs.declared.error.kind.ErrorKind.TheVariants.{OutOfMemory}
use Rattle.clap.specs.Words.{fault_of, kind_of, is_simple, is_simple_and_free, subcommand_of}
use Rattle.clap.proofs.OnLiterals.{clap_on_literals}
use Rattle.dq_cli.specs.CommandLine.{command_asked, line_of}
use Rattle.dq_cli.specs.Clap.{command}
use Rattle.dq_cli.proofs.Asking.{asked-by, asked-refused}
use Rattle.dq_cli.proofs.command_line.parse.Goals as goal

is_free : is_simple_and_free command ≡ true
unfolding clap_on_literals
is_free = refl

simple : is_simple command ≡ true
unfolding clap_on_literals
simple = refl

at-any : {T E : Type 0} {P : E → Type 0} (r : Result T E) → ((e : E) → P e) → IfErr r P
at-any (Ok x) all = tt
at-any (Err e) all = all e

-- an error that tells want of memory tells nothing of the words
unwanted : {T : Type 0} (IsLine : List (List ℕ) → Type 0) (r : Result T Error) → IsErrAnd r (λ e. kind_of e ≡ OutOfMemory)
    → IfErr r (λ e. (words : List (List ℕ)) → IsLine words → kind_of e ≢ OutOfMemory → command_asked words ≡ None)
unwanted IsLine (Ok x) is = tt
unwanted IsLine (Err e) is = λ words line other. absurd (other is)

pub returns-in-Ok-parsed_command_in-clause-ok : goal.returns-in-Ok-parsed_command_in-clause-ok
returns-in-Ok-parsed_command_in-clause-ok c = λ words line.
    let same = c.in_ok-command.ensures in
    let taken : fault_of command (line_of words) ≡ [] = sym (ap₂ fault_of same line) ∙ c.in-Ok.ensures.kinds (ap is_simple_and_free same ∙ is_free) in
    let rows = (c.in-Ok.ensures.matches (ap is_simple same ∙ simple)).1 ∙ ap₂ subcommand_of same line in
    asked-by words _ taken rows ∙ sym c.in-Ok-parsed_command_in.ensures

pub returns-clause-err : goal.returns-clause-err
returns-clause-err c = λ words line memory.
    let same = c.in_ok-command.ensures in
    let taken : fault_of command (line_of words) ≡ [] = sym (ap₂ fault_of same line) ∙ c.in-Ok.ensures.kinds (ap is_simple_and_free same ∙ is_free) in
    let rows = (c.in-Ok.ensures.matches (ap is_simple same ∙ simple)).1 ∙ ap₂ subcommand_of same line in
    asked-by words _ taken rows ∙ sym c.in-Err-parsed_command_in.ensures

pub returns-in_err-misused-in-Err-parsed_command_in-clause-err : goal.returns-in_err-misused-in-Err-parsed_command_in-clause-err
returns-in_err-misused-in-Err-parsed_command_in-clause-err c = at-any c.from_residual-in_err-misused-in-Err-parsed_command_in.result (λ error words line memory.
    let same = c.in_ok-command.ensures in
    let taken : fault_of command (line_of words) ≡ [] = sym (ap₂ fault_of same line) ∙ c.in-Ok.ensures.kinds (ap is_simple_and_free same ∙ is_free) in
    let rows = (c.in-Ok.ensures.matches (ap is_simple same ∙ simple)).1 ∙ ap₂ subcommand_of same line in
    asked-by words _ taken rows ∙ sym c.in-Err-parsed_command_in.ensures)

pub returns-in-Err-clause-err : goal.returns-in-Err-clause-err
returns-in-Err-clause-err c = λ words line memory.
    let same = c.in_ok-command.ensures in
    asked-refused words _ c.in-Err.error (c.in-Err.ensures.kinds (ap is_simple_and_free same ∙ is_free)) memory (ap₂ fault_of same line)

pub returns-in_err-only-clause-err : goal.returns-in_err-only-clause-err
returns-in_err-only-clause-err c = unwanted _ c.from_residual-in_err-only.result c.from_residual-in_err-only.ensures.1
