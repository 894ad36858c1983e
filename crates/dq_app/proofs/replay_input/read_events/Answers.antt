use Rattle.std.proofs.Common.{◌≡◌, Err, ap, rules}
use Rattle.std.specs.Str.{IsUtf8}
use Rattle.dq_app.specs.Program.{RefusesCapture, stop_of_capture}
use Rattle.dq_app.proofs.Inputs.{if_error, refuses}
use Rattle.dq_app.proofs.replay_input.read_events.Goals as goal

pub returns-in_err-read_capture-clause-refused : goal.returns-in_err-read_capture-clause-refused
returns-in_err-read_capture-clause-refused g c =
    let given = g.R.Source.octets c.args.input in
    let fault = c.in_err-read_capture.field-0.0 in
    let same : c.in-Ok.text.now ≡ c.in_ok-octets.octets.items = search rules in
    let valid : IsUtf8 c.in-Ok.text.now = search rules in
    if_error (RefusesCapture (g.R.Source.may_fail c.args.input) given) c.from_residual-in_err-read_capture.result (stop_of_capture fault)
    c.from_residual-in_err-read_capture.ensures.1
    (refuses (g.R.Source.may_fail c.args.input) given c.in-Ok.text.now fault (rw same c.in_ok-octets.ensures.read) valid
    (λ number is. c.in_err-read_capture.ensures.line number (ap Err is)))
