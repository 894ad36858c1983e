use Rattle.std.proofs.Common.{◌≡◌, ◌≢◌, Err, rules}
use Rattle.std.specs.Str.{IsUtf8}
use Rattle.dq_config.specs.declared.fault.ConfigFault.TheVariants.{NoMemory}
use Rattle.dq_config.specs.Conditions.{configuration}
use Rattle.dq_app.proofs.Misfits.{unfit}
use Rattle.dq_app.proofs.checking.fit_config.Goals as goal

pub returns-clause-refused : goal.returns-clause-refused
returns-clause-refused g c =
    let text = c.in-Ok.octets.items in
    let valid : IsUtf8 text = search rules in
    let fault = c.in-Err.fault in
    let same : c.in-Ok-from_utf8.text.now ≡ text = search rules in
    let some : fault ≢ NoMemory = search rules in
    let spelled : configuration text ≡ Err fault = rw same at (c.in-Err.ensures.refused some) in
    let made = c.in_ok-misfit_of-in-Err.ensures in
    unfit _ _ text c.in-Ok.ensures.read valid c.in_ok-misfit_of-in-Err.field-0 fault some spelled made.number
    (rw c.as_slice-in-Err.ensures.value at (made.line some))
