use Rattle.std.proofs.Common.{◌≢◌, ◌≤◌, IfSome, length}
use Rattle.dq_config.specs.declared.fault.ConfigFault.TheVariants.{NoMemory}
use Rattle.dq_app.specs.Places.{IsOpen}
use Rattle.dq_app.proofs.placing.place_of.Given as goal

abbrev pub invariant-loop-at : goal.invariant-loop-at
invariant-loop-at l = record {
  place : l.fault ≢ NoMemory → IfSome l.open (IsOpen l.text l.fault l.at);
  bounded : IfSome l.open (λ at. at ≤ length l.text);
}
