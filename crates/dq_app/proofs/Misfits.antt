-- Configurations that are refused at a check.
use Rattle.std.proofs.Common.{◌≡◌, ◌≢◌, ℕ, suc, List, Option, Some, None, Err, IfSome, inl, inr, refl, sym}
use Rattle.std.specs.Str.{IsUtf8}
use Rattle.dq_config.specs.declared.fault.ConfigFault.{ConfigFault}
use Rattle.dq_config.specs.declared.fault.ConfigFault.TheVariants as config
use Rattle.dq_config.specs.Conditions.{configuration}
use Rattle.dq_config.specs.Faults.{config_fault_number as config_number}
use Rattle.dq_app.specs.declared.stop.Misfit.{Misfit}
use Rattle.dq_app.specs.declared.stop.Stop.TheVariants as stop
use Rattle.dq_app.specs.Places.{IsLineOf}
use Rattle.dq_app.specs.Program.{IsBadConfig, IsPlaced, RefusesChecked}

module _ (may_fail : Type 0) (held : Option (List ℕ)) (text : List ℕ) (known : IfSome held (λ octets. text ≡ octets)) (valid : IsUtf8 text) where
  by-number : (fault : ConfigFault) (number : ℕ) → config_number fault ≡ suc number → fault ≢ config.NoMemory → configuration text ≡ Err fault
      → IsBadConfig may_fail held (suc number)
  by-number fault number is some spelled = of held known where
    of : (held : Option (List ℕ)) → IfSome held (λ octets. text ≡ octets) → IsBadConfig may_fail held (suc number)
    of None known = tt
    of (Some octets) known = rw (← known) (valid, fault, some, spelled, is)

  bad_config : (fault : ConfigFault) → fault ≢ config.NoMemory → configuration text ≡ Err fault → IsBadConfig may_fail held (config_number fault)
  bad_config config.Syntax some spelled = by-number config.Syntax 0 refl some spelled
  bad_config config.BadName some spelled = by-number config.BadName 1 refl some spelled
  bad_config config.BadTitle some spelled = by-number config.BadTitle 2 refl some spelled
  bad_config config.NameTaken some spelled = by-number config.NameTaken 3 refl some spelled
  bad_config config.RouteTaken some spelled = by-number config.RouteTaken 4 refl some spelled
  bad_config config.BadLimit some spelled = by-number config.BadLimit 5 refl some spelled
  bad_config config.NoMemory some spelled = absurd (some refl)

  placed : (misfit : Misfit) (fault : ConfigFault) → misfit.number ≡ config_number fault → IsLineOf text fault misfit.line → IsPlaced misfit text
  placed misfit fault is (inl none) = inl none
  placed misfit fault is (inr at) = inr (fault, sym is, at)

  -- one whose text is refused
  pub unfit : (misfit : Misfit) (fault : ConfigFault) → fault ≢ config.NoMemory → configuration text ≡ Err fault → misfit.number ≡ config_number fault
      → IsLineOf text fault misfit.line → RefusesChecked may_fail held (stop.Unfit misfit)
  unfit misfit fault some spelled number line = (rw number (bad_config fault some spelled), of held known) where
    of : (held : Option (List ℕ)) → IfSome held (λ octets. text ≡ octets) → IfSome held (IsPlaced misfit)
    of None known = tt
    of (Some octets) known = rw (← known) (placed misfit fault number line)
