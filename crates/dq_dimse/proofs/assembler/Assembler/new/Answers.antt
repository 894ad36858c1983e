use Rattle.std.proofs.Common.{refl, sym, subst}
use Rattle.dq_dimse.specs.Assembling.{new_assembly}
use Rattle.dq_dimse.specs.Holding.{Assembles, accepted_ids}
use Rattle.dq_dimse.proofs.Assemblies.{assembly_from-nil}
use Rattle.dq_dimse.proofs.assembler.Assembler.new.Goals as goal

pub returns : goal.returns
returns c =
    let none = assembly_from-nil (new_assembly (accepted_ids c.args.accepted)) in
    record { accepted_are = refl; stands = subst (Assembles _) (sym none) (record { ids = refl; gathered = refl }) }
