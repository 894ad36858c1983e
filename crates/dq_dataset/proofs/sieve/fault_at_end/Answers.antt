use Rattle.std.proofs.Common.{◌≢◌, List, [], length, sym, subst, ◌∙◌, arith}
use Rattle.std.proofs.lemmas.Bool.{eqb-false}
use Rattle.dq_vr.specs.declared.Tag.{Tag}
use Rattle.dq_dataset.proofs.Types.{Truncated}
use Rattle.dq_dataset.specs.declared.sieve.Outer.{Outer}
use Rattle.dq_dataset.specs.declared.sieve.Sifted.TheVariants.{Fault}
use Rattle.dq_dataset.specs.declared.sieve.Stage.{Stage}
use Rattle.dq_dataset.specs.declared.sieve.Stage.TheVariants.{Between}
use Rattle.dq_dataset.specs.Sieving.{IsStage, StageSifts}
use Rattle.dq_dataset.proofs.SieveSteps.{midst, midst_of_value}
use Rattle.dq_dataset.proofs.sieve.fault_at_end.Goals as goal

pub returns-else-is_empty : goal.returns-else-is_empty
returns-else-is_empty c =
    let front = c.in-Between.front in
    let other : length front.items ≢ 0 = λ e. eqb-false _ 0 (sym c.is_empty.ensures ∙ c.if-is_empty.false) (omega (arith, e, front.ok.0)) in
    subst (λ (s : Stage). (tags : List Tag) (outer : Outer) → IsStage outer s → StageSifts tags outer s [] (Fault Truncated)) (sym c.in-Between.is)
    (λ tags outer sound. midst tags outer (Between front) sound (omega (arith, other)))

pub returns-in-Past : goal.returns-in-Past
returns-in-Past c = λ tags outer. midst_of_value tags outer c.args.stage.now c.in-Past.is

pub returns-in-Past-2 : goal.returns-in-Past-2
returns-in-Past-2 c = λ tags outer. midst_of_value tags outer c.args.stage.now c.in-Past.is
