use Rattle.std.proofs.Common.{refl, sym, subst}
use Rattle.dq_dataset.specs.declared.sieve.Stage.TheVariants.{Between, Into}
use Rattle.dq_dataset.specs.declared.sieve.walk.WalkStep.{WalkStep}
use Rattle.dq_dataset.specs.Sieving.{IntoBy}
use Rattle.dq_dataset.proofs.SieveValues.{keeps_one}
use Rattle.dq_dataset.proofs.sieve.into.Goals as goal

pub returns-in-On : goal.returns-in-On
returns-in-On c =
    subst (λ (w : WalkStep). IntoBy c.args.outer w c.args.came.items c.args.outer (Into c.in-On.walk c.args.came)) (sym c.in-On.is)
    (record { sound = rw c.in-On.is at c.requires; within = λ w. w; syntax = refl; sifts = λ tags octets answer m. m })

pub returns-in_ok-outer-in-Over : goal.returns-in_ok-outer-in-Over
returns-in_ok-outer-in-Over c =
    let outer = c.args.outer in
    let next = c.in_ok-outer-in-Over.outer in
    subst (λ (w : WalkStep). IntoBy outer w c.args.came.items next (Between c.new.result)) (sym c.in-Over.is)
    (keeps_one outer next c.args.came.items c.new.result c.in-Ok.one
    (λ d spelled. let e = c.in-Ok.ensures.only d (rw c.deref.ensures.value spelled) in cc) c.in_ok-outer-in-Over.ensures c.new.ensures.items)
