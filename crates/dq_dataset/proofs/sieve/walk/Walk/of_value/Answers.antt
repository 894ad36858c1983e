use Rattle.std.proofs.Common.{ℕ, Option, sym, ap, ◌∙◌}
use Rattle.dq_dataset.specs.declared.sieve.walk.Reach.{Reach}
use Rattle.dq_dataset.specs.declared.sieve.walk.Reach.TheVariants.{Endless}
use Rattle.dq_dataset.specs.declared.sieve.walk.Walk.{Walk}
use Rattle.dq_dataset.specs.Sifting.{opened_reach, opened_left}
use Rattle.dq_dataset.proofs.WalkSteps.{value_leads}
use Rattle.dq_dataset.proofs.sieve.walk.Walk.of_value.Goals as goal
use Rattle.dq_dataset.proofs.sieve.walk.Walk.of_value.Goals.{in-Some, in-None}

pub returns-clause-leads : goal.returns-clause-leads
returns-clause-leads c =
    let reach = c.match-length_of.reach in
    let walk : Walk = record { left = reach.1; place = c.of_value.result; around = c.new.result; front = c.new-2.result } in
    elim c.match-length_of.branch [
      | in-Some w ↦
          let extent = sym c.length_of.ensures ∙ w.in-Some.is in
          value_leads c.args.content reach.0 walk c.settled.result
          (ap (λ (x : Reach × ℕ). x.0) w.reach-is ∙ sym (ap (λ (e : Option ℕ). opened_reach Endless e 0) extent))
          (ap (λ (x : Reach × ℕ). x.1) w.reach-is ∙ sym (ap (λ (e : Option ℕ). opened_left Endless e 0) extent)) c.of_value.ensures c.new.ensures.items
          c.new-2.ensures.items c.settled.ensures
      | in-None w ↦
          let extent = sym c.length_of.ensures ∙ w.in-None.is in
          value_leads c.args.content reach.0 walk c.settled.result
          (ap (λ (x : Reach × ℕ). x.0) w.reach-is ∙ sym (ap (λ (e : Option ℕ). opened_reach Endless e 0) extent))
          (ap (λ (x : Reach × ℕ). x.1) w.reach-is ∙ sym (ap (λ (e : Option ℕ). opened_left Endless e 0) extent)) c.of_value.ensures c.new.ensures.items
          c.new-2.ensures.items c.settled.ensures
    ]
