use Rattle.std.proofs.Common.{subst, List, ℕ, option_copied}
use Rattle.std.proofs.lemmas.Result.{err_from_is_err_and}
use Rattle.dq_web.specs.declared.cutting.Head.{Head}
use Rattle.dq_web.specs.declared.refusal.Refusal.{Refusal}
use Rattle.dq_web.specs.declared.refusal.Refusal.TheVariants as refusal
use Rattle.dq_web.specs.Aims.{IsTarget, HasNoTarget, HasNoAim}
use Rattle.dq_web.proofs.aim.place_of.Goals as goal

no-aim : (head : Head) (why : Refusal) → HasNoTarget head.target.now (option_copied head.fields.host) why → HasNoAim head why
no-aim head refusal.Request none = absurd none
no-aim head why none = none

pub returns-in_err-host : goal.returns-in_err-host
returns-in_err-host c =
    let target = subst (λ (text : List ℕ). HasNoTarget text (option_copied c.args.head.now.fields.host) c.in_err-host.field-0.0)
    c.in_ok-target.ensures.0 c.in_err-host.ensures in
    let exit = err_from_is_err_and c.from_residual-in_err-host.result c.from_residual-in_err-host.ensures.1 in
    rw (exit.1, exit.2) (no-aim c.args.head.now c.in_err-host.field-0.0 target)

pub returns : goal.returns
returns c = record {
  text = c.in_ok-host.text.now;
  named = c.in_ok-check_host.ensures;
  visible = c.in_ok-target.ensures.1;
  target = subst (λ (text : List ℕ). IsTarget text (option_copied c.args.head.now.fields.host) c.in_ok-host.host.now c.in_ok-host.text.now)
      c.in_ok-target.ensures.0 c.in_ok-host.ensures;
  split = c.path_and_query.ensures;
}
