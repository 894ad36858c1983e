use Rattle.std.proofs.Common.{◌≡◌, sym, subst, ◌∙◌}
use Rattle.dq_tables.specs.Sound.{HeldEach}
use Rattle.dq_sql.proofs.SoundStores.{one_good, untold}
use Rattle.dq_sql.proofs.Judgements.{none_sound}
use Rattle.dq_sql.proofs.found_store.sound_rows.Goals.{else-branch-via-then-branch+else-are_held, else-branch-via-else-branch}
use Rattle.dq_sql.proofs.found_store.sound_rows.Goals as goal

pub returns-in_default-clause-bad : goal.returns-in_default-clause-bad
returns-in_default-clause-bad c bad found judged rows sound = none_sound found (rw c.in_default.is at judged.rows) rows sound

pub returns-else-branch-clause-bad : goal.returns-else-branch-clause-bad
returns-else-branch-clause-bad c bad found judged rows sound =
    let good = rw c.in-Some.is at judged.rows in
    let same = one_good found rows c.in-Some.rows.items sound.good good.0 in
    elim c.else-branch.branch [
      | else-branch-via-then-branch+else-are_held w ↦
          untold _ w.are_held.result w.if-are_held.false w.are_held.ensures (subst (λ l. HeldEach l l) (same ∙ sym w.as_slice.ensures.value) sound.held)
      | else-branch-via-else-branch w ↦ untold _ c.in_ok-are_apart.field-0 w.if-branch.false (c.in_ok-are_apart.ensures found judged.ids) sound.apart
    ]
