use Rattle.std.proofs.Common.{◌≡◌, rules, arith, refl, subst}
use Rattle.sqlite.specs.State.{HasCleanDisk}
use Rattle.sqlite.specs.Held.{state}
use Rattle.dq_tables.specs.Sound.{IsSound}
use Rattle.dq_sql.specs.Tie.{IsOfVersion}
use Rattle.dq_sql.specs.FoundStores.{HoldOctets, IsShaped, AreSound, IsFound}
use Rattle.dq_sql.proofs.SoundStores.{found_after, found_sound, sound_after, ok_then, told}
use Rattle.dq_sql.proofs.Judgements.{rows_rise}
use Rattle.dq_sql.proofs.found_store.kept_rows.Goals as goal

pub sound_rows-requires : goal.sound_rows-requires
sound_rows-requires g c =
    let it = c.in_ok-judgement.ensures.judged in
    rows_rise it.0 c.in_ok-judgement.judgement.rows it.1.rows

pub returns-clause-sound : goal.returns-clause-sound
returns-clause-sound g c =
    let it = c.in_ok-judgement.ensures.judged in
    ok_then _ (λ rows. IsSound rows.items) c.sound_rows.result (λ rows told. found_sound it.0 rows.items (told it.0 it.1).0) c.sound_rows.ensures.sound

pub returns-clause-octets : goal.returns-clause-octets
returns-clause-octets g c =
    let it = c.in_ok-judgement.ensures.judged in
    ok_then _ (λ rows. HoldOctets rows.items) c.sound_rows.result (λ rows told. (told it.0 it.1).1) c.sound_rows.ensures.sound

pub returns-clause-found : goal.returns-clause-found
returns-clause-found g c clean =
    let old = state g.S.Store c.args.conn.now in
    let mid = state g.S.Store c.is_of_version.new.conn in
    let same : c.in-Some.shaped ≡ c.args.version = search rules in
    let ours : IsShaped c.args.version old = subst (λ v. IsShaped v old) same c.in-Some.ensures.shaped in
    let late : HasCleanDisk mid = omega (arith, c.rows_judged.ensures.stays.survives.clean, clean) in
    let is_so : IsOfVersion c.args.version old.now = told _ _ c.if-not-branch.false (c.in_ok-is_of_version.ensures.told late ours.schema) in
    let it = c.in_ok-judgement.ensures.judged in
    ok_then _ (λ rows. IsFound c.args.version old rows.items) c.sound_rows.result
    (λ rows sound. found_after c.args.version old mid it.0 it.0 rows.items ours.rest is_so ours.database c.is_of_version.ensures.stays late
    (it.2 clean) refl (sound it.0 it.1).0) c.sound_rows.ensures.sound

pub returns-clause-bad : goal.returns-clause-bad
returns-clause-bad g c clean bad rows has sound =
    let old = state g.S.Store c.args.conn.now in
    let mid = state g.S.Store c.is_of_version.new.conn in
    let same : c.in-Some.shaped ≡ c.args.version = search rules in
    let ours : IsShaped c.args.version old = subst (λ v. IsShaped v old) same c.in-Some.ensures.shaped in
    let late : HasCleanDisk mid = omega (arith, c.rows_judged.ensures.stays.survives.clean, clean) in
    let it = c.in_ok-judgement.ensures.judged in
    c.sound_rows.ensures.bad bad it.0 it.1 rows
    (sound_after c.args.version old mid it.0 it.0 rows ours.rest c.is_of_version.ensures.stays late (it.2 clean) refl has sound)
