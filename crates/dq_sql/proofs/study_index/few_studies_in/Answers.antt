use Rattle.std.proofs.Common.{rules, ◌≡◌, Some, None}
use Rattle.std.proofs.lemmas.Result.{IfOk-weaker}
use Rattle.sqlite.specs.Held.{state}
use Rattle.dq_sql.proofs.ChosenStudies.{few_weaker, from_key, from_patient, from_days, from_all}
use Rattle.dq_sql.proofs.study_index.few_studies_in.Goals as goal

pub returns-in-Some-clause-found : goal.returns-in-Some-clause-found
returns-in-Some-clause-found g c clean =
    let asked : c.args.choice.now.uid ≡ Some c.as_slice.result.now = search rules in
    from_key (state g.S.Store c.args.conn.now) c.args.choice.now c.args.institution.now c.in_ok-rows.rows c.as_slice.result.now c.in_ok-among.field-0
    asked (c.in_ok-rows.ensures.found clean) c.in_ok-among.ensures

pub returns-in-Some-patient-clause-found : goal.returns-in-Some-patient-clause-found
returns-in-Some-patient-clause-found g c clean =
    let none : c.args.choice.now.uid ≡ None = search rules in
    let asked : c.args.choice.now.patient ≡ Some c.as_slice-in-Some-patient.result.now = search rules in
    let found = rw c.in-Some-few.is at (c.in_ok-few.ensures.found clean) in
    from_patient (state g.S.Store c.args.conn.now) c.args.choice.now c.args.institution.now c.in-Some-few.rows
    c.as_slice-in-Some-patient.result.now c.in_ok-among-2.field-0 none asked found c.in_ok-among-2.ensures

pub returns-in-None-None-clause-found : goal.returns-in-None-None-clause-found
returns-in-None-None-clause-found g c clean =
    let none : c.args.choice.now.uid ≡ None = search rules in
    let unasked : c.args.choice.now.patient ≡ None = search rules in
    IfOk-weaker c.all_within.result _ _
    (λ few. few_weaker c.args.many c.args.institution.now (state g.S.Store c.args.conn.now) few _ _
    (λ list. from_all (state g.S.Store c.args.conn.now) c.args.choice.now c.args.institution.now list none unasked c.in-None-None.is-0 c.in-None-None.is-1))
    (c.all_within.ensures.found clean)

pub returns-in_default-2-clause-found : goal.returns-in_default-2-clause-found
returns-in_default-2-clause-found g c clean =
    let none : c.args.choice.now.uid ≡ None = search rules in
    let unasked : c.args.choice.now.patient ≡ None = search rules in
    IfOk-weaker c.by_days.result _ _
    (λ few. few_weaker c.args.many c.args.institution.now (state g.S.Store c.args.conn.now) few _ _
    (λ list. from_days (state g.S.Store c.args.conn.now) c.args.choice.now c.args.institution.now list none unasked))
    (c.by_days.ensures.found clean)
