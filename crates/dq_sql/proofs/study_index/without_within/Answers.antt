use Rattle.dq_sql.proofs.study_index.without_within.Goals as goal

pub returns-in-Patient-clause-found : goal.returns-in-Patient-clause-found
returns-in-Patient-clause-found g c clean = rw c.in-Patient.is (c.without_patient.ensures.found clean)

pub returns-in-Day-clause-found : goal.returns-in-Day-clause-found
returns-in-Day-clause-found g c clean = rw c.in-Day.is (c.without_day.ensures.found clean)
