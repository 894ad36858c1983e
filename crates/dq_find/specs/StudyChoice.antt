-- The patient and the day that a query at the level of studies asks for, which are kept beside a study's
-- data set. This is there for the prover: what is answered is
-- `answers_of_records` of Queries.
use Rattle.std.specs.Prelude.{ℕ, Bool, true, List, Option, None}
use Rattle.dq_vr.specs.Tags as tags
use Rattle.dq_dataset.specs.Tree.{ElementList}
use Rattle.dq_dataset.specs.Values.{sole_at}
use Rattle.dq_match.specs.SeveralValues.{is_plain}
use Rattle.dq_tables.specs.declared.choice.Choice.{Choice}
use Rattle.dq_tables.specs.Rows.{Record}
use Rattle.dq_tables.specs.Keys.{value_passing}
use Rattle.dq_tables.specs.StudyQuery.{choice_asking}
use Rattle.dq_tables.specs.StudyChoices.{is_chosen}
use Rattle.dq_find.specs.declared.level.Level.{Level}
use Rattle.dq_find.specs.declared.level.Level.TheVariants.{Study}

-- one patient without wild cards
abbrev pub patient_asked : ElementList → Option (List ℕ)
patient_asked keys = value_passing is_plain (sole_at tags.patient_id keys)

-- the choice by the patient, and by one value of Study Date: one date, or one range of dates
unfoldable pub choice_in : ElementList → Choice
choice_in keys = choice_asking None (patient_asked keys) (sole_at tags.study_date keys)

-- of other levels every record that is asked for is looked at
abbrev pub is_asked : Level → ElementList → Record → Bool
is_asked Study keys r = is_chosen (choice_in keys) r
is_asked level keys r = true
