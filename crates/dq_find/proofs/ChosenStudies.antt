-- A study that fits the keys of a query is one that is chosen.
use Rattle.std.proofs.Common.{◌≡◌, ℕ, true, ◌&&◌, List, Some, refl, ap, ◌∙◌}
use Rattle.std.specs.List.{AllByRecursion}
use Rattle.dq_vr.specs.declared.Vr.TheVariants.{DA, LO}
use Rattle.dq_vr.specs.Dictionary.{dictionary, vr_in, known_vr}
use Rattle.dq_vr.specs.Tags as tags
use Rattle.dq_dataset.specs.Tree.{ElementList}
use Rattle.dq_dataset.specs.View.{elements_of}
use Rattle.dq_dataset.specs.Values.{element_at, sole_at}
use Rattle.dq_dataset.proofs.KnownVrs.{HasKnownVr}
use Rattle.dq_match.specs.declared.keys.Nesting.TheVariants.{Outer}
use Rattle.dq_match.specs.StandardMatching.{EachIsMet}
use Rattle.dq_match.specs.SeveralValues.{is_plain}
use Rattle.dq_tables.specs.declared.row.Kind.{Kind}
use Rattle.dq_tables.specs.declared.row.Kind.TheVariants.{Study}
use Rattle.dq_tables.specs.Rows.{Record}
use Rattle.dq_tables.specs.Records.{data_set_of}
use Rattle.dq_tables.specs.Labels.{patient_in, day_in}
use Rattle.dq_tables.specs.StudyChoices.{has_labels, is_chosen}
use Rattle.dq_find.specs.StudyChoice.{choice_in}
use Rattle.dq_match.proofs.OneValue.{IsBetween, plain_long, date_between}
use Rattle.dq_tables.specs.StudyQuery.{ends_asked}
use Rattle.dq_tables.proofs.TakenStudies.{DaysAreInOrder, patient_taken, days_taken}
use Rattle.dq_find.proofs.NamedRecords.{IsKeyOf, one_alone}

patient_key : IsKeyOf LO tags.patient_id
unfolding known_vr vr_in dictionary
patient_key = (refl, refl, refl)

date_key : IsKeyOf DA tags.study_date
unfolding known_vr vr_in dictionary
date_key = (refl, refl, refl)

-- the elements of a study that are asked for stay beside what is computed of it
pub record Stay (d held : ElementList) : Type 0 where
  pub patient : element_at tags.patient_id held ≡ element_at tags.patient_id d
  pub date : element_at tags.study_date held ≡ element_at tags.study_date d

pub fit_is_chosen : DaysAreInOrder → (keys held : ElementList) (r : Record) → r.kind ≡ Study
    → AllByRecursion HasKnownVr (elements_of keys) → AllByRecursion HasKnownVr (elements_of (data_set_of r.octets)) → Stay (data_set_of r.octets) held
    → EachIsMet Outer keys held → is_chosen (choice_in keys) r ≡ true
unfolding is_chosen choice_in
fit_is_chosen law keys held r is known_keys known stay each =
    let d = data_set_of r.octets in
    let patient = patient_taken is_plain (sole_at tags.patient_id keys) (sole_at tags.patient_id d)
    (λ key value asked said plain. plain_long key value plain
    (one_alone LO tags.patient_id patient_key keys d held known_keys known stay.patient each key value asked said)) in
    let between : (key value : List ℕ) → sole_at tags.study_date keys ≡ Some key → sole_at tags.study_date d ≡ Some value → IsBetween (ends_asked key) value =
    λ key value asked said. date_between key value (one_alone DA tags.study_date date_key keys d held known_keys known stay.date each key value asked said) in
    let days = days_taken law (sole_at tags.study_date keys) (sole_at tags.study_date d)
    (λ key value first x y asked said. (between key value asked said).from first x y)
    (λ key value last x y asked said. (between key value asked said).until last x y) in
    ap (λ (k : Kind). has_labels (choice_in keys) (patient_in k d) (day_in k d)) is
    ∙ (λ i. patient i && days i)
