-- Elements of texts are data sets.
use Rattle.std.proofs.Common.{◌≡◌, ◌≢◌, ℕ, ◌+◌, ◌%◌, ◌<◌, ◌^◌, Bool, true, false, cond, nat_eq, List, [], ◌∷◌, ◌++◌, length, Option, Some, None, unwrap_or, codes, refl, ap, ◌∙◌, arith, length-append}
use Rattle.std.specs.Fmt.{decimal}
use Rattle.std.proofs.lemmas.Bool.Decides.{nat_tests}
use Rattle.dq_vr.specs.declared.Tag.{Tag}
use Rattle.dq_vr.specs.declared.Vr.{Vr}
use Rattle.dq_vr.specs.declared.Vr.TheVariants.{AE, CS, IS, UN}
use Rattle.dq_vr.specs.Tag.{is_below}
use Rattle.dq_vr.specs.Tags as tags
use Rattle.dq_vr.specs.Dictionary.{dictionary, vr_in, known_vr}
use Rattle.dq_dataset.specs.declared.data_set.Element.{Element}
use Rattle.dq_dataset.specs.declared.data_set.Value.TheVariants.{Octets}
use Rattle.dq_dataset.specs.Rules.{pad_of, padded_value, is_sequence}
use Rattle.dq_dataset.specs.DataSetReader.{follows}
use Rattle.dq_dataset.specs.Facts.{IsElementTag, IsPlain, IsDataSet}
use Rattle.dq_dataset.specs.Tree.{no_elements}
use Rattle.dq_dataset.specs.View.{as_elements}
use Rattle.dq_find.specs.declared.level.Level.{Level}
use Rattle.dq_find.specs.Texts.{text}
use Rattle.dq_find.specs.ComputedKeys.{study_values, series_values}
use Rattle.dq_value.specs.Title.{without_spaces}
use Rattle.dq_find.specs.Levels.{level_name}
use Rattle.dq_find.specs.Queries.{about_answers}

other_number : (a b : ℕ) → nat_eq a b ≡ false → a ≢ b
other_number a b h e = absurd (grind (arith, nat_tests))

same_number : (a b : ℕ) → nat_eq a b ≡ true → a ≡ b
same_number a b h = grind (arith, nat_tests)

odd_filled : (n : ℕ) → n % 2 ≢ 0 → (n + 1) % 2 ≡ 0
odd_filled n h = omega arith

even_by : (b : Bool) (vr : Vr) (value : List ℕ) → nat_eq (length value % 2) 0 ≡ b → length (cond b value (value ++ pad_of vr ∷ [])) % 2 ≡ 0
even_by true vr value h = same_number (length value % 2) 0 h
even_by false vr value h = rw (length-append value (pad_of vr ∷ [])) (odd_filled (length value) (other_number (length value % 2) 0 h))

plain : (tag : Tag) (vr : Vr) (value : List ℕ) → vr ≡ unwrap_or (known_vr tag) UN → is_sequence (known_vr tag) ≡ false → IsPlain tag vr (padded_value vr value)
plain tag vr value known no_sequence = grind (arith, nat_tests, even_by)

placed : (last : Option Tag) (tag : Tag) → follows last tag ≡ true → tag.group ≢ 0xFFFE → tag.element ≢ 0 → tag.group < 2 ^ 16
    → tag.element < 2 ^ 16 → IsElementTag last tag
placed last tag rises no_delimiter no_length group number = grind (arith, nat_tests)

pub study_values_facts : (modalities : List ℕ) (series images : ℕ) → IsDataSet (study_values modalities series images)
unfolding study_values known_vr vr_in dictionary is_below
study_values_facts modalities series images = (
  placed None tags.modalities_in_study refl (omega arith) (omega arith) (omega arith) (omega arith),
  plain tags.modalities_in_study CS modalities refl refl,
  (
    placed (Some tags.modalities_in_study) tags.number_of_study_related_series refl (omega arith) (omega arith) (omega arith) (omega arith),
    plain tags.number_of_study_related_series IS (decimal series) refl refl,
    (
      placed (Some tags.number_of_study_related_series) tags.number_of_study_related_instances refl (omega arith) (omega arith) (omega arith) (omega arith),
      plain tags.number_of_study_related_instances IS (decimal images) refl refl,
      tt,
    ),
  ),
)

pub series_values_facts : (images : ℕ) → IsDataSet (series_values images)
unfolding series_values known_vr vr_in dictionary is_below
series_values_facts images = (
  placed None tags.number_of_series_related_instances refl (omega arith) (omega arith) (omega arith) (omega arith),
  plain tags.number_of_series_related_instances IS (decimal images) refl refl,
  tt,
)

pub about_answers_facts : (called : List ℕ) (level : Level) → IsDataSet (about_answers called level)
unfolding about_answers known_vr vr_in dictionary is_below
about_answers_facts called level = (
  placed None tags.query_retrieve_level refl (omega arith) (omega arith) (omega arith) (omega arith),
  plain tags.query_retrieve_level CS (level_name level) refl refl,
  (
    placed (Some tags.query_retrieve_level) tags.retrieve_ae_title refl (omega arith) (omega arith) (omega arith) (omega arith),
    plain tags.retrieve_ae_title AE (without_spaces called) refl refl,
    (
      placed (Some tags.retrieve_ae_title) tags.instance_availability refl (omega arith) (omega arith) (omega arith) (omega arith),
      plain tags.instance_availability CS (codes "UNAVAILABLE") refl refl,
      tt,
    ),
  ),
)

-- ---- elements that are made of texts

abbrev text_element : Tag → Vr → List ℕ → Element
text_element tag vr value = record { tag = tag; vr = vr; value = Octets (padded_value vr value) }

pub study_values_of : (elements : List Element) (modalities series_text images_text : List ℕ) (series images : ℕ)
    → elements ≡ text_element tags.modalities_in_study CS modalities
    ∷ (text_element tags.number_of_study_related_series IS series_text ∷ (text_element tags.number_of_study_related_instances IS images_text ∷ []))
    → series_text ≡ decimal series → images_text ≡ decimal images → as_elements elements ≡ study_values modalities series images
unfolding study_values
study_values_of elements modalities series_text images_text series images made told_series told_images = grind (arith, nat_tests)

pub series_values_of : (elements : List Element) (images_text : List ℕ) (images : ℕ)
    → elements ≡ text_element tags.number_of_series_related_instances IS images_text ∷ [] → images_text ≡ decimal images
    → as_elements elements ≡ series_values images
unfolding series_values
series_values_of elements images_text images made told_images =
    ap as_elements made ∙ (λ i. text tags.number_of_series_related_instances IS (told_images i) no_elements)

pub about_answers_of : (elements : List Element) (name title called : List ℕ) (level : Level)
    → elements ≡ text_element tags.query_retrieve_level CS name
    ∷ (text_element tags.retrieve_ae_title AE title ∷ (text_element tags.instance_availability CS (codes "UNAVAILABLE") ∷ []))
    → name ≡ level_name level → title ≡ without_spaces called → as_elements elements ≡ about_answers called level
unfolding about_answers
about_answers_of elements name title called level made is_name is_title = grind (arith, nat_tests)
