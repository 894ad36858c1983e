-- Keys that are computed of the records below a study and below a series (PS3.4 sections C.3.4 and
-- C.6.2.1).
use Rattle.std.specs.Prelude.{ℕ, List, [], ◌∷◌, ◌++◌, length, take, sum_by}
use Rattle.std.specs.declared.cmp.Ordering.{Ordering}
use Rattle.std.specs.declared.cmp.Ordering.TheVariants.{Less, Equal, Greater}
use Rattle.std.specs.Fmt.{decimal}
use Rattle.std.specs.List.{flat_map}
use Rattle.dq_vr.specs.declared.Vr.TheVariants.{CS, IS}
use Rattle.dq_vr.specs.Tags as tags
use Rattle.dq_dataset.specs.Tree.{ElementList, no_elements}
use Rattle.dq_dataset.specs.Editing.{merged_data_set}
use Rattle.dq_tables.specs.declared.row.Kind.TheVariants.{Series as SeriesKind, Image as ImageKind}
use Rattle.dq_tables.specs.Rows.{Record, octet_order}
use Rattle.dq_tables.specs.Records.{data_set_of}
use Rattle.dq_tables.specs.Lookups.{records_above}
use Rattle.dq_find.specs.Texts.{text}
use Rattle.dq_find.specs.Modalities.{modality_limit, modalities_of}
use Rattle.dq_find.specs.declared.level.Level.{Level}
use Rattle.dq_find.specs.declared.level.Level.TheVariants.{Study, Series, Image}

-- a value takes its place among others in the order of octets, where it is not there yet
abbrev pub value_inserted : Ordering → List ℕ → List ℕ → List (List ℕ) → List (List ℕ) → List (List ℕ)
value_inserted Less value first others with_value = value ∷ (first ∷ others)
value_inserted Equal value first others with_value = first ∷ others
value_inserted Greater value first others with_value = first ∷ with_value

unfoldable pub put_in_order : List ℕ → List (List ℕ) → List (List ℕ)
put_in_order value [] = value ∷ []
put_in_order value (first ∷ others) =
    value_inserted (octet_order value first) value first others (put_in_order value others)

unfoldable pub all_in_order : List (List ℕ) → List (List ℕ) → List (List ℕ)
all_in_order [] others = others
all_in_order (value ∷ values) others = all_in_order values (put_in_order value others)

-- the modalities of some series: those of `AreModalities`, computed
unfoldable pub modalities_in : List Record → List (List ℕ)
modalities_in series =
    take modality_limit
    (all_in_order (flat_map (λ (r : Record). modalities_of (data_set_of r.octets)) series) [])

-- values with a backslash between them (PS3.5 section 6.4)
abbrev pub backslash_joined : List (List ℕ) → List ℕ
backslash_joined [] = []
backslash_joined (first ∷ others) = first ++ flat_map (λ value. 0x5c ∷ value) others

-- how many images some series have
abbrev pub images_below : List Record → List Record → ℕ
images_below records series =
    sum_by (λ (one : Record). length (records_above ImageKind one.key records)) series

unfoldable pub study_values : List ℕ → ℕ → ℕ → ElementList
study_values modalities series images =
    text tags.modalities_in_study CS modalities
    (text tags.number_of_study_related_series IS (decimal series)
    (text tags.number_of_study_related_instances IS (decimal images) no_elements))

unfoldable pub series_values : ℕ → ElementList
series_values images = text tags.number_of_series_related_instances IS (decimal images) no_elements

-- what is computed of a record
unfoldable pub computed_keys : List Record → Level → List ℕ → ElementList
computed_keys records Study key =
    let series = records_above SeriesKind key records in
    study_values (backslash_joined (modalities_in series)) (length series) (images_below records series)
computed_keys records Series key = series_values (length (records_above ImageKind key records))
computed_keys records Image key = no_elements

-- a record with what is computed of it
abbrev pub with_computed : List Record → Level → Record → ElementList
with_computed records level r = merged_data_set (data_set_of r.octets) (computed_keys records level r.key)
