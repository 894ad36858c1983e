-- Modalities in Study (PS3.4 section C.3.4).
use Rattle.std.specs.Prelude.{◌≡◌, ◌⊎◌, ◌≤◌, ℕ, Bool, List, filter, length, nat_le, ◌&&◌}
use Rattle.std.specs.declared.cmp.Ordering.TheVariants.{Less}
use Rattle.std.specs.List.{AllByRecursion}
use Rattle.std.specs.List.Sorted.{IsStrictlySortedBy}
use Rattle.dq_list.specs.Among.{IsAmong}
use Rattle.dq_vr.specs.declared.Vr.TheVariants.{CS}
use Rattle.dq_vr.specs.Tags as tags
use Rattle.dq_value.specs.Parts.{element_values}
use Rattle.dq_dataset.specs.Tree.{ElementList}
use Rattle.dq_dataset.specs.Values.{element_at, element_octets}
use Rattle.dq_tables.specs.Rows.{Record, octet_order}
use Rattle.dq_tables.specs.Records.{data_set_of}

-- a modality has 1 to 16 octets (VR CS, PS3.5 section 6.2)
abbrev pub is_modality : List ℕ → Bool
is_modality value = nat_le 1 (length value) && nat_le (length value) 16

unfoldable pub modalities_of : ElementList → List (List ℕ)
modalities_of series = filter is_modality (element_values CS (element_octets (element_at tags.modality series)))

-- of so many modalities the first are told
abbrev pub modality_limit : ℕ
modality_limit = 1000

-- the value is a modality of one of the series
abbrev pub IsModalityOf : List Record → List ℕ → Type 0
IsModalityOf series value =
    (r : Record) × IsAmong r series × IsAmong value (modalities_of (data_set_of r.octets))

-- as many values are told as may be, and this one comes after each of them
abbrev pub IsPast : List (List ℕ) → List ℕ → Type 0
IsPast told value =
    (length told ≡ modality_limit)
    × AllByRecursion (λ (one : List ℕ). octet_order one value ≡ Less) told

-- The values that are told of some series: in the order of their octets, no two alike, each a
-- modality of one of the series, at most 1,000, and every modality but what comes after 1,000.
pub record AreModalities (series : List Record) (told : List (List ℕ)) : Type 0 where
  pub in_order : IsStrictlySortedBy octet_order told
  pub own : (value : List ℕ) → IsAmong value told → IsModalityOf series value
  pub few : length told ≤ modality_limit
  pub all : (value : List ℕ) → IsModalityOf series value → IsAmong value told ⊎ IsPast told value
