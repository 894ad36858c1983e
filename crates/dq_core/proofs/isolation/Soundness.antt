-- Rows that are sound and hold data sets.
use Rattle.std.proofs.Common.{◌≡◌, ℕ, List, [], ◌∷◌, Result, Ok, Err, refl}
use Rattle.std.specs.List.{AllByRecursion}
use Rattle.std.specs.Result.{result_unwrap_or}
use Rattle.dq_core.proofs.isolation.Vocabulary.{AreOctets, Syntax, ElementList, no_elements, Row, IsSound, HoldDataSets, HoldSound}
use Rattle.dq_dataset.specs.declared.fault.ReadFault.{ReadFault}
use Rattle.dq_dataset.specs.declared.header.Syntax.TheVariants.{Explicit}
use Rattle.dq_dataset.specs.DataSetReader.{data_set_read}
use Rattle.dq_dataset.specs.Grammar.{IsSpelled}
use Rattle.dq_dataset.specs.Facts.{IsDataSet}
use Rattle.dq_tables.specs.Rows.{IsRising}
use Rattle.dq_tables.specs.Records.{data_set_of}

pub none-sound : HoldSound []
unfolding IsRising
none-sound = record { sound = record { rising = tt; own = tt; held = tt }; data_sets = tt }

-- ---- octets of data sets

abbrev ReadIsSpelled : Type 0
ReadIsSpelled = (syntax : Syntax) (octets : List ℕ) (d : ElementList) → AreOctets octets → data_set_read syntax octets ≡ Ok d → IsSpelled syntax octets d

abbrev SpelledIsDataSet : Type 0
SpelledIsDataSet = (syntax : Syntax) (octets : List ℕ) (d : ElementList) → IsSpelled syntax octets d → IsDataSet d

read-data_set : ReadIsSpelled → SpelledIsDataSet → (octets : List ℕ) → AreOctets octets → (read : Result ElementList ReadFault)
    → data_set_read Explicit octets ≡ read → IsDataSet (result_unwrap_or read no_elements)
read-data_set spelled facts octets are (Ok d) e = facts Explicit octets d (spelled Explicit octets d are e)
read-data_set spelled facts octets are (Err fault) e = tt

is-data_set : ReadIsSpelled → SpelledIsDataSet → (octets : List ℕ) → AreOctets octets → IsDataSet (data_set_of octets)
unfolding data_set_of
is-data_set spelled facts octets are = read-data_set spelled facts octets are (data_set_read Explicit octets) refl

each-holds : ReadIsSpelled → SpelledIsDataSet → (rows : List Row) → AllByRecursion (λ (row : Row). AreOctets row.octets) rows → HoldDataSets rows
each-holds spelled facts [] are = tt
each-holds spelled facts (row ∷ rows) are = (is-data_set spelled facts row.octets are.0, each-holds spelled facts rows are.1)

pub octets-sound : ReadIsSpelled → SpelledIsDataSet → (rows : List Row) → IsSound rows → AllByRecursion (λ (row : Row). AreOctets row.octets) rows
    → HoldSound rows
octets-sound spelled facts rows sound are = record { sound = sound; data_sets = each-holds spelled facts rows are }
