-- The elements of one level, as they are spelled (PS3.5 section 7.1).
use Rattle.std.specs.Prelude.{ℕ, zero, suc, ◌-◌, ◌+◌, List, [], ◌∷◌, length, take, Option, Some, None, Result, Ok, Err, ◌==◌, if◌then◌else◌}
use Rattle.dq_vr.specs.declared.Tag.{Tag}
use Rattle.dq_vr.specs.declared.Vr.{Vr}
use Rattle.dq_dataset.specs.declared.fault.ReadFault.{ReadFault}
use Rattle.dq_dataset.specs.declared.header.Syntax.{Syntax}
use Rattle.dq_dataset.specs.declared.header.Content.{Content}
use Rattle.dq_dataset.specs.declared.header.Content.TheVariants.{Plain, Sequence}
use Rattle.dq_dataset.specs.declared.header.Header.{Header}
use Rattle.dq_dataset.specs.declared.data_set.Value.{Value}
use Rattle.dq_dataset.specs.DataSetReader.{◌>>=◌, length_of, header_at, value_by, readers}

-- An element as it is spelled: its tag, the VR that the data set has, the syntax in which its items
-- are spelled, where it has items, and the octets of its value, without the end of an undefined
-- length.
pub record Spelled : Type 0 where
  pub tag : Tag
  pub vr : Vr
  pub syntax : Syntax
  pub octets : List ℕ

-- The rest after the part that was read.
abbrev pub rest_of : {X : Type 0} → Result (X × List ℕ) ReadFault → Result (List ℕ) ReadFault
rest_of read = read >>= λ x. Ok x.1

-- The header that was read, and what is left after its value.
abbrev pub header_in : Option (Header × Value) → Option Header
header_in None = None
header_in (Some found) = Some found.0

abbrev pub front_header : Result (Option (Header × Value) × List ℕ) ReadFault
    → Result (Option Header × List ℕ) ReadFault
front_header read = read >>= λ x. Ok (header_in x.0, x.1)

-- Whether an item was read, and what is left after it.
abbrev pub is_there : {X : Type 0} → Option X → Option (Unit {0})
is_there None = None
is_there (Some found) = Some tt

abbrev pub item_of : {X : Type 0} → Result (Option X × List ℕ) ReadFault
    → Result (Option (Unit {0}) × List ℕ) ReadFault
item_of read = read >>= λ x. Ok (is_there x.0, x.1)

-- The octets of a value before the rest. An end of its own has 8 octets.
abbrev pub octets_before_rest : Option ℕ → List ℕ → List ℕ → List ℕ
octets_before_rest (Some n) octets rest = take n octets
octets_before_rest None octets rest = take (length octets - length rest - 8) octets

-- The syntax of a value's items. Other values have that of their data set.
abbrev pub inner_syntax : Syntax → Content → Syntax
inner_syntax outer (Plain n) = outer
inner_syntax outer (Sequence inner extent) = inner

-- The next element of the outer level: its header, the octets of its value, and what is left.
unfoldable pub next_at : Syntax → Option Tag → List ℕ
    → Result ((Header × List ℕ) × List ℕ) ReadFault
next_at syntax last octets = do
  header ← header_at syntax 16 last octets
  value ← value_by (readers (length header.1 + 1)) 16 header.0.vr header.0.content header.1
  Ok ((header.0, octets_before_rest (length_of header.0.content) header.1 value.1), value.1)

abbrev pub spelled_as : Syntax → Header → List ℕ → Spelled
spelled_as outer header octets = record {
  tag = header.tag;
  vr = header.vr;
  syntax = inner_syntax outer header.content;
  octets = octets;
}

-- Group lengths are left out, and nothing follows a fault.
abbrev pub lent_after : Syntax → (Option Tag → List ℕ → List (Result Spelled ReadFault))
    → Result ((Header × List ℕ) × List ℕ) ReadFault → List (Result Spelled ReadFault)
lent_after syntax more (Err fault) = Err fault ∷ []
lent_after syntax more (Ok next) =
    if next.0.0.tag.element == 0 then more (Some next.0.0.tag) next.1
    else (Ok (spelled_as syntax next.0.0 next.0.1) ∷ more (Some next.0.0.tag) next.1)

unfoldable pub lent_in : ℕ → Syntax → Option Tag → List ℕ → List (Result Spelled ReadFault)
lent_in zero syntax last octets = []
lent_in (suc n) syntax last octets =
    if length octets == 0 then []
    else lent_after syntax (lent_in n syntax) (next_at syntax last octets)

-- The elements after the tag last: one for each, up to the end or the first fault.
abbrev pub lent_from : Syntax → Option Tag → List ℕ → List (Result Spelled ReadFault)
lent_from syntax last octets = lent_in (length octets) syntax last octets

abbrev pub lent_elements : Syntax → List ℕ → List (Result Spelled ReadFault)
lent_elements syntax octets = lent_from syntax None octets
