-- Which worklist entries a performed procedure step starts.
use Rattle.std.specs.Prelude.{ℕ, Bool, List, [], map, filter, Option, Some, None}
use Rattle.std.specs.List.{filter_map, list_any}
use Rattle.std.specs.Str.{bytes_eq}
use Rattle.dq_vr.specs.declared.Tag.{Tag}
use Rattle.dq_vr.specs.Tags.{scheduled_step_attributes_sequence}
use Rattle.dq_dataset.specs.declared.data_set.Element.{Element}
use Rattle.dq_dataset.specs.declared.data_set.Value.TheVariants.{Octets, Items}
use Rattle.dq_dataset.specs.Tree.{ElementList}
use Rattle.dq_dataset.specs.Values.{element_at}
use Rattle.dq_tables.specs.declared.row.Kind.TheVariants.{Entry}
use Rattle.dq_tables.specs.Rows.{Record}
use Rattle.dq_tables.specs.Lookups.{records_of}
use Rattle.dq_tables.specs.Keys.{id_of}

-- the items of a sequence
unfoldable pub sequence_items : Option Element → List ElementList
sequence_items None = []
sequence_items (Some e) = elim e.value [ Octets octets ↦ [] | Items items ↦ items ]

unfoldable pub items_at : Tag → ElementList → List ElementList
items_at tag d = sequence_items (element_at tag d)

-- A performed procedure step names the scheduled steps that it performs by their ids, each in an
-- item of its Scheduled Step Attributes Sequence (0040,0270) (PS3.4 table F.7.2-1).
unfoldable pub ids_named : ElementList → List (List ℕ)
ids_named step = filter_map id_of (items_at scheduled_step_attributes_sequence step)

abbrev pub names : ElementList → List ℕ → Bool
names step id = list_any (bytes_eq id) (ids_named step)

-- the ids of the kept entries that it names, in the order of the records
unfoldable pub entries_named : List Record → ElementList → List (List ℕ)
entries_named records step =
    map (λ (r : Record). r.key)
    (filter (λ (r : Record). names step r.key) (records_of Entry records))
