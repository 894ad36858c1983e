-- The octets of a value in the canonical spelling.
use Rattle.std.specs.Prelude.{ℕ, length}
use Rattle.dq_dataset.specs.declared.header.Syntax.{Syntax}
use Rattle.dq_dataset.specs.declared.data_set.Value.{Value}
use Rattle.dq_dataset.specs.declared.data_set.Value.TheVariants.{Octets, Items}
use Rattle.dq_dataset.specs.View.{items_of}
use Rattle.dq_dataset.specs.Canonical.{canonical_items}

abbrev pub value_octet_count : Syntax → Value → ℕ
value_octet_count syntax (Octets octets) = length octets
value_octet_count syntax (Items items) = length (canonical_items syntax (items_of items))
